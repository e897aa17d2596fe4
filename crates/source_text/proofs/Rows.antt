-- What some trees print, as computed.
use Rattle.std.proofs.Common.{◌≡◌, refl, [], ◌∷◌, ◌++◌}
use Rattle.std.specs.Prelude.{codes, Some, None}
use Rattle.std.specs.Fmt.{digits}
use Rattle.fdt_tree.specs.Tree.{Bytes, none, tree, Tree}
use Rattle.source_text.specs.Characters.{is_property_byte, is_node_byte, is_string_byte}
use Rattle.source_text.specs.Printed.{printed, value_text, reserve_line}
use Rattle.source_text.specs.BadNames.{first_bad}

-- One property of one word.
abbrev pub one_word : Tree
one_word = record { name = []; properties = (codes "a", 0 ∷ 0 ∷ 0 ∷ 1 ∷ []) ∷ []; children = none }

abbrev pub one_word_text : Bytes
one_word_text = codes "/dts-v1/;\n/ {\n\ta = <0x1>;\n};\n"

one_word_printed : printed [] one_word ≡ one_word_text
unfolding value_text digits is_string_byte
one_word_printed = refl

strings_shown : value_text (codes "ab" ++ 0 ∷ codes "c" ++ 0 ∷ []) ≡ codes "\"ab\", \"c\""
unfolding value_text is_string_byte
strings_shown = refl

-- An empty string is none, so four bytes are a word.
empty_string_is_word : value_text (97 ∷ 98 ∷ 0 ∷ 0 ∷ []) ≡ codes "<0x61620000>"
unfolding value_text digits is_string_byte
empty_string_is_word = refl

two_words : value_text (0 ∷ 0 ∷ 0 ∷ 2 ∷ 0 ∷ 0 ∷ 0 ∷ 0 ∷ []) ≡ codes "<0x2 0x0>"
unfolding value_text digits is_string_byte
two_words = refl

bytes_shown : value_text (10 ∷ 11 ∷ []) ≡ codes "[0a 0b]"
unfolding value_text is_string_byte
bytes_shown = refl

-- A quote is no character of a string.
quote_is_bytes : value_text (34 ∷ 0 ∷ []) ≡ codes "[22 00]"
unfolding value_text is_string_byte
quote_is_bytes = refl

reserve_shown : reserve_line (record { address = 0x80000000; size = 0x10000 }) ≡ codes "/memreserve/ 0x80000000 0x10000;\n"
unfolding digits reserve_line
reserve_shown = refl

-- Two nodes inside each other, the inner one with an empty property.
abbrev nested : Tree
nested = record { name = []; properties = []; children = tree (codes "a") [] (tree (codes "b@1") ((codes "#x?", []) ∷ []) none none) none }

nested_printed : printed [] nested ≡ codes "/dts-v1/;\n/ {\n\ta {\n\t\tb@1 {\n\t\t\t#x?;\n\t\t};\n\t};\n};\n"
nested_printed = refl

nested_fine : first_bad nested ≡ None
unfolding is_node_byte is_property_byte
nested_fine = refl

-- A `#` in the name of a node, behind an `@` in the name of a property of the node above.
bad_property_first : first_bad (record { name = []; properties = []; children = tree (codes "a") ((codes "p@", []) ∷ []) (tree (codes "b#") [] none none) none }) ≡ Some (codes "/a")
unfolding is_node_byte is_property_byte
bad_property_first = refl

bad_root : first_bad (record { name = []; properties = (codes "p@", []) ∷ []; children = none }) ≡ Some (codes "/")
unfolding is_node_byte is_property_byte
bad_root = refl

bad_node_below : first_bad (record { name = []; properties = []; children = tree (codes "a") [] (tree (codes "b?") [] none none) none }) ≡ Some (codes "/a/b?")
unfolding is_node_byte is_property_byte
bad_node_below = refl
