-- The one printed text of a tree, as device tree source.
use Rattle.std.specs.Prelude.{ℕ, suc, ◌+◌, ◌/◌, nat_lt, Bool, false, ◌==◌, ◌%◌, not, ◌&&◌, List, [], ◌∷◌, ◌++◌, if◌then◌else◌, length, flat_map, replicate, codes}
use Rattle.std.specs.List.{list_all, slice_split}
use Rattle.std.specs.Int.{w32, from_be_bytes}
use Rattle.texts.specs.NumberTexts.{hexadecimal}
use Rattle.fdt_tree.specs.Tree.{Bytes, Property, Trees, none, tree, Tree}
use Rattle.fdt_tree.specs.Values.{strings}
use Rattle.fdt_tree.specs.declared.reserve.Reserve.{Reserve}
use Rattle.source_text.specs.Characters.{is_string_byte}

-- Things as they are shown, with a mark before each.
abbrev pub behind_marks : {A : Type 0} → Bytes → (A → Bytes) → List A → Bytes
behind_marks mark shown xs = flat_map (λ x. mark ++ shown x) xs

-- Things as they are shown, with a mark between each two.
abbrev pub joined : {A : Type 0} → Bytes → (A → Bytes) → List A → Bytes
joined mark shown [] = []
joined mark shown (x ∷ xs) = shown x ++ behind_marks mark shown xs

-- The bytes of a string that is shown in quotes: at least one, and only characters of strings.
abbrev pub is_string : Bytes → Bool
is_string text = not (length text == 0) && list_all is_string_byte text

-- Whether the pieces between NULs are strings, each ended by its NUL: nothing stands behind the last one.
abbrev pub are_ended_strings : List Bytes → Bool
are_ended_strings [] = false
are_ended_strings (last ∷ []) = length last == 0
are_ended_strings (piece ∷ next ∷ pieces) = is_string piece && are_ended_strings (next ∷ pieces)

-- Whether a value is shown as strings: NUL-ended pieces, at least one.
abbrev pub is_text : Bytes → Bool
is_text value = not (length value == 0) && are_ended_strings (slice_split (λ byte. byte == 0) value)

-- A string in quotes.
abbrev pub quoted : Bytes → Bytes
quoted text = codes "\"" ++ (text ++ codes "\"")

-- The big-endian words of a value.
abbrev pub words : Bytes → List ℕ
words (a ∷ b ∷ c ∷ d ∷ rest) = from_be_bytes w32 (a ∷ b ∷ c ∷ d ∷ []) ∷ words rest
words _ = []

-- The character of a lower-case hexadecimal digit.
abbrev pub digit_text : ℕ → ℕ
digit_text digit = if nat_lt digit 10 then 48 + digit else 87 + digit

-- A byte as two lower-case hexadecimal digits.
abbrev pub pair_text : ℕ → Bytes
pair_text byte = digit_text (byte / 16) ∷ digit_text (byte % 16) ∷ []

-- A value as strings in quotes, with commas between.
abbrev pub strings_text : Bytes → Bytes
strings_text value = joined (codes ", ") quoted (strings value)

-- A value as words in `<` `>`.
abbrev pub words_text : Bytes → Bytes
words_text value = codes "<" ++ (joined (codes " ") hexadecimal (words value) ++ codes ">")

-- A value as bytes in `[` `]`.
abbrev pub bytes_text : Bytes → Bytes
bytes_text value = codes "[" ++ (joined (codes " ") pair_text value ++ codes "]")

-- A value as it is printed.
unfoldable pub value_text : Bytes → Bytes
value_text value =
    if is_text value then strings_text value else if length value % 4 == 0 then words_text value else bytes_text value

-- A line: a tab for each node that it stands in, a text, and a line feed.
abbrev pub line : ℕ → Bytes → Bytes
line depth text = replicate depth 9 ++ (text ++ 10 ∷ [])

-- What follows a property's name: its value, if it has one, and a semicolon.
abbrev pub after_name : Bytes → Bytes
after_name value = if length value == 0 then codes ";" else codes " = " ++ (value_text value ++ codes ";")

-- The line of a property.
abbrev pub property_line : ℕ → Property → Bytes
property_line depth property = line depth (property.0 ++ after_name property.1)

-- The lines of properties.
abbrev pub properties_lines : ℕ → List Property → Bytes
properties_lines depth properties = flat_map (property_line depth) properties

-- The lines of trees: each one's name and `{`, its properties, its children, and `};`.
abbrev pub trees_lines : ℕ → Trees → Bytes
trees_lines depth none = []
trees_lines depth (tree name properties children rest) =
    line depth (name ++ codes " {") ++ (properties_lines (suc depth) properties ++ (trees_lines (suc depth) children ++ (line depth (codes "};") ++ trees_lines depth rest)))

-- The lines of a whole tree, whose root is named `/`.
abbrev pub tree_lines : Tree → Bytes
tree_lines t =
    line 0 (codes "/ {") ++ (properties_lines 1 t.properties ++ (trees_lines 1 t.children ++ line 0 (codes "};")))

-- The line of a reservation.
unfoldable pub reserve_line : Reserve → Bytes
reserve_line reserve =
    line 0 (codes "/memreserve/ " ++ (hexadecimal reserve.address ++ (codes " " ++ (hexadecimal reserve.size ++ codes ";"))))

-- The printed text: the version, the reservations and the tree.
abbrev pub printed : List Reserve → Tree → Bytes
printed reserves t = line 0 (codes "/dts-v1/;") ++ (flat_map reserve_line reserves ++ tree_lines t)
