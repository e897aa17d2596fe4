-- For proofs and private contracts alone: which tokens have a name that cannot be printed, and the lines of tokens.
use Rattle.std.specs.Prelude.{ℕ, zero, suc, ◌-◌, Bool, false, not, ◌++◌, List, [], ◌∷◌, Some, codes}
use Rattle.std.specs.List.{list_all}
use Rattle.fdt_tree.specs.Tree.{Bytes}
use Rattle.fdt_read.specs.Tokens.{Token, begin_node, end_node, property}
use Rattle.fdt_write.specs.Opened.{shown, opened_after}
use Rattle.source_text.specs.BadNames.{is_bad_node}
use Rattle.source_text.specs.Characters.{is_property_byte}
use Rattle.source_text.specs.Printed.{line, property_line}

-- The name of a node, as a token begins it: that of the root is not looked at.
abbrev pub is_bad_inside : List Bytes → Bytes → Bool
is_bad_inside [] name = false
is_bad_inside (above ∷ others) name = is_bad_node name

-- The name of a property, which stands in a node.
abbrev pub is_bad_property_inside : List Bytes → Bytes → Bool
is_bad_property_inside [] name = false
is_bad_property_inside (path ∷ others) name = not (list_all is_property_byte name)

-- The path of the innermost node, as it is shown.
abbrev pub innermost : List Bytes → Bytes
innermost [] = []
innermost (path ∷ others) = shown path

-- Whether a token has a name that cannot be printed.
abbrev pub is_bad_token : List Bytes → Token → Bool
is_bad_token opened (begin_node name) = is_bad_inside opened name
is_bad_token opened (property (Some name) value) = is_bad_property_inside opened name
is_bad_token opened _ = false

-- The path of the node that a token names.
abbrev pub token_path : List Bytes → Token → Bytes
token_path opened token = innermost (opened_after opened token)

-- How many nodes are open after a token.
abbrev pub depth_after : ℕ → Token → ℕ
depth_after depth (begin_node name) = suc depth
depth_after depth end_node = depth - 1
depth_after depth _ = depth

-- The text of the line that begins a node, where so many nodes are open: that of the root is named `/`.
abbrev pub begin_text : ℕ → Bytes → Bytes
begin_text zero name = codes "/ {"
begin_text (suc depth) name = name ++ codes " {"

-- The line that a token adds, where so many nodes are open.
abbrev pub token_line : ℕ → Token → Bytes
token_line depth (begin_node name) = line depth (begin_text depth name)
token_line depth (property (Some name) value) = property_line depth (name, value)
token_line depth end_node = line (depth - 1) (codes "};")
token_line depth _ = []
