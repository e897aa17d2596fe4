-- For proofs and private contracts alone: the names that tokens use.
use Rattle.std.specs.Prelude.{Bool, true, List, Some}
use Rattle.fdt_tree.specs.Tree.{Bytes}
use Rattle.fdt_read.specs.Tokens.{Token, property}
use Rattle.fdt_write.specs.Strings.{is_among}
use Rattle.fdt_write.specs.PrivateNames.{with_name}

-- The names, and that of a property, if it is not among them.
abbrev pub with_used : List Bytes → Token → List Bytes
with_used names (property (Some name) value) = with_name names name
with_used names _ = names

-- Whether the name that a token uses, if it uses one, is among these.
abbrev pub is_named : List Bytes → Token → Bool
is_named names (property (Some name) value) = is_among names name
is_named names _ = true
