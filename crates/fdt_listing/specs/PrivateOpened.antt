-- For proofs and private contracts alone: the lines of the tokens of a tree.
use Rattle.std.specs.Prelude.{List, [], Some}
use Rattle.fdt_tree.specs.Tree.{Bytes}
use Rattle.fdt_read.specs.Tokens.{Token, begin_node, property}
use Rattle.fdt_write.specs.Opened.{path_inside, shown}
use Rattle.fdt_listing.specs.Listing.{line, property_line}

-- The line that a token adds: that of a node that begins, or that of a property.
abbrev pub token_line : List Bytes → Token → Bytes
token_line opened (begin_node name) = line (shown (path_inside opened name))
token_line opened (property (Some name) value) = property_line (name, value)
token_line opened _ = []
