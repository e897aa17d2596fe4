-- What the tokens of the writer mean.
use Rattle.std.specs.Prelude.{Some}
use Rattle.fdt_read.specs.Tokens.{Token, begin_node, end_node, property, end}
use Rattle.fdt_write.specs.declared.tree_tokens.TreeToken.{TreeToken}
use Rattle.fdt_write.specs.declared.tree_tokens.TreeToken.TheVariants.{BeginNode, Property, EndNode, End}

-- The token, with its name and value as lists.
abbrev pub meaning : TreeToken → Token
meaning (BeginNode name) = begin_node name.now
meaning (Property name value) = property (Some name.now) value.now
meaning EndNode = end_node
meaning End = end
