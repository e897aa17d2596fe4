-- For proofs and private contracts alone: the token that a piece of the input is.
use Rattle.fdt_read.specs.declared.tokens.Found.{Found}
use Rattle.fdt_read.specs.declared.tokens.Found.TheVariants.{Begin, EndNode, Property, Nop, End, Broken}
use Rattle.fdt_read.specs.Tokens.{Token, begin_node, end_node, property, nop, end, broken}

-- The token, with its name and value as lists.
abbrev pub meant : Found → Token
meant (Begin name) = begin_node name.now
meant EndNode = end_node
meant (Property name value) = property name value
meant Nop = nop
meant End = end
meant Broken = broken
