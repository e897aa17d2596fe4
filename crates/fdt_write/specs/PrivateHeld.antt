-- For proofs and private contracts alone: the names that are held.
use Rattle.std.specs.Prelude.{List}
use Rattle.fdt_tree.specs.Tree.{Bytes}
use Rattle.fdt_write.specs.declared.names.Names.{Names}
use Rattle.fdt_write.specs.PrivateNames.{texts}

-- The names, in the order in which they were added.
abbrev pub held : Names → List Bytes
held names = texts names.order.items
