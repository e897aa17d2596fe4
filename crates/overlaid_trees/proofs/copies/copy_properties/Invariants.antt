use Rattle.std.proofs.Common.{◌<◌, drop, length, option_map}
use Rattle.std.specs.Prelude.{codes}
use Rattle.std.specs.Int.{w32, to_be_bytes}
use Rattle.fdt_tree.specs.Document.{properties_of}
use Rattle.overlaid_trees.specs.PrivateCopies.{with_first}
use Rattle.overlaid_trees.proofs.CopyLemmas.{IsGiven}
use Rattle.overlaid_trees.proofs.copies.copy_properties.Given as goal

-- the properties so far are given
abbrev pub invariant-loop-index : goal.invariant-loop-index
invariant-loop-index l = record {
  live : l.copy < length l.tree.places;
  given : IsGiven (codes "phandle") (with_first (codes "phandle") (option_map (to_be_bytes w32) l.fn.phandle) (properties_of l.source l.node)) (drop l.index (properties_of l.source l.node)) (option_map (to_be_bytes w32) l.left) l.initial.tree l.tree l.copy;
}
