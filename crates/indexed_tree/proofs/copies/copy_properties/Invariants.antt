use Rattle.std.proofs.Common.{◌≡◌, ◌<◌, take, length}
use Rattle.fdt_tree.specs.Document.{properties_of}
use Rattle.tree_parts.specs.Grown.{with_more}
use Rattle.indexed_tree.proofs.copies.copy_properties.Given as goal

-- the properties so far are given
abbrev pub invariant-loop-index : goal.invariant-loop-index
invariant-loop-index l = record {
  live : l.copy < length l.tree.places;
  given : l.tree ≡ with_more l.initial.tree l.copy (take l.index (properties_of l.source l.node));
}
