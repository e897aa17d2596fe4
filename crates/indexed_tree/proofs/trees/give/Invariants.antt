use Rattle.std.proofs.Common.{◌≡◌, ◌<◌, take, length}
use Rattle.tree_parts.specs.Grown.{with_more}
use Rattle.indexed_tree.proofs.trees.give.Given as goal

-- the properties so far are given
abbrev pub invariant-loop-index : goal.invariant-loop-index
invariant-loop-index l = record {
  live : l.node < length l.tree.places;
  given : l.tree ≡ with_more l.initial.tree l.node (take l.index l.properties);
}
