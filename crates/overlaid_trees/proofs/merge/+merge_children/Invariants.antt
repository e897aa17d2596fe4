use Rattle.std.proofs.Common.{◌<◌, ◌≢◌, ◌-◌, [], length}
use Rattle.std.specs.Prelude.{IfSome}
use Rattle.fdt_tree.specs.Document.{place_of}
use Rattle.fdt_nodes.proofs.ChildWalks.{numbers_after}
use Rattle.overlaid_trees.proofs.MergeLemmas.{IsMerged}
use Rattle.overlaid_trees.proofs.merge.+merge_children.Given as goal

-- merging goes on at nodes of greater numbers
abbrev pub decreases-merge_children : goal.decreases-merge_children
decreases-merge_children l = length l.overlay.now.places - l.node

-- the children before the next one are merged
abbrev pub invariant-loop-next : goal.invariant-loop-next
invariant-loop-next l = record {
  live : IfSome l.next (λ child. child < length l.overlay.places);
  below : IfSome l.next (λ child. place_of l.overlay child ≢ []);
  later : IfSome l.next (λ child. l.fn.node < child);
  target : l.target < length l.tree.places;
  merged : IsMerged l.overlay l.fn.node l.next l.initial.tree l.tree l.target;
}

abbrev pub decreases-loop-next : goal.decreases-loop-next
decreases-loop-next l = numbers_after (length l.overlay.places) l.next
