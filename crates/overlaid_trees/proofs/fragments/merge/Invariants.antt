use Rattle.std.proofs.Common.{◌<◌, length}
use Rattle.std.specs.Prelude.{IfSome}
use Rattle.fdt_nodes.proofs.ChildWalks.{numbers_after}
use Rattle.overlaid_trees.proofs.FragmentLemmas.{IsLeft}
use Rattle.overlaid_trees.proofs.fragments.merge.Given as goal

-- merging the children before the next one is done
abbrev pub invariant-loop-next : goal.invariant-loop-next
invariant-loop-next l = record {
  live : IfSome l.next (λ child. child < length l.overlay.places);
  left : IsLeft l.fn.base.tree l.overlay l.next l.made.tree;
}

abbrev pub decreases-loop-next : goal.decreases-loop-next
decreases-loop-next l = numbers_after (length l.overlay.places) l.next
