use Rattle.std.proofs.Common.{◌<◌, ◌-◌, length}
use Rattle.std.specs.Prelude.{IfSome}
use Rattle.fdt_nodes.proofs.ChildWalks.{numbers_after}
use Rattle.overlaid_trees.proofs.DepthLemmas.{IsMeasured}
use Rattle.overlaid_trees.proofs.depths.+fits.Given as goal

-- children have greater numbers
abbrev pub decreases-fits : goal.decreases-fits
decreases-fits l = length l.tree.now.places - l.node

-- the children before the next one fit
abbrev pub invariant-loop-next : goal.invariant-loop-next
invariant-loop-next l = record {
  live : IfSome l.next (λ child. child < length l.tree.places);
  later : IfSome l.next (λ child. l.fn.node < child);
  measured : IsMeasured l.tree l.fn.node l.room l.next;
}

abbrev pub decreases-loop-next : goal.decreases-loop-next
decreases-loop-next l = numbers_after (length l.tree.places) l.next
