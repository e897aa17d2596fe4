use Rattle.frame_alloc.proofs.Walks.{ahead}
use Rattle.frame_alloc.proofs.Removals.{IsCutTo}
use Rattle.frame_alloc.proofs.removal.remove_range.Given as goal

-- the extents so far are cut
abbrev pub invariant-loop-at : goal.invariant-loop-at
invariant-loop-at l = IsCutTo l.first l.count l.fn.list l.list l.at

abbrev pub decreases-loop-at : goal.decreases-loop-at
decreases-loop-at l = ahead l.list l.at
