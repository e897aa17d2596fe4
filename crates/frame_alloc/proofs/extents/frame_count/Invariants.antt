use Rattle.frame_alloc.specs.declared.extents.Extent.{Extent}
use Rattle.frame_alloc.proofs.Walks.{IsSummedTo, ahead}
use Rattle.frame_alloc.proofs.extents.frame_count.Given as goal

-- the frames of the extents so far, and those of the others, are all frames
abbrev pub invariant-loop-at : goal.invariant-loop-at
invariant-loop-at l = IsSummedTo (λ (extent : Extent). extent.count) l.list l.at l.total

abbrev pub decreases-loop-at : goal.decreases-loop-at
decreases-loop-at l = ahead l.list l.at
