use Rattle.frame_alloc.proofs.GroupLemmas.{chunks_of}
use Rattle.frame_alloc.proofs.Walks.{IsSummedTo, ahead}
use Rattle.frame_alloc.proofs.groups.chunks_in.Given as goal

-- the chunks of the extents so far, and those of the others, are all chunks
abbrev pub invariant-loop-at : goal.invariant-loop-at
invariant-loop-at l = IsSummedTo chunks_of l.list l.at l.total

abbrev pub decreases-loop-at : goal.decreases-loop-at
decreases-loop-at l = ahead l.list l.at
