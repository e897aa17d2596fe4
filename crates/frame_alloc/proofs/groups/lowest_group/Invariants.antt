use Rattle.frame_alloc.specs.Frames.{begins_group}
use Rattle.frame_alloc.specs.Extents.{frames_of}
use Rattle.frame_alloc.specs.Slots.{extents_in}
use Rattle.frame_alloc.proofs.Searches.{IsSearchedAt}
use Rattle.frame_alloc.proofs.Walks.{ahead}
use Rattle.frame_alloc.proofs.groups.lowest_group.Given as goal

-- the extents so far have no group
abbrev pub invariant-loop-at : goal.invariant-loop-at
invariant-loop-at l = IsSearchedAt (begins_group l.size (frames_of (extents_in l.list))) l.list l.at

abbrev pub decreases-loop-at : goal.decreases-loop-at
decreases-loop-at l = ahead l.list l.at
