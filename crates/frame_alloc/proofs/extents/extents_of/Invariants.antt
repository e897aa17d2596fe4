use Rattle.std.proofs.Common.{◌≡◌, ◌++◌, drop}
use Rattle.frame_alloc.specs.Frames.{frames_in, AreFrameRangesFrom}
use Rattle.frame_alloc.specs.Extents.{frames_of}
use Rattle.frame_alloc.specs.PrivateExtents.{end_from}
use Rattle.frame_alloc.specs.Slots.{extents_in, IsExtentList}
use Rattle.frame_alloc.specs.PrivateLinks.{last_used}
use Rattle.frame_alloc.proofs.extents.extents_of.Given as goal

-- the extents have the frames of the ranges before the index, and end where the others may begin
abbrev pub invariant-loop-range : goal.invariant-loop-range
invariant-loop-range l = record {
  frames : frames_of (extents_in l.list) ++ frames_in (drop l.range-index l.ranges) ≡ frames_in l.ranges;
  whole : IsExtentList l.list;
  last : l.last ≡ last_used l.list;
  after : AreFrameRangesFrom (end_from 0 (extents_in l.list)) (drop l.range-index l.ranges);
}
