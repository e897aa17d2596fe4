use Rattle.std.proofs.Common.{ℕ, ◌+◌, ◌-◌, ◌<◌, ◌≤◌, length, slice_index_or}
use Rattle.texts.specs.declared.ranges.FrameRange.{FrameRange}
use Rattle.frame_alloc.proofs.ranges.ended_by.Given as goal

-- those below `low` end at or below the frame
abbrev pub invariant-loop-low : goal.invariant-loop-low
invariant-loop-low l = record {
  order : l.low ≤ l.high;
  within : l.high ≤ length l.ranges;
  ended : (k : ℕ) → (d : FrameRange) → k < l.low → (slice_index_or l.ranges k d).first + (slice_index_or l.ranges k d).count ≤ l.frame;
}

abbrev pub decreases-loop-low : goal.decreases-loop-low
decreases-loop-low l = l.high - l.low
