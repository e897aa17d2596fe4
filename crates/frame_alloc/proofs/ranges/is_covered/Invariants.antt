use Rattle.std.proofs.Common.{◌≡◌, ℕ, ◌+◌, ◌^◌, ◌≤◌, drop}
use Rattle.frame_alloc.specs.Frames.{AreFrameRangesFrom}
use Rattle.frame_alloc.proofs.CoverLemmas.{covers}
use Rattle.frame_alloc.proofs.ranges.is_covered.Given as goal

-- the ranges before the index end at or below the next frame that is to be found, and all up to it is found
abbrev pub invariant-loop-one : goal.invariant-loop-one
invariant-loop-one l = record {
  end : l.end ≡ l.fn.range.first + l.fn.range.count;
  rest : covers (drop l.one-index l.ranges) l.next l.end ≡ covers l.ranges l.fn.range.first l.end;
  low : l.next ≤ 2 ^ 28;
  sorted : (start : ℕ) × AreFrameRangesFrom start (drop l.one-index l.ranges);
}
