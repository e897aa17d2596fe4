use Rattle.std.proofs.Common.{◌+◌, ◌++◌, ℕ, List, get_or, drop, sym, ap, ◌∙◌, append_assoc}
use Rattle.texts.specs.Consecutive.{numbers}
use Rattle.texts.specs.declared.ranges.FrameRange.{FrameRange}
use Rattle.frame_alloc.specs.Frames.{frames_in}
use Rattle.frame_alloc.specs.Extents.{frames_of}
use Rattle.frame_alloc.specs.PrivateExtents.{end_from}
use Rattle.frame_alloc.specs.Slots.{extents_in}
use Rattle.frame_alloc.proofs.ExtentLemmas.{ranges-front, frames_in-front, AreFrameRanges-weaker}
use Rattle.frame_alloc.proofs.extents.extents_of.Goals as goal

pub loop-range-preserved : goal.loop-range-preserved
loop-range-preserved c =
    let d : FrameRange = record { first = 0; count = 0 } in
    let ranges = c.args.ranges.now in
    let i = c.loop-range.range-index in
    let rest : List ℕ = frames_in (drop (i + 1) ranges) in
    let before = extents_in c.loop-range.list in
    let front = ranges-front ranges i d (end_from 0 before) c.loop-range-test.true c.loop-range.invariant.after in
    record {
      frames =
          ap (λ xs. xs ++ rest) c.in_ok-last.ensures.frames
          ∙ append_assoc (frames_of before) (numbers (get_or ranges i d).first (get_or ranges i d).count) rest
          ∙ ap (λ xs. frames_of before ++ xs) (sym (frames_in-front ranges i d c.loop-range-test.true))
          ∙ c.loop-range.invariant.frames;
      whole = c.in_ok-last.ensures.whole;
      last = c.in_ok-last.ensures.last;
      after = AreFrameRanges-weaker (drop (i + 1) ranges) _ _ c.in_ok-last.ensures.end front.2;
    }
