use Rattle.std.proofs.Common.{◌∙◌, ◌≤◌, List, ◌∷◌, [], length, sym, ap, subst, arith}
use Rattle.std.proofs.lemmas.Slice.{between_to_end}
use Rattle.texts.specs.declared.ranges.FrameRange.{FrameRange}
use Rattle.frame_alloc.specs.Frames.{AreFrameRanges}
use Rattle.frame_alloc.specs.Ranges.{lie_in}
use Rattle.frame_alloc.proofs.LaterLemmas.{later_sorted, lie_in-later}
use Rattle.frame_alloc.proofs.ranges.lies_in.Goals as goal

pub is_covered-requires-clause-sorted : goal.is_covered-requires-clause-sorted
is_covered-requires-clause-sorted c =
    let all : length c.args.ranges.now ≤ length c.args.ranges.now = omega arith in
    subst AreFrameRanges (sym (between_to_end c.args.ranges.now c.ended_by-skipped.result (length c.args.ranges.now) all)) (later_sorted c.args.ranges.now 0 c.ended_by-skipped.result c.requires.sorted)

pub returns : goal.returns
returns c =
    let all : length c.args.ranges.now ≤ length c.args.ranges.now = omega arith in
    c.is_covered.ensures
    ∙ ap (λ (ranges : List FrameRange). lie_in ranges (c.args.range ∷ [])) (between_to_end c.args.ranges.now c.ended_by-skipped.result (length c.args.ranges.now) all)
    ∙ lie_in-later c.args.ranges.now c.args.range c.ended_by-skipped.result c.ended_by-skipped.ensures.ended c.ended_by-skipped.ensures.within
