use Rattle.std.proofs.Common.{◌+◌, List, get_or, drop, sym, subst}
use Rattle.std.proofs.lemmas.List.{drop_more}
use Rattle.texts.specs.declared.ranges.FrameRange.{FrameRange}
use Rattle.item_checks.specs.PrivateTakings.{AreClear}
use Rattle.item_checks.proofs.TakingsLemmas.{clear_more}
use Rattle.item_checks.proofs.takings.may_meet_any.Goals as goal

pub loop-range-preserved : goal.loop-range-preserved
loop-range-preserved c rest =
    let d : FrameRange = record { first = 0; count = 0 } in
    let es = c.args.ranges.now in
    let i = c.loop-range.range-index in
    c.loop-range.invariant (subst (λ (rs : List FrameRange). AreClear c.args.ends.now rs) (sym (drop_more es i d c.loop-range-test.true)) (clear_more c.args.ends.now (get_or es i d) (drop (i + 1) es) (c.may_meet.ensures c.if-may_meet.false) rest))
