use Rattle.std.proofs.Common.{◌≡◌, ◌+◌, true, false, ◌&&◌, get_or, drop, ◌∷◌, [], refl, sym, ap, ◌∙◌}
use Rattle.std.proofs.lemmas.List.{drop_more, drop_all}
use Rattle.texts.specs.declared.ranges.FrameRange.{FrameRange}
use Rattle.frame_alloc.specs.Ranges.{lie_in}
use Rattle.frame_alloc.proofs.CoverLemmas.{lie_in-cons, lie_in-none}
use Rattle.item_checks.proofs.reasons.lie_in.Goals as goal

pub returns-then-not-lies_in : goal.returns-then-not-lies_in
returns-then-not-lies_in c =
    let d : FrameRange = record { first = 0; count = 0 } in
    let es = c.args.ranges.now in
    let i = c.loop-range.range-index in
    let here : lie_in c.args.ram.now (get_or es i d ∷ []) ≡ false = sym c.lies_in.ensures ∙ c.if-not-lies_in.true in
    let step : (lie_in c.args.ram.now (get_or es i d ∷ []) && lie_in c.args.ram.now (drop (i + 1) es)) ≡ false = rw here refl in
    sym step ∙ sym (lie_in-cons c.args.ram.now (get_or es i d) (drop (i + 1) es))
    ∙ ap (lie_in c.args.ram.now) (sym (drop_more es i d c.loop-range-test.true)) ∙ c.loop-range.invariant

pub loop-range-preserved : goal.loop-range-preserved
loop-range-preserved c =
    let d : FrameRange = record { first = 0; count = 0 } in
    let es = c.args.ranges.now in
    let i = c.loop-range.range-index in
    let here : lie_in c.args.ram.now (get_or es i d ∷ []) ≡ true = sym c.lies_in.ensures ∙ c.if-not-lies_in.false in
    let step : (lie_in c.args.ram.now (get_or es i d ∷ []) && lie_in c.args.ram.now (drop (i + 1) es)) ≡ lie_in c.args.ram.now (drop (i + 1) es) = rw here refl in
    sym step ∙ sym (lie_in-cons c.args.ram.now (get_or es i d) (drop (i + 1) es))
    ∙ ap (lie_in c.args.ram.now) (sym (drop_more es i d c.loop-range-test.true)) ∙ c.loop-range.invariant

pub returns : goal.returns
returns c = sym (lie_in-none c.args.ram.now) ∙ ap (lie_in c.args.ram.now) (sym (drop_all c.loop-range.range-index c.args.ranges.now c.loop-range-test.false)) ∙ c.loop-range.invariant
