use Rattle.std.proofs.Common.{◌≡◌, ◌+◌, true, false, ◌||◌, get_or, drop, List, ◌∷◌, [], refl, sym, ap, ◌∙◌}
use Rattle.std.proofs.lemmas.List.{drop_more, drop_all}
use Rattle.texts.specs.declared.ranges.FrameRange.{FrameRange}
use Rattle.frame_alloc.specs.Ranges.{have_common}
use Rattle.frame_alloc.proofs.CommonFrames.{common_none, common-cons_right, or_left}
use Rattle.frame_alloc.proofs.ranges.meets_any.Goals as goal

pub returns-then-meet : goal.returns-then-meet
returns-then-meet c =
    let d : FrameRange = record { first = 0; count = 0 } in
    let es = c.args.others.now in
    let i = c.loop-other.other-index in
    let here : have_common (c.args.one ∷ []) (get_or es i d ∷ []) ≡ true = sym c.meet.ensures ∙ c.if-meet.true in
    sym (or_left _ (have_common (c.args.one ∷ []) (drop (i + 1) es)) here)
    ∙ sym (common-cons_right (c.args.one ∷ []) (get_or es i d) (drop (i + 1) es))
    ∙ ap (λ (ranges : List FrameRange). have_common (c.args.one ∷ []) ranges) (sym (drop_more es i d c.loop-other-test.true)) ∙ c.loop-other.invariant

pub loop-other-preserved : goal.loop-other-preserved
loop-other-preserved c =
    let d : FrameRange = record { first = 0; count = 0 } in
    let es = c.args.others.now in
    let i = c.loop-other.other-index in
    let here : have_common (c.args.one ∷ []) (get_or es i d ∷ []) ≡ false = sym c.meet.ensures ∙ c.if-meet.false in
    let step : (have_common (c.args.one ∷ []) (get_or es i d ∷ []) || have_common (c.args.one ∷ []) (drop (i + 1) es)) ≡ have_common (c.args.one ∷ []) (drop (i + 1) es) = rw here refl in
    sym step ∙ sym (common-cons_right (c.args.one ∷ []) (get_or es i d) (drop (i + 1) es))
    ∙ ap (λ (ranges : List FrameRange). have_common (c.args.one ∷ []) ranges) (sym (drop_more es i d c.loop-other-test.true)) ∙ c.loop-other.invariant

pub returns : goal.returns
returns c =
    sym (common_none (c.args.one ∷ [])) ∙ ap (λ (ranges : List FrameRange). have_common (c.args.one ∷ []) ranges) (sym (drop_all c.loop-other.other-index c.args.others.now c.loop-other-test.false)) ∙ c.loop-other.invariant
