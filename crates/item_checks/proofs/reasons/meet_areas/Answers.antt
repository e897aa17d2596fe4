use Rattle.std.proofs.Common.{◌≡◌, false, ◌||◌, Bool, List, ◌∷◌, [], refl, sym, ap, ◌∙◌}
use Rattle.described.specs.declared.layout.Layout.{Layout}
use Rattle.texts.specs.declared.ranges.FrameRange.{FrameRange}
use Rattle.frame_alloc.specs.Ranges.{touched, have_common}
use Rattle.item_checks.specs.Reasons.{area_pages}
use Rattle.frame_alloc.proofs.CommonFrames.{common-cons_left, or_left, or_right}
use Rattle.item_checks.proofs.reasons.meet_areas.Goals as goal

by_areas : (layout : Layout) (pages : List FrameRange) → have_common (area_pages layout) pages ≡
    (have_common (touched layout.distributor ∷ []) pages || (have_common (touched layout.redistributors ∷ []) pages
    || (have_common (touched layout.console ∷ []) pages || have_common (touched layout.grant ∷ []) pages)))
by_areas layout pages =
    let grant : List FrameRange = touched layout.grant ∷ [] in
    let two : List FrameRange = touched layout.console ∷ grant in
    let three : List FrameRange = touched layout.redistributors ∷ two in
    common-cons_left (touched layout.distributor) three pages
    ∙ ap (λ (b : Bool). have_common (touched layout.distributor ∷ []) pages || b)
    (common-cons_left (touched layout.redistributors) two pages
    ∙ ap (λ (b : Bool). have_common (touched layout.redistributors ∷ []) pages || b) (common-cons_left (touched layout.console) grant pages))

pub returns-then-meets_area : goal.returns-then-meets_area
returns-then-meets_area c = sym (by_areas c.args.layout.now c.args.pages.now ∙ or_left _ _ (sym c.meets_area.ensures ∙ c.if-meets_area.true))

pub returns-then-meets_area-2 : goal.returns-then-meets_area-2
returns-then-meets_area-2 c = sym (by_areas c.args.layout.now c.args.pages.now ∙ or_right _ _ (or_left _ _ (sym c.meets_area-2.ensures ∙ c.if-meets_area-2.true)))

pub returns-then-meets_area-3 : goal.returns-then-meets_area-3
returns-then-meets_area-3 c = sym (by_areas c.args.layout.now c.args.pages.now ∙ or_right _ _ (or_right _ _ (or_left _ _ (sym c.meets_area-3.ensures ∙ c.if-meets_area-3.true))))

last : (a b c d : Bool) → a ≡ false → b ≡ false → c ≡ false → (a || (b || (c || d))) ≡ d
last a b c d p q r = rw (p, q, r) refl

pub returns : goal.returns
returns c = c.meets_area-4.ensures ∙ sym (by_areas c.args.layout.now c.args.pages.now ∙ last _ _ _ _ (sym c.meets_area.ensures ∙ c.if-meets_area.false) (sym c.meets_area-2.ensures ∙ c.if-meets_area-2.false) (sym c.meets_area-3.ensures ∙ c.if-meets_area-3.false))
