use Rattle.std.proofs.Common.{◌≡◌, ◌≤◌, ◌<◌, ◌⊎◌, true, false, leb, ◌∷◌, [], suc, sym, ◌∙◌, arith, inl, inr}
use Rattle.std.proofs.lemmas.Bool.Decides.{leb_tells}
use Rattle.frame_alloc.specs.Ranges.{have_common}
use Rattle.frame_alloc.proofs.CommonFrames.{common_yes, common_no}
use Rattle.frame_alloc.proofs.ranges.meet.Goals as goal

pub returns-then-one_begins-other : goal.returns-then-one_begins-other
returns-then-one_begins-other c = sym (common_no c.args.one c.args.other (omega (arith, c.saturating_sub-one_begins.ensures)))

pub returns : goal.returns
returns c = by_test (leb_tells (suc c.saturating_sub-other_begins.result) c.args.one.count)
  where
    by_test : ((leb (suc c.saturating_sub-other_begins.result) c.args.one.count ≡ true) × (suc c.saturating_sub-other_begins.result ≤ c.args.one.count)) ⊎ ((leb (suc c.saturating_sub-other_begins.result) c.args.one.count ≡ false) × (c.args.one.count < suc c.saturating_sub-other_begins.result))
        → leb (suc c.saturating_sub-other_begins.result) c.args.one.count ≡ have_common (c.args.one ∷ []) (c.args.other ∷ [])
    by_test (inl h) = h.0 ∙ sym (common_yes c.args.one c.args.other (omega (arith, h.1, c.saturating_sub-one_begins.ensures, c.saturating_sub-other_begins.ensures)))
    by_test (inr h) = h.0 ∙ sym (common_no c.args.one c.args.other (omega (arith, h.1, c.saturating_sub-one_begins.ensures, c.saturating_sub-other_begins.ensures)))
