-- The layouts of the guests' plans.
use Rattle.std.proofs.Common.{ℕ, ◌+◌, List, [], ◌∷◌, Some, sym, subst, All}
use Rattle.std.proofs.lemmas.List.Elements.{All-nil, All-cons}
use Rattle.texts.specs.declared.ranges.FrameRange.{FrameRange}
use Rattle.domain_bindings.specs.HostDevices.{HasUsableDevices}
use Rattle.domain_bindings.specs.declared.host.Host.{Host}
use Rattle.item_checks.specs.declared.guests.Guest.{Guest}
use Rattle.item_checks.specs.Layouts.{IsLayout}
use Rattle.item_checks.specs.Reasons.{is_with_console}
use Rattle.item_checks.specs.Taken.{Passed, is_direct}
use Rattle.item_checks.proofs.LayoutLemmas.{layout_of-is}
use Rattle.domain_plan.specs.declared.planned.GuestPlan.{GuestPlan}
use Rattle.domain_plan.specs.Plans.{AreGuestPlans}

-- the layouts of the plans of all guests are as a layout is to be
pub plans_laid : (host : Host) → HasUsableDevices host → (passed : List Passed) (number : ℕ) (guests : List Guest) (drawn : List (List FrameRange)) (plans : List GuestPlan) → AreGuestPlans host passed number guests drawn plans → All (λ (plan : GuestPlan). IsLayout plan.layout) plans
plans_laid host usable passed number [] [] [] are = All-nil (λ (plan : GuestPlan). IsLayout plan.layout)
plans_laid host usable passed number [] [] (plan ∷ plans) are = absurd are
plans_laid host usable passed number [] (frames ∷ drawn) [] are = absurd are
plans_laid host usable passed number [] (frames ∷ drawn) (plan ∷ plans) are = absurd are
plans_laid host usable passed number (guest ∷ guests) [] [] are = absurd are
plans_laid host usable passed number (guest ∷ guests) [] (plan ∷ plans) are = absurd are
plans_laid host usable passed number (guest ∷ guests) (frames ∷ drawn) [] are = absurd are
plans_laid host usable passed number (guest ∷ guests) (frames ∷ drawn) (plan ∷ plans) are =
    All-cons (λ (one : GuestPlan). IsLayout one.layout) plan plans
    (subst IsLayout (sym are.0.layout) (layout_of-is host usable (is_direct passed (Some number)) (is_with_console passed (Some number))))
    (plans_laid host usable passed (number + 1) guests drawn plans are.1)
