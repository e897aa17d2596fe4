-- The maps of a plan are apart from each other, and from the frames that are left.
use Rattle.std.proofs.Common.{◌≡◌, ◌∙◌, ap, sym, subst, refl, ℕ, zero, suc, ◌+◌, List, [], ◌∷◌, Option, Some, Ok, arith}
use Rattle.std.specs.Prelude.{slice_get}
use Rattle.std.proofs.lemmas.Option.{none-some}
use Rattle.texts.specs.Consecutive.{is_in}
use Rattle.described.specs.Maps.{Target, target_of}
use Rattle.texts.specs.declared.ranges.FrameRange.{FrameRange}
use Rattle.frame_alloc.specs.Frames.{AreFrames}
use Rattle.domain_bindings.specs.declared.host.Host.{Host}
use Rattle.item_checks.specs.declared.guests.Guest.{Guest}
use Rattle.domain_plan.specs.declared.planned.GuestPlan.{GuestPlan}
use Rattle.domain_plan.specs.Apart.{AreApart, is_in_one_region, ArePlannedApart, target_in}
use Rattle.domain_plan.specs.GuestMaps.{guest_ranges}
use Rattle.domain_plan.specs.Plans.{Draws, placed_of, outcome, AreGuestPlans}
use Rattle.item_checks.specs.Taken.{Passed}
use Rattle.domain_plan.proofs.PlacedLaws.{guests_are_apart}
use Rattle.domain_plan.specs.Descriptions.{Description}
use Rattle.domain_plan.specs.TreePlans.{is_common}
use Rattle.domain_plan.proofs.Determined.{AreOf, are_read, passed_same}

-- where a guest's plan sends a page, its description does
abbrev IsSent : List Passed → ℕ → Option (List FrameRange) → ℕ → Target → Type 0
IsSent passed number drawn page target = (frames : List FrameRange) × (drawn ≡ Some frames) × (target_of (guest_ranges passed number frames) page ≡ Some target)

plan_sends : (host : Host) (passed : List Passed) (number : ℕ) (guests : List Guest) (drawn : List (List FrameRange)) (plans : List GuestPlan) → AreGuestPlans host passed number guests drawn plans → (n page : ℕ) (target : Target)
    → target_in plans n page ≡ Some target → IsSent passed (number + n) (slice_get drawn n) page target
plan_sends host passed number [] [] [] are n page target e = absurd (none-some target e)
plan_sends host passed number [] [] (plan ∷ plans) are n page target e = elim are [ ]
plan_sends host passed number [] (frames ∷ drawn) [] are n page target e = elim are [ ]
plan_sends host passed number [] (frames ∷ drawn) (plan ∷ plans) are n page target e = elim are [ ]
plan_sends host passed number (guest ∷ guests) [] [] are n page target e = elim are [ ]
plan_sends host passed number (guest ∷ guests) [] (plan ∷ plans) are n page target e = elim are [ ]
plan_sends host passed number (guest ∷ guests) (frames ∷ drawn) [] are n page target e = elim are [ ]
plan_sends host passed number (guest ∷ guests) (frames ∷ drawn) (plan ∷ plans) are zero page target e =
    let here : number + 0 ≡ number = omega arith in
    (frames, refl, ap (λ (n : ℕ). target_of (guest_ranges passed n frames) page) here ∙ sym (are.0.mapped page) ∙ e)
plan_sends host passed number (guest ∷ guests) (frames ∷ drawn) (plan ∷ plans) are (suc n) page target e =
    let shift : number + 1 + n ≡ number + suc n = omega arith in
    subst (λ (k : ℕ). IsSent passed k (slice_get drawn n) page target) shift (plan_sends host passed (number + 1) guests drawn plans are.1 n page target e)

module _ (description : Description) (host : Host) (guests : List Guest) (are : AreOf description host guests) (all : Draws) (plans : List GuestPlan) (free : List ℕ)
    (is : outcome host description.loads guests ≡ Ok all) (of_guests : AreGuestPlans host (placed_of all.runs host description.loads guests) 0 guests all.heaps.drawn plans) (left : free ≡ all.heaps.left) where
  law : AreApart (placed_of all.runs host description.loads guests) all.heaps
  law = guests_are_apart host description.loads guests (are_read description host guests are) all is

  sent : (n page : ℕ) (target : Target) → target_in plans n page ≡ Some target → IsSent (placed_of all.runs host description.loads guests) n (slice_get all.heaps.drawn n) page target
  sent n page target e =
      let none : 0 + n ≡ n = omega arith in
      subst (λ (k : ℕ). IsSent (placed_of all.runs host description.loads guests) k (slice_get all.heaps.drawn n) page target) none
      (plan_sends host (placed_of all.runs host description.loads guests) 0 guests all.heaps.drawn plans of_guests n page target e)

  pub tree_apart : ArePlannedApart (is_common description) plans free
  unfolding is_common
  tree_apart = record {
    ascending = subst AreFrames (sym left) law.left_once;
    meet = λ one other page next a b differ at_one at_other same.
        let mine = sent one page a at_one in
        let theirs = sent other next b at_other in
        let shared = law.meet one other page next mine.0 theirs.0 a b differ mine.1 theirs.1 mine.2 theirs.2 same in
        (shared.here, shared.there, ap (λ (passed : List Passed). is_in_one_region passed one other a.frame) (sym (passed_same description host guests are all is)) ∙ shared.region);
    unmapped = λ n page target at.
        let mine = sent n page target at in
        ap (λ (frames : List ℕ). is_in frames target.frame) left ∙ law.left_unmapped n page mine.0 target mine.1 mine.2;
  }
