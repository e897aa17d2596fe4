-- What a step hands on where it refuses nothing is what it found.
use Rattle.std.proofs.Common.{◌≡◌, refl, subst, [], inl, inr}
use Rattle.std.specs.Prelude.{Result, Ok, Err, IfOk, IfErr}
use Rattle.outside.specs.Reads.{Counts, Grew}
use Rattle.run_steps.specs.Endings.{Outcome}
use Rattle.run_steps.specs.Steps.{nothing}
use Rattle.run_steps.specs.Stops.{IsDue, IsOwnDue}
use Rattle.run_steps.specs.declared.stop.Stop.{Stop}
use Rattle.run_steps.proofs.Due.{due_here, stopped_later, stopped_anyway}
use Rattle.run_steps.proofs.Step.{Next, IsStep, said_as, and_then, hand_on, hand_on_step}
use Rattle.build_sources.specs.Handed.{is, unrefused, HandsOn}

-- what a call answers, said in other words
pub ok_as : {A E : Type 0} (One Other : A → Type 0) → ((x : A) → One x → Other x) → (result : Result A E) → IfOk result One → IfOk result Other
ok_as One Other implied (Ok value) given = implied value given
ok_as One Other implied (Err fault) given = tt

-- and why it stops
pub err_as : {A : Type 0} (job other : Outcome → Type 0) → ((outcome : Outcome) → job outcome → other outcome) → (old new : Counts) → (result : Result A Stop)
    → IfErr result (λ stop. IsDue job old new stop) → IfErr result (λ stop. IsDue other old new stop)
err_as job other implied old new (Ok value) due = tt
err_as job other implied old new (Err stop) due = due_here job other implied old new stop due

module _ {A : Type 0} (Found : A → Type 0) (step : Next A → Outcome → Type 0) (law : IsStep Found step) where
  -- what it found is handed on
  pub handed : (x : A) → Found x → HandsOn step x
  handed x found = law.gives x found (is x) unrefused refl

  -- and the other way round
  pub found_of : (x : A) → HandsOn step x → Found x
  found_of x hands = elim (law.splits (is x) unrefused hands) [
    | inl given ↦ subst Found given.2 given.1
    | inr refused ↦ absurd (law.refuses [] [] refused)
  ]

  -- so the step is one that finds what it hands on
  pub handed_step : IsStep (HandsOn step) step
  handed_step = said_as Found (HandsOn step) step law handed found_of

-- two steps, one after the other
module _ {A B : Type 0} (first : Next A → Outcome → Type 0) (second : A → Next B → Outcome → Type 0) (one : IsStep (HandsOn first) first) where
  abbrev both : Next B → Outcome → Type 0
  both next outcome = first (λ x. second x next) outcome

  pub both_step : ((x : A) → IsStep (HandsOn (second x)) (second x)) → IsStep (HandsOn both) both
  both_step other = handed_step _ both (and_then (HandsOn first) (λ x. HandsOn (second x)) first second one other)

  -- what the second answers, behind the first
  module _ (x : A) (hands : HandsOn first x) where
    pub then_hands : {R E : Type 0} (meant : R → B) (result : Result R E) → IfOk result (λ value. HandsOn (second x) (meant value)) → IfOk result (λ value. HandsOn both (meant value))
    then_hands meant = ok_as (λ value. HandsOn (second x) (meant value)) (λ value. HandsOn both (meant value)) (λ value. one.gives x hands (λ x. second x (is (meant value))) unrefused)

    pub then_stops : {R : Type 0} (old mid new : Counts) → Grew old mid → (result : Result R Stop) → IfErr result (λ stop. IsDue (second x nothing) mid new stop) → IfErr result (λ stop. IsDue (both nothing) old new stop)
    then_stops = stopped_later (second x nothing) (both nothing) (one.gives x hands (λ x. second x nothing))

    pub then_stops_anyway : {R : Type 0} (old new : Counts) (result : Result R Stop) → IfErr result (λ stop. IsOwnDue (second x nothing) stop) → IfErr result (λ stop. IsDue (both nothing) old new stop)
    then_stops_anyway = stopped_anyway (second x nothing) (both nothing) (one.gives x hands (λ x. second x nothing))

  -- the first stops
  pub first_stops : (old new : Counts) (stop : Stop) → IsDue (first nothing) old new stop → IsDue (both nothing) old new stop
  first_stops = due_here (first nothing) (both nothing) (one.stays (λ x. second x nothing))

-- a step, and what is made of what it hands on
pub made_step : {A B : Type 0} (first : Next A → Outcome → Type 0) (make : A → B) → IsStep (HandsOn first) first → IsStep (HandsOn (λ next outcome. first (λ x. next (make x)) outcome)) (λ next outcome. first (λ x. next (make x)) outcome)
made_step first make one = both_step first (λ x. hand_on (make x)) one (λ x. handed_step (λ y. y ≡ make x) (hand_on (make x)) (hand_on_step (make x)))
