-- What a run that ends with status 0 has written.
use Rattle.std.proofs.Common.{◌≡◌, subst, refl, ℕ, List, [], ◌∷◌, Option, Some, None, inl, inr}
use Rattle.outside.specs.Outside.{File}
use Rattle.run_steps.specs.Endings.{Builds}
use Rattle.run_steps.proofs.Step.{found_by}
use Rattle.guest_load.specs.declared.places.LoadPart.{LoadPart}
use Rattle.guest_load.specs.LoadPlaces.{first_past, FitIn}
use Rattle.guest_load.specs.Lines.{report}
use Rattle.guest_load.specs.Words.{Asked}
use Rattle.guest_load.specs.Parts.{Parts, AfterParts, AreParts}
use Rattle.guest_load.specs.Job.{tree_of, plan_of, OnRoom, IsLoading, IsAskedJob}
use Rattle.guest_load.proofs.PartSteps.{parts_step}
use Rattle.guest_load.proofs.PlaceLemmas.{places_fit}

module _ (out : List ℕ) (parts : Parts) (outputs : List File) (said : List ℕ) where
  by_room : (found : Option LoadPart) → OnRoom out parts found (Builds outputs said) → (found ≡ None) × (outputs ≡ (out, tree_of parts) ∷ []) × (said ≡ report (plan_of parts))
  by_room (Some part) refused = elim refused [ ]
  by_room None written = (refl, written.0, written.1)

  by_length : IsLoading out parts (Builds outputs said) → (first_past parts.bank (plan_of parts) ≡ None) × (outputs ≡ (out, tree_of parts) ∷ []) × (said ≡ report (plan_of parts))
  by_length (inl too_long) = elim too_long.1 [ ]
  by_length (inr fits) = by_room (first_past parts.bank (plan_of parts)) fits.1

-- the one output, and the report
pub loaded : (told : Option (List File)) (asked : Asked) (outputs : List File) (said : List ℕ) → IsAskedJob told asked (Builds outputs said)
    → (parts : Parts) × AreParts told asked parts × (first_past parts.bank (plan_of parts) ≡ None) × (outputs ≡ (asked.out, tree_of parts) ∷ []) × (said ≡ report (plan_of parts))
loaded told asked outputs said job =
    let found = found_by (AreParts told asked) (AfterParts told asked) (parts_step told asked) (IsLoading asked.out) outputs said job in
    let written = by_length asked.out found.0 outputs said found.2 in
    (found.0, found.1, written.0, written.1, written.2)

-- the places of a plan that has room lie in the bank, and pairwise apart
pub fit_in : (parts : Parts) → first_past parts.bank (plan_of parts) ≡ None → FitIn parts.bank (plan_of parts)
fit_in parts none = places_fit parts.bank parts.head parts.kernel parts.ramdisk _ none
