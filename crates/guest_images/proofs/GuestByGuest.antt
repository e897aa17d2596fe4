-- The images of guests, guest by guest.
use Rattle.std.proofs.Common.{◌≡◌, ◌∙◌, ◌+◌, ◌<◌, suc, refl, sym, ap, inl, inr, ℕ, length, take, drop, drop-cons, get_or, List, [], ◌∷◌, ◌++◌, Option, Some, None}
use Rattle.std.specs.Prelude.{◌⊎◌}
use Rattle.std.proofs.lemmas.List.{take_more, take-append-drop}
use Rattle.described.specs.declared.why.Why.{Why}
use Rattle.domain_plan.specs.declared.planned.GuestPlan.{GuestPlan}
use Rattle.guest_images.specs.Faults.{IsFaultOf}
use Rattle.guest_images.specs.declared.fault.ImagesFault.{ImagesFault}
use Rattle.guest_images.specs.declared.fault.ImagesFault.TheVariants.{Refused, Memory}
use Rattle.guest_images.specs.Requests.{tables_item, no_table_frame, left_by, left_by_all, refused_tables}
use Rattle.guest_images.specs.PrivateImageFiles.{IsImageFile, AreImageFiles}
use Rattle.item_checks.specs.Refusals.{or_later}

-- one more guest draws from what those before it left
pub left_more : (plans : List GuestPlan) (plan : GuestPlan) (free : List ℕ) → left_by_all (plans ++ plan ∷ []) free ≡ left_by plan (left_by_all plans free)
left_more [] plan free = refl
left_more (first ∷ plans) plan free = left_more plans plan (left_by first free)

-- and has its image
pub images_more : (plans : List GuestPlan) (plan : GuestPlan) (free : List ℕ) (images : List (List ℕ)) (image : List ℕ) → AreImageFiles plans free images
    → IsImageFile plan.ranges (left_by_all plans free) image → AreImageFiles (plans ++ plan ∷ []) free (images ++ image ∷ [])
images_more [] plan free [] image are is = (is, refl)
images_more [] plan free (other ∷ images) image are is = absurd (cc)
images_more (first ∷ plans) plan free [] image are is = elim are [ ]
images_more (first ∷ plans) plan free (other ∷ images) image are is = (are.0, images_more plans plan (left_by first free) images image are.1 is)

-- where the first guests have their tables, those after them decide
pub refused_later : (plans more : List GuestPlan) (free : List ℕ) → refused_tables plans free ≡ None → refused_tables (plans ++ more) free ≡ refused_tables more (left_by_all plans free)
refused_later [] more free none = refl
refused_later (plan ∷ plans) more free none = by (no_table_frame plan free) none (refused_later plans more (left_by plan free))
  where
    by : (why : Option Why) → or_later (tables_item plan) why (refused_tables plans (left_by plan free)) ≡ None
        → (refused_tables plans (left_by plan free) ≡ None → refused_tables (plans ++ more) (left_by plan free) ≡ refused_tables more (left_by_all plans (left_by plan free)))
        → or_later (tables_item plan) why (refused_tables (plans ++ more) (left_by plan free)) ≡ refused_tables more (left_by_all plans (left_by plan free))
    by None e later = later e
    by (Some why) e later = absurd (cc)

-- one more guest that has its tables
pub met_more : (plans : List GuestPlan) (plan : GuestPlan) (free : List ℕ) → refused_tables plans free ≡ None → no_table_frame plan (left_by_all plans free) ≡ None
    → refused_tables (plans ++ plan ∷ []) free ≡ None
met_more plans plan free before met =
    refused_later plans (plan ∷ []) free before ∙ ap (λ (why : Option Why). or_later (tables_item plan) why None) met

-- the first that has none is refused
pub first_unmet : (plans : List GuestPlan) (plan : GuestPlan) (more : List GuestPlan) (free : List ℕ) (why : Why) → refused_tables plans free ≡ None → no_table_frame plan (left_by_all plans free) ≡ Some why
    → refused_tables (plans ++ plan ∷ more) free ≡ Some (tables_item plan, why)
first_unmet plans plan more free why before unmet =
    refused_later plans (plan ∷ more) free before ∙ ap (λ (found : Option Why). or_later (tables_item plan) found (refused_tables more (left_by plan (left_by_all plans free)))) unmet

-- the guests so far and the next one
pub next_of : (plans : List GuestPlan) (i : ℕ) (plan : GuestPlan) → i < length plans → plan ≡ get_or plans i plan → take (i + 1) plans ≡ take i plans ++ plan ∷ []
next_of plans i plan within is = take_more plans i plan within ∙ ap (λ (p : GuestPlan). take i plans ++ p ∷ []) (sym is)

-- all guests: those so far, the next one, and the others
pub all_of : (plans : List GuestPlan) (i : ℕ) (plan : GuestPlan) → i < length plans → plan ≡ get_or plans i plan → plans ≡ take i plans ++ plan ∷ drop (suc i) plans
all_of plans i plan within is =
    sym (take-append-drop i plans) ∙ ap (λ ps. take i plans ++ ps) (drop-cons plans i plan within ∙ ap (λ (p : GuestPlan). p ∷ drop (suc i) plans) (sym is))

-- memory ran out, or the next guest cannot have its tables: then it is the first that is refused
pub refused_at : (plans : List GuestPlan) (i : ℕ) (plan : GuestPlan) (free now : List ℕ) (fault : ImagesFault) → i < length plans → plan ≡ get_or plans i plan
    → now ≡ left_by_all (take i plans) free → refused_tables (take i plans) free ≡ None
    → (fault ≡ Memory) ⊎ ((why : Why) × (fault ≡ Refused (tables_item plan) why) × (no_table_frame plan now ≡ Some why)) → IsFaultOf (refused_tables plans free) fault
refused_at plans i plan free now fault within is left before (inl memory) = rw memory tt
refused_at plans i plan free now fault within is left before (inr (why, refused, unmet)) =
    rw refused (ap (λ ps. refused_tables ps free) (all_of plans i plan within is) ∙ first_unmet (take i plans) plan (drop (suc i) plans) free why before (ap (no_table_frame plan) (sym left) ∙ unmet))
