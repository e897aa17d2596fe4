-- Image files in the frames that are drawn for them are the least ones.
use Rattle.std.proofs.Common.{◌≡◌, ◌∙◌, ap, ap₂, sym, ℕ, List, [], ◌∷◌, Option, unwrap_or}
use Rattle.std.proofs.lemmas.Option.{same_Some}
use Rattle.described.specs.Maps.{target_of}
use Rattle.stage2_walk.specs.Pages.{frames_of}
use Rattle.stage2_walk.specs.Files.{file_of}
use Rattle.stage2_tables.specs.Draws.{drawn_after, drawn_from}
use Rattle.stage2_tables.specs.Least.{least_image}
use Rattle.domain_plan.specs.declared.planned.GuestPlan.{GuestPlan}
use Rattle.guest_images.specs.Requests.{tables_needed, left_by}
use Rattle.guest_images.specs.Images.{least_file, frames_for, least_files}
use Rattle.guest_images.specs.PrivateImageFiles.{IsImageFile, AreImageFiles}

least_alone : (plan : GuestPlan) (free file : List ℕ) → IsImageFile plan.ranges free file → file ≡ least_file plan.ranges (frames_for plan free)
least_alone plan free file is =
    let count : ℕ = tables_needed plan in
    let frames : drawn_after count free is.root ≡ frames_of is.pages = same_Some (drawn_after count free is.root) (frames_of is.pages) (sym (ap (drawn_from count free) is.paired) ∙ is.drawn) in
    is.spelled ∙ ap (file_of is.root) is.least ∙ ap (λ (drawn : List ℕ). file_of is.root (least_image (target_of plan.ranges) drawn)) (sym frames)
    ∙ sym (ap (λ (drawn : Option (List ℕ)). least_file plan.ranges (unwrap_or drawn [])) (ap (drawn_from count free) is.paired))

-- guest by guest
pub files_are_least : (plans : List GuestPlan) (free : List ℕ) (files : List (List ℕ)) → AreImageFiles plans free files → files ≡ least_files plans free
files_are_least [] free files are = are
files_are_least (plan ∷ plans) free [] are = elim are [ ]
files_are_least (plan ∷ plans) free (file ∷ files) are =
    ap₂ (λ (x : List ℕ) (xs : List (List ℕ)). x ∷ xs) (least_alone plan free file are.0) (files_are_least plans (left_by plan free) files are.1)
