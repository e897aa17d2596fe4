-- Files side by side.
use Rattle.std.proofs.Common.{◌≡◌, ◌∙◌, ap, refl, ℕ, List, [], ◌∷◌, ◌++◌, map}
use Rattle.std.specs.Prelude.{Option}
use Rattle.std.specs.List.{zip, flat_map}
use denote.Ref.{Bor}
use Rattle.outside.specs.Outside.{File}
use Rattle.domain_plan.specs.declared.planned.GuestPlan.{GuestPlan}
use Rattle.guest_images.specs.Built.{files_in}
use Rattle.guest_images.specs.declared.images.GuestImage.{GuestImage}
use Rattle.run_steps.specs.Outputs.{file_of}
use Rattle.run_steps.specs.declared.output.Output.{Output}
use Rattle.build_outputs.specs.Made as made
use Rattle.build_outputs.specs.Outputs.{image_output, image_outputs, in_folder, in_turn}

-- a guest and its image, as they are looked at
abbrev pub seen : Bor GuestPlan × GuestImage → GuestPlan × GuestImage
seen pair = (pair.0.now, pair.1)

-- the images of guests as files
of_images : (guests : List GuestPlan) (images : List GuestImage) → map (λ (pair : GuestPlan × GuestImage). image_output (pair.0, pair.1.file)) (zip guests images) ≡ image_outputs guests (files_in images)
of_images [] images = refl
of_images (guest ∷ guests) [] = refl
of_images (guest ∷ guests) (image ∷ images) = ap (λ more. image_output (guest, image.file) ∷ more) (of_images guests images)

seen_outputs : (pairs : List (Bor GuestPlan × GuestImage)) → map (λ (pair : Bor GuestPlan × GuestImage). image_output (pair.0.now, pair.1.file)) pairs ≡ map (λ (pair : GuestPlan × GuestImage). image_output (pair.0, pair.1.file)) (map seen pairs)
seen_outputs [] = refl
seen_outputs (pair ∷ pairs) = ap (λ more. image_output (pair.0.now, pair.1.file) ∷ more) (seen_outputs pairs)

pub all_images : (pairs : List (Bor GuestPlan × GuestImage)) (guests : List GuestPlan) (images : List GuestImage) → map seen pairs ≡ zip guests images
    → map (λ (pair : Bor GuestPlan × GuestImage). image_output (pair.0.now, pair.1.file)) pairs ≡ image_outputs guests (files_in images)
all_images pairs guests images all =
    seen_outputs pairs ∙ ap (map (λ (pair : GuestPlan × GuestImage). image_output (pair.0, pair.1.file))) all ∙ of_images guests images

-- two files in turn
abbrev pub two : Output × Output → List File
two pair = file_of pair.0 ∷ file_of pair.1 ∷ []

-- outputs in turn as files in turn
pub turned : (trees images : List Output) → flat_map two (zip trees images) ≡ in_turn (made.files_in trees) (made.files_in images)
turned [] images = refl
turned (tree ∷ trees) [] = refl
turned (tree ∷ trees) (image ∷ images) = ap (λ more. file_of tree ∷ file_of image ∷ more) (turned trees images)

-- files in a folder, in turn
pub turned_in : (folder : Option (List ℕ)) (files others : List File) → in_turn (in_folder folder files) (in_folder folder others) ≡ in_folder folder (in_turn files others)
turned_in folder [] others = refl
turned_in folder (file ∷ files) [] = refl
turned_in folder (file ∷ files) (other ∷ others) = ap (λ more. in_folder folder (file ∷ other ∷ []) ++ more) (turned_in folder files others)
