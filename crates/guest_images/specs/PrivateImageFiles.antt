-- What is known of image files while they are built. Only private contracts and proofs use this file.
use Rattle.std.specs.Prelude.{◌≡◌, ℕ, List, [], ◌∷◌, Some, Ok}
use Rattle.described.specs.Maps.{target_of}
use Rattle.described.specs.Regions.{table_count}
use Rattle.described.specs.declared.map_range.MapRange.{MapRange}
use Rattle.frame_alloc.specs.Frames.{lowest_pair}
use Rattle.stage2_walk.specs.Pages.{Page, frames_of}
use Rattle.stage2_walk.specs.Files.{file_of, image_of}
use Rattle.stage2_tables.specs.Draws.{table_frames}
use Rattle.stage2_tables.specs.Least.{least_image}
use Rattle.stage2_tables.specs.Translation.{TranslatesAs}
use Rattle.domain_plan.specs.declared.planned.GuestPlan.{GuestPlan}
use Rattle.guest_images.specs.Requests.{left_by}

-- The bytes are the file of the least image of a map in ranges, in the frames that are drawn for it. Walking it translates
-- every address below 2^40 exactly as the map says
pub record IsImageFile (ranges : List MapRange) (free bytes : List ℕ) : Type 0 where
  pub root : ℕ
  pub pages : List Page
  pub spelled : bytes ≡ file_of root pages
  pub file : image_of bytes ≡ Ok (root, pages)
  pub least : pages ≡ least_image (target_of ranges) (frames_of pages)
  pub walk : TranslatesAs pages root ranges
  pub paired : lowest_pair free ≡ Some root
  pub drawn : table_frames (table_count (target_of ranges)) free ≡ Some (frames_of pages)

-- the files of images of guests, each in the frames that those before it left
abbrev pub AreImageFiles : List GuestPlan → List ℕ → List (List ℕ) → Type 0
AreImageFiles [] free files = files ≡ []
AreImageFiles (plan ∷ plans) free [] = ⊥
AreImageFiles (plan ∷ plans) free (file ∷ files) = IsImageFile plan.ranges free file × AreImageFiles plans (left_by plan free) files
