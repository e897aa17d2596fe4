-- What walking the images of guests reaches, and where their tables lie.
use Rattle.std.specs.Prelude.{◌≡◌, ◌≢◌, ◌<◌, ◌/◌, ◌^◌, ℕ, zero, suc, Bool, false, IsTrue, List, [], ◌∷◌, Option, Some, None, option_map, Result, Ok, Err}
use Rattle.texts.specs.Consecutive.{is_in}
use Rattle.described.specs.Maps.{Target, attributes, target_of}
use Rattle.described.specs.declared.map_range.Kind.TheVariants.{Shared}
use Rattle.stage2_walk.specs.Pages.{Page, frames_of}
use Rattle.stage2_walk.specs.Files.{image_of}
use Rattle.stage2_walk.specs.Walks.{walk, reached}
use Rattle.stage2_walk.specs.declared.image_fault.ImageFault.{ImageFault}
use Rattle.stage2_tables.specs.Translation.{translated}
use Rattle.domain_plan.specs.declared.planned.GuestPlan.{GuestPlan}

-- where walking the image in a file takes an address: to a host address with the attributes of the leaf, if to any
abbrev pub walked : Result (ℕ × List Page) ImageFault → ℕ → Option (ℕ × ℕ)
walked (Ok image) address = reached (walk image.1 image.0 address)
walked (Err fault) address = None

-- where the walk of an image file ends: the address and the attributes
abbrev pub file_walk : List ℕ → ℕ → Option (ℕ × ℕ)
file_walk bytes address = walked (image_of bytes) address

-- Walking the image that is written for a guest translates an address exactly where the guest's description maps it: to the described frame, with the described rights and memory type.
abbrev pub WalksAsDescribed : GuestPlan → List ℕ → Type 0
WalksAsDescribed guest image =
    (address : ℕ) → address < 2 ^ 40 → file_walk image address ≡ translated address (target_of guest.ranges (address / 2 ^ 12))

-- each guest's image does so
abbrev pub AllWalk : List GuestPlan → List (List ℕ) → Type 0
AllWalk [] images = images ≡ []
AllWalk (guest ∷ guests) [] = ⊥
AllWalk (guest ∷ guests) (image ∷ images) = WalksAsDescribed guest image × AllWalk guests images

-- where walking the n-th image takes an address; past the last, nowhere
abbrev pub walk_of : List (List ℕ) → ℕ → ℕ → Option (ℕ × ℕ)
walk_of [] n address = None
walk_of (image ∷ images) zero address = file_walk image address
walk_of (image ∷ images) (suc n) address = walk_of images n address

-- the host frame that it reaches, and the attributes of the leaf
abbrev pub frame_of : List (List ℕ) → ℕ → ℕ → Option ℕ
frame_of images n address = option_map (λ place. place.0 / 2 ^ 12) (walk_of images n address)

-- the attributes with which the n-th image maps an address
abbrev pub attributes_of : List (List ℕ) → ℕ → ℕ → Option ℕ
attributes_of images n address = option_map (λ place. place.1) (walk_of images n address)

-- Frames of two guests meet only in a region that both name, by their numbers, in common.
abbrev pub MeetOnlyIn : (ℕ → ℕ → ℕ → Bool) → List (List ℕ) → Type 0
MeetOnlyIn common images =
    (one other here there frame : ℕ) → one ≢ other → here < 2 ^ 40 → there < 2 ^ 40
    → frame_of images one here ≡ Some frame → frame_of images other there ≡ Some frame → IsTrue (common one other frame)

-- the frames of the tables in a file
abbrev pub tables_in : Result (ℕ × List Page) ImageFault → List ℕ
tables_in (Ok image) = frames_of image.1
tables_in (Err fault) = []

-- those of the n-th image; past the last, none
abbrev pub tables_of : List (List ℕ) → ℕ → List ℕ
tables_of [] n = []
tables_of (image ∷ images) zero = tables_in (image_of image)
tables_of (image ∷ images) (suc n) = tables_of images n

-- Images are apart: where two meet, both have shared memory; no table lies in a frame that an image maps, and none in a frame of another image.
pub record AreApart (images : List (List ℕ)) : Type 0 where
  pub shared : (one other here there frame : ℕ) → one ≢ other → here < 2 ^ 40 → there < 2 ^ 40 → frame_of images one here ≡ Some frame → frame_of images other there ≡ Some frame
      → (attributes_of images one here ≡ Some (attributes Shared)) × (attributes_of images other there ≡ Some (attributes Shared))
  pub unmapped : (one other here frame : ℕ) → here < 2 ^ 40 → IsTrue (is_in (tables_of images one) frame) → frame_of images other here ≢ Some frame
  pub tables : (one other frame : ℕ) → one ≢ other → IsTrue (is_in (tables_of images one) frame) → is_in (tables_of images other) frame ≡ false
