-- That guests are apart: a law over the definitions, and what a plan says of it.
use Rattle.std.specs.Prelude.{◌≡◌, ◌≢◌, ℕ, zero, suc, ◌&&◌, Bool, false, IsTrue, List, [], ◌∷◌, Option, Some, None, Ok, slice_get}
use Rattle.std.specs.List.{list_any}
use Rattle.texts.specs.Consecutive.{is_in}
use Rattle.described.specs.Maps.{Target, target_of}
use Rattle.texts.specs.declared.ranges.FrameRange.{FrameRange}
use Rattle.described.specs.declared.map_range.MapRange.{MapRange}
use Rattle.described.specs.declared.map_range.Kind.TheVariants.{Shared}
use Rattle.frame_alloc.specs.Frames.{AreFrames}
use Rattle.item_checks.specs.declared.guests.Guest.{Guest}
use Rattle.domain_bindings.specs.declared.host.Host.{Host}
use Rattle.described.specs.declared.loaded.Loaded.{Loaded}
use Rattle.frame_alloc.specs.Ranges.{holds}
use Rattle.item_checks.specs.Taken.{Passed, what_of, belongs_to}
use Rattle.item_checks.specs.Reasons.{are_one_region}
use Rattle.domain_plan.specs.Draws.{Heaps}
use Rattle.domain_plan.specs.GuestMaps.{guest_ranges}
use Rattle.domain_plan.specs.Plans.{Draws, placed_of, outcome}
use Rattle.domain_plan.specs.declared.planned.GuestPlan.{GuestPlan}

-- the range maps the page to this target
abbrev pub IsMappedBy : MapRange → ℕ → Target → Type 0
IsMappedBy range page target = target_of (range ∷ []) page ≡ Some target

-- no page is given twice differently: what one of the ranges says of a page is what the list says of it
abbrev pub IsFunction : List MapRange → Type 0
IsFunction ranges = (index page : ℕ) (range : MapRange) (target : Target) → slice_get ranges index ≡ Some range → IsMappedBy range page target → target_of ranges page ≡ Some target

-- the frame lies in a shared region that both guests name by one id
abbrev pub is_in_one_region : List Passed → ℕ → ℕ → ℕ → Bool
is_in_one_region passed one other frame =
    list_any (λ (mine : Passed). belongs_to (Some one) mine && holds mine.claims frame
    && list_any (λ (theirs : Passed). belongs_to (Some other) theirs && are_one_region (what_of mine) (what_of theirs) && holds theirs.claims frame) passed) passed

-- a frame of the maps of two guests is shared in both, in a region of one id that both name
pub record MeetWhereShared (passed : List Passed) (one other : ℕ) (target other_target : Target) : Type 0 where
  pub here : target.kind ≡ Shared
  pub there : other_target.kind ≡ Shared
  pub region : IsTrue (is_in_one_region passed one other target.frame)

-- what a description with this outcome promises of two guests and of the frames that are left
pub record AreApart (passed : List Passed) (heaps : Heaps) : Type 0 where
  pub function : (number : ℕ) (drawn : List FrameRange) → slice_get heaps.drawn number ≡ Some drawn → IsFunction (guest_ranges passed number drawn)
  pub meet : (one other page other_page : ℕ) (drawn other_drawn : List FrameRange) (target other_target : Target) →
      (one ≡ other → ⊥) → slice_get heaps.drawn one ≡ Some drawn → slice_get heaps.drawn other ≡ Some other_drawn →
      target_of (guest_ranges passed one drawn) page ≡ Some target → target_of (guest_ranges passed other other_drawn) other_page ≡ Some other_target →
      target.frame ≡ other_target.frame → MeetWhereShared passed one other target other_target
  pub left_unmapped : (number page : ℕ) (drawn : List FrameRange) (target : Target) →
      slice_get heaps.drawn number ≡ Some drawn → target_of (guest_ranges passed number drawn) page ≡ Some target → is_in heaps.left target.frame ≡ false
  pub left_once : AreFrames heaps.left

-- where no item is refused, guests are apart
abbrev pub GuestsAreApart : Host → List Loaded → List Guest → Type 0
GuestsAreApart host loads guests = (draws : Draws) → outcome host loads guests ≡ Ok draws → AreApart (placed_of draws.runs host loads guests) draws.heaps

-- where the n-th guest's map sends a page; past the last, nowhere
abbrev pub target_in : List GuestPlan → ℕ → ℕ → Option Target
target_in [] n page = None
target_in (guest ∷ guests) zero page = target_of guest.ranges page
target_in (guest ∷ guests) (suc n) page = target_in guests n page

-- Maps are apart, and from the frames that are left: a frame of two guests is shared in both and common to them, and no frame that is left is mapped.
pub record ArePlannedApart (common : ℕ → ℕ → ℕ → Bool) (guests : List GuestPlan) (free : List ℕ) : Type 0 where
  pub ascending : AreFrames free
  pub meet : (one other page next : ℕ) (a b : Target) → one ≢ other → target_in guests one page ≡ Some a → target_in guests other next ≡ Some b → a.frame ≡ b.frame
      → (a.kind ≡ Shared) × (b.kind ≡ Shared) × IsTrue (common one other a.frame)
  pub unmapped : (n page : ℕ) (target : Target) → target_in guests n page ≡ Some target → is_in free target.frame ≡ false
