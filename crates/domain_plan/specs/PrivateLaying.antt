-- For proofs and private contracts alone: what the code that gathers a guest's ranges asks and gives.
use Rattle.described.specs.Maps.{target_of, holds_page, AreMapRanges, AreMerged}
use Rattle.std.specs.Prelude.{◌≡◌, true, None, ℕ, ◌+◌, ◌/◌, ◌^◌, ◌<◌, ◌≤◌, List, [], ◌∷◌}
use Rattle.texts.specs.declared.ranges.FrameRange.{FrameRange}
use Rattle.described.specs.declared.map_range.Kind.TheVariants.{Ram, Device}
use Rattle.described.specs.declared.map_range.MapRange.{MapRange}
use Rattle.described.specs.declared.item.What.{What}
use Rattle.described.specs.declared.item.What.TheVariants as whats
use Rattle.domain_plan.specs.GuestMaps.{onto, region_maps}

-- frames that end at or below frame 2^28, where there are any
abbrev pub AreLowFrames : List FrameRange → Type 0
AreLowFrames [] = Unit {0}
AreLowFrames (range ∷ ranges) = (0 < range.count → range.first + range.count ≤ 2 ^ 28) × AreLowFrames ranges

-- what an item maps, by what it describes and by its pages
abbrev pub maps_by : What → List FrameRange → List MapRange
maps_by what pages = elim what as (λ _. List MapRange) [
  | whats.Static at ↦ onto Ram (at.base / 4096) pages
  | whats.Range host size guest ↦ onto Device (host / 4096) pages
  | whats.Shared id host guest size owner ↦ region_maps host pages
  | _ ↦ []
]

-- no page of a range is mapped by a later one
abbrev pub AreApart : List MapRange → Type 0
AreApart [] = Unit {0}
AreApart (range ∷ ranges) = ((page : ℕ) → holds_page range page ≡ true → target_of ranges page ≡ None) × AreApart ranges

-- a range that is not empty lies below page and frame 2^28
abbrev pub AreLowRanges : List MapRange → Type 0
AreLowRanges [] = Unit {0}
AreLowRanges (range ∷ ranges) = (0 < range.count → (range.page + range.count ≤ 2 ^ 28) × (range.first + range.count ≤ 2 ^ 28)) × AreLowRanges ranges

-- the ranges are in order, apart and merged, and send each page where these do
pub record IsMapOf (ranges joined : List MapRange) : Type 0 where
  pub sorted : AreMapRanges joined
  pub merged : AreMerged joined
  pub mapped : (page : ℕ) → target_of joined page ≡ target_of ranges page
