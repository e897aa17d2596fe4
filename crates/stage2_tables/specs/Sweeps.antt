-- For private contracts and proofs: an image of least tables that is swept up to a page, in ascending order; at that page, also the regions below a level are begun.
use Rattle.std.specs.Prelude.{◌≡◌, ℕ, ◌+◌, ◌-◌, ◌*◌, ◌^◌, ◌<◌, ◌≤◌, ◌⊎◌, List, [], ◌∷◌, length, slice_get, slice_index, Some, IsSome}
use Rattle.described.specs.Regions.{Map, Region, span, tables_of, table_count}
use Rattle.stage2_walk.specs.Pages.{Page, word_in, frames_of}
use Rattle.stage2_walk.specs.TableImages.{TableImage}
use Rattle.stage2_tables.specs.TableFrames.{AreTableFrames}
use Rattle.stage2_tables.specs.Least.{region_word, part_of}
use Rattle.stage2_tables.specs.declared.sweep.Sweep.{Sweep}

-- a page lies in a region
abbrev pub IsIn : ℕ → Region → Type 0
IsIn page region = (region.page ≤ page) × (page < region.page + span region.level)

-- some page of a region is mapped, and lies before a page
pub record HasBefore (mapping : Map) (region : Region) (page : ℕ) : Type 0 where
  pub at : ℕ
  pub inside : IsIn at region
  pub before : at < page
  pub mapped : IsSome (mapping at)

-- a region is begun: by an earlier page, or by this one for a region of a smaller level
abbrev pub Begun : Map → Region → ℕ → ℕ → Type 0
Begun mapping region page level = HasBefore mapping region page ⊎ ((region.level < level) × IsIn page region)

-- the k-th table is that of a region
abbrev pub IsTable : Map → ℕ → Region → Type 0
IsTable mapping k region = slice_get (tables_of mapping) k ≡ Some region

-- the first tables up to a count are begun, and no others; the latest of each level are known by their places
pub record IsCounted (mapping : Map) (page level : ℕ) (sweep : Sweep) : Type 0 where
  pub roots : 2 ≤ sweep.used
  pub within : sweep.used ≤ table_count mapping
  pub linked : (k : ℕ) (region : Region) → IsTable mapping k region → 2 ≤ k → k < sweep.used → Begun mapping region page level
  pub unlinked : (k : ℕ) (region : Region) → IsTable mapping k region → sweep.used ≤ k → Begun mapping region page level → ⊥
  pub middle_used : 0 < sweep.large → sweep.middle < sweep.used
  pub middle_is : 0 < sweep.large → IsTable mapping sweep.middle (record { level = 1; page = (sweep.large - 1) * 2 ^ 18 })
  pub large_later : (k : ℕ) (region : Region) → IsTable mapping k region → k < sweep.used → region.level ≡ 1 → region.page < sweep.large * 2 ^ 18
  pub last_used : 0 < sweep.small → sweep.last < sweep.used
  pub last_is : 0 < sweep.small → IsTable mapping sweep.last (record { level = 2; page = (sweep.small - 1) * 2 ^ 9 })
  pub small_later : (k : ℕ) (region : Region) → IsTable mapping k region → k < sweep.used → region.level ≡ 2 → region.page < sweep.small * 2 ^ 9

-- each word is that of its region where that is begun, and else 0
pub record IsWrittenTo (mapping : Map) (frames : List ℕ) (pages : List Page) (page level : ℕ) : Type 0 where
  pub written : (k index : ℕ) (region : Region) → IsTable mapping k region → index < 512 → Begun mapping (part_of region index) page level → word_in pages (slice_index frames k) index ≡ Some (region_word mapping frames (part_of region index))
  pub blank : (k index : ℕ) (region : Region) → IsTable mapping k region → index < 512 → (Begun mapping (part_of region index) page level → ⊥) → word_in pages (slice_index frames k) index ≡ Some 0

-- frames for the tables of a map
pub record HasFrames (mapping : Map) (frames : List ℕ) : Type 0 where
  pub root : ℕ
  pub are : AreTableFrames root frames
  pub enough : length frames ≡ table_count mapping

-- each page has 512 words
abbrev pub AreWide : List Page → Type 0
AreWide [] = Unit {0}
AreWide (page ∷ pages) = (length page.words ≡ 512) × AreWide pages

-- an image and a sweep over it have come to a page
pub record IsSweptTo (mapping : Map) (image : TableImage) (sweep : Sweep) (page : ℕ) : Type 0 where
  pub frames : HasFrames mapping (frames_of image.pages)
  pub wide : AreWide image.pages
  pub counted : IsCounted mapping page 1 sweep
  pub written : IsWrittenTo mapping (frames_of image.pages) image.pages page 1
