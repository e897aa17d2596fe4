-- Which regions of a guest map are blocks, and which need a table (Arm ARM, VMSAv8-64 stage 2, 4 KB granule).
-- A region of level 1 is 1 GiB, one word of a level 1 table; a region of level 2 is 2 MiB, one word of a level 2 table.
use Rattle.std.specs.Prelude.{ℕ, ◌+◌, ◌-◌, ◌*◌, ◌%◌, ◌^◌, ◌&&◌, ◌==◌, Bool, true, false, not, is_some, List, ◌∷◌, map, length, filter, flat_map, Option, Some, None}
use Rattle.std.specs.List.{list_any, list_all}
use Rattle.texts.specs.Consecutive.{numbers}
use Rattle.described.specs.Maps.{Target}
use Rattle.described.specs.declared.map_range.Kind.{Kind}
use Rattle.described.specs.declared.map_range.Kind.TheVariants.{Ram, Device, Shared}

-- a map from guest pages
abbrev pub Map : Type 0
Map = ℕ → Option Target

-- how many pages a word of a level spans: 2^18, 2^9 and 1 at levels 1, 2 and 3. A root table spans 2^27, as a word of level 0 would
abbrev pub span : ℕ → ℕ
span level = 512 ^ (3 - level)

-- a region, by its level and first page
pub record Region : Type 0 where
  pub level : ℕ
  pub page : ℕ

-- the region of a level around a page
abbrev pub region_around : ℕ → ℕ → Region
region_around level page = record { level = level; page = page - page % span level }

-- all pages of a region
abbrev pub pages_in : Region → List ℕ
pages_in region = numbers region.page (span region.level)

-- two kinds are one
abbrev pub same_kind : Kind → Kind → Bool
same_kind Ram Ram = true
same_kind Device Device = true
same_kind Shared Shared = true
same_kind _ _ = false

-- a page goes to this frame, as this kind
abbrev pub goes_to : Option Target → ℕ → Kind → Bool
goes_to None frame kind = false
goes_to (Some target) frame kind = (target.frame == frame) && same_kind target.kind kind

-- all pages of the region go to consecutive frames of one kind, from a frame that is a multiple of the region's pages
abbrev pub runs_from : Map → Region → Option Target → Bool
runs_from map region None = false
runs_from map region (Some first) =
    (first.frame % span region.level == 0) &&
    list_all (λ page. goes_to (map page) (first.frame + (page - region.page)) first.kind) (pages_in region)

-- all pages of the region go to consecutive frames of one kind, from a frame that is a multiple of its pages
abbrev pub is_run : Map → Region → Bool
is_run map region = runs_from map region (map region.page)

-- a block: a run that lies in no larger run. At level 3 it is a mapped page that lies in no larger run
abbrev pub is_block : Map → Region → Bool
is_block map region =
    is_run map region && not (list_any (λ level. is_run map (region_around level region.page)) (numbers 1 (region.level - 1)))

-- the region is a block, or lies in a larger one
abbrev pub lies_in_block : Map → Region → Bool
lies_in_block map region = list_any (λ level. is_block map (region_around level region.page)) (numbers 1 region.level)

-- the region has a table: some page of it is mapped, and it lies in no block
abbrev pub has_table : Map → Region → Bool
has_table map region = list_any (λ page. is_some (map page)) (pages_in region) && not (lies_in_block map region)

-- a region of 1 GiB, and the 512 regions of 2 MiB in it
abbrev pub regions_in : ℕ → List Region
regions_in gigabyte =
    record { level = 1; page = gigabyte * 2 ^ 18 } ∷
    map (λ index. record { level = 2; page = gigabyte * 2 ^ 18 + index * 2 ^ 9 }) (numbers 0 512)

-- all regions of a guest's 2^28 pages, by first page, the larger first
abbrev pub all_regions : List Region
all_regions = flat_map regions_in (numbers 0 1024)

-- the regions that have a table, in that order
unfoldable pub table_regions : Map → List Region
table_regions map = filter (has_table map) all_regions

-- the tables of a map by the regions that they cover, in the order of drawing: the two root tables, and then those of the regions
abbrev pub tables_of : Map → List Region
tables_of map = record { level = 0; page = 0 } ∷ record { level = 0; page = 2 ^ 27 } ∷ table_regions map

-- how many tables a map needs
abbrev pub table_count : Map → ℕ
table_count map = length (tables_of map)
