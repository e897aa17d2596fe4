-- That the memory which a plan lists is what its map gives the guest as its own: a law over the definitions.
use Rattle.std.specs.Prelude.{◌≡◌, ℕ, ◌<◌, sum_by, Bool, true, false, List, flat_map, drop, Option, Some, None, Ok, slice_get}
use Rattle.std.specs.List.{list_any}
use Rattle.texts.specs.Consecutive.{numbers, is_in}
use Rattle.described.specs.Maps.{Target, target_of}
use Rattle.texts.specs.declared.ranges.FrameRange.{FrameRange}
use Rattle.described.specs.declared.map_range.Kind.{Kind}
use Rattle.described.specs.declared.map_range.Kind.TheVariants.{Ram, Device, Shared}
use Rattle.described.specs.declared.map_range.MapRange.{MapRange}
use Rattle.domain_bindings.specs.declared.host.Host.{Host}
use Rattle.item_checks.specs.declared.guests.Guest.{Guest}
use Rattle.described.specs.declared.loaded.Loaded.{Loaded}
use Rattle.item_checks.specs.Taken.{says_direct, static_pages}
use Rattle.domain_plan.specs.GuestMaps.{guest_ranges}
use Rattle.domain_plan.specs.Arguments.{whats_of}
use Rattle.domain_plan.specs.Plans.{Draws, placed_of, memories_of, outcome}

-- memory of the guest alone
abbrev pub is_ram_kind : Kind → Bool
is_ram_kind Ram = true
is_ram_kind Device = false
is_ram_kind Shared = false

-- a page goes to a frame of the guest's own memory
abbrev pub is_ram_target : Option Target → Bool
is_ram_target None = false
is_ram_target (Some target) = is_ram_kind target.kind

-- the ranges map the page as memory of the guest alone
abbrev pub is_ram : List MapRange → ℕ → Bool
is_ram ranges page = is_ram_target (target_of ranges page)

-- the page lies in one of the listed ranges, each a first page with a number of pages
abbrev pub is_listed : List (ℕ × ℕ) → ℕ → Bool
is_listed memories page = is_in (flat_map (λ (page, count). numbers page count) memories) page

-- a guest has one kind of memory: where it draws pages, it has no static memory and is not direct-mapped; and its head alone says that it is
pub record HasOneKindOfMemory (guest : Guest) : Type 0 where
  pub drawn_alone : 0 < guest.domain.pages → (sum_by static_pages (whats_of guest) ≡ 0) × (guest.domain.direct ≡ false)
  pub head_alone : list_any says_direct (drop 1 (whats_of guest)) ≡ false

-- where no item is refused, the pages of a guest's listed memory are those that its map gives it as its own
abbrev pub MemoryIsMapped : Host → List Loaded → List Guest → Type 0
MemoryIsMapped host loads guests =
    (draws : Draws) (number : ℕ) (guest : Guest) (drawn : List FrameRange) → outcome host loads guests ≡ Ok draws → slice_get guests number ≡ Some guest → slice_get draws.heaps.drawn number ≡ Some drawn →
    HasOneKindOfMemory guest → (page : ℕ) → is_listed (memories_of (placed_of draws.runs host loads guests) number guest) page ≡ is_ram (guest_ranges (placed_of draws.runs host loads guests) number drawn) page
