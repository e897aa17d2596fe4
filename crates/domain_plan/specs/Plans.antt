-- The plan of a description, or the first item that is refused.
use Rattle.std.specs.Prelude.{◌≡◌, ℕ, ◌+◌, ◌&&◌, nat_lt, if◌then◌else◌, List, [], ◌∷◌, map, filter, flat_map, Option, Some, None, Result, Ok, Err}
use Rattle.std.specs.List.{list_any}
use Rattle.texts.specs.Consecutive.{numbers}
use Rattle.described.specs.Maps.{target_of, AreMapRanges, AreMerged}
use Rattle.texts.specs.declared.ranges.FrameRange.{FrameRange}
use Rattle.described.specs.declared.item.What.{What}
use Rattle.described.specs.declared.item.What.TheVariants as whats
use Rattle.item_checks.specs.declared.guests.Guest.{Guest}
use Rattle.domain_bindings.specs.declared.host.Host.{Host}
use Rattle.described.specs.declared.loaded.Loaded.{Loaded}
use Rattle.item_checks.specs.declared.guests.PartialState.{PartialState}
use Rattle.item_checks.specs.declared.guests.PartialState.TheVariants as states
use Rattle.domain_plan.specs.declared.planned.GuestPlan.{GuestPlan}
use Rattle.frame_alloc.specs.Ranges.{touched}
use Rattle.item_checks.specs.Entries.{joined}
use Rattle.item_checks.specs.Taken.{Passed, what_of, belongs_to, is_direct, pages_before, bank_pages, all_passed, passed_of}
use Rattle.item_checks.specs.Reasons.{is_irq, layout_at}
use Rattle.item_checks.specs.Refusals.{Refusal, first_refused}
use Rattle.domain_plan.specs.Draws.{Heaps, free_frames, heaps}
use Rattle.domain_plan.specs.declared.runs.Run.{Run}
use Rattle.domain_plan.specs.Regions.{Runs, requests, runs_drawn, placed}
use Rattle.domain_plan.specs.GuestMaps.{guest_ranges}

-- what was drawn: the runs of regions, and the memory of guests with what is left
pub record Draws : Type 0 where
  pub runs : List Run
  pub heaps : Heaps

-- all items with what they take, each region at its host address
abbrev pub placed_of : List Run → Host → List Loaded → List Guest → List Passed
placed_of runs host loads guests = all_passed [] (placed runs (joined host loads guests))

-- the guests' memory is drawn after these runs
abbrev pub and_heaps : List Run → Result Heaps Refusal → Result Draws Refusal
and_heaps runs (Err refusal) = Err refusal
and_heaps runs (Ok heaps) = Ok (record { runs = runs; heaps = heaps })

-- the regions draw, and then the guests draw from what is left
abbrev pub draws_after : List Guest → Result Runs Refusal → Result Draws Refusal
draws_after guests (Err refusal) = Err refusal
draws_after guests (Ok runs) = and_heaps runs.runs (heaps guests runs.left)

-- what regions and guests draw from the frames that no item claims; the first that cannot is refused
abbrev pub draws : List Guest → List FrameRange → List Passed → Result Draws Refusal
draws guests ram passed = draws_after guests (runs_drawn (requests [] passed) (free_frames ram passed))

-- a refusal, or else what comes after it
abbrev pub unless_refused : Option Refusal → Result Draws Refusal → Result Draws Refusal
unless_refused (Some refusal) later = Err refusal
unless_refused None later = later

-- the first refused item with its first reason, the requests of regions and of guests for memory coming last; or what was drawn and what is left
unfoldable pub outcome : Host → List Loaded → List Guest → Result Draws Refusal
outcome host loads guests =
    unless_refused (first_refused host [] (joined host loads guests)) (draws guests host.ram (passed_of host loads guests))

-- what the items of a guest say, one by one
abbrev pub said_by : List Passed → ℕ → {A : Type 0} → (What → List A) → List A
said_by passed number says = flat_map (λ (one : Passed). if belongs_to (Some number) one then says (what_of one) else []) passed

-- a range of pages as its first page and how many there are
abbrev pub as_pair : FrameRange → ℕ × ℕ
as_pair range = (range.first, range.count)

-- the pages of a static range
abbrev pub static_memory : What → List (ℕ × ℕ)
static_memory (whats.Static at) = as_pair (touched at) ∷ []
static_memory _ = []

-- the banks that a guest's memory fills
abbrev pub banks_filled : ℕ → List (ℕ × ℕ)
banks_filled count = map as_pair (filter (λ (range : FrameRange). nat_lt 0 range.count) (bank_pages 0 count))

-- a guest's memory in pages: its banks, or its static ranges in order where it is direct-mapped
abbrev pub memories_of : List Passed → ℕ → Guest → List (ℕ × ℕ)
memories_of passed number guest =
    if is_direct passed (Some number) then said_by passed number static_memory
    else banks_filled (guest.domain.pages + pages_before passed (Some number))

-- the interrupts of a guest, ascending, each once
abbrev pub spis_of : List Passed → ℕ → List ℕ
spis_of passed number =
    filter (λ spi. list_any (λ (one : Passed). belongs_to (Some number) one && is_irq spi (what_of one)) passed) (numbers 0 988)

-- a region by its id and its pages
abbrev pub region_of : What → List (List ℕ × ℕ × ℕ)
region_of (whats.Shared id host guest size owner) = (id, (touched (record { base = guest; size = size })).first, (touched (record { base = guest; size = size })).count) ∷ []
region_of _ = []

-- a port with its peer and the peer's port
abbrev pub port_of : What → List (ℕ × ℕ × ℕ)
port_of (whats.Port port peer peer_port) = (port, peer, peer_port) ∷ []
port_of _ = []

-- the phandle of a guest's interrupt controller
abbrev pub gic_of : PartialState → ℕ
gic_of (states.Read partial) = partial.gic
gic_of _ = 65000

-- the plan of a guest that drew these frames
pub record IsGuestPlan (host : Host) (passed : List Passed) (number : ℕ) (guest : Guest) (drawn : List FrameRange) (plan : GuestPlan) : Type 0 where
  pub guest_number : plan.number ≡ guest.domain.number
  pub path : plan.path ≡ guest.domain.path
  pub cpus : plan.cpus ≡ guest.domain.cpus
  pub console : plan.console ≡ guest.domain.console
  pub gic : plan.gic ≡ gic_of guest.partial
  pub layout : plan.layout ≡ layout_at host passed (Some number)
  pub bootargs : plan.bootargs ≡ guest.domain.bootargs
  pub memories : plan.memories ≡ memories_of passed number guest
  pub sorted : AreMapRanges plan.ranges
  pub merged : AreMerged plan.ranges
  pub mapped : (page : ℕ) → target_of plan.ranges page ≡ target_of (guest_ranges passed number drawn) page
  pub spis : plan.spis ≡ spis_of passed number
  pub shared : plan.shared ≡ said_by passed number region_of
  pub ports : plan.ports ≡ said_by passed number port_of

-- one plan for each guest, in their order, the first of which has this number
abbrev pub AreGuestPlans : Host → List Passed → ℕ → List Guest → List (List FrameRange) → List GuestPlan → Type 0
AreGuestPlans host passed number (guest ∷ guests) (drawn ∷ more) (plan ∷ plans) = IsGuestPlan host passed number guest drawn plan × AreGuestPlans host passed (number + 1) guests more plans
AreGuestPlans host passed number [] [] [] = Unit {0}
AreGuestPlans host passed number _ _ _ = ⊥
