-- The numbers that nodes have in memory are of no matter to a plan.
use Rattle.std.proofs.Common.{◌≡◌, ◌∙◌, ap, subst, refl, ℕ, ◌+◌, List, [], ◌∷◌, ◌++◌, map, length, All, Option, Some, None, Result, Ok, Err}
use Rattle.std.proofs.lemmas.List.Elements.{All-nil, All-cons, All-head, All-tail}
use Rattle.texts.specs.declared.ranges.FrameRange.{FrameRange}
use Rattle.described.specs.declared.why.Why.TheVariants.{NoRam}
use Rattle.domain_bindings.specs.declared.host.Host.{Host}
use Rattle.item_checks.specs.declared.guests.Guest.{Guest}
use Rattle.described.specs.declared.loaded.Loaded.{Loaded}
use Rattle.domain_plan.specs.declared.planned.GuestPlan.{GuestPlan}
use Rattle.domain_plan.specs.Arguments.{AreRead, AreSound, IsSoundGuest, has_no_fault}
use Rattle.domain_plan.specs.Draws.{Drawn, Heaps, drawn, heaps, and_drawn, heap_item, free_frames}
use Rattle.item_checks.specs.Entries.{Entry, joined, of_host, of_guest, items_of, is_read, load_item, guest_entries}
use Rattle.item_checks.specs.Taken.{passed_of, Passed, passing, all_passed}
use Rattle.domain_plan.specs.Plans.{placed_of, and_heaps, draws_after, draws, outcome, unless_refused, IsGuestPlan, AreGuestPlans}
use Rattle.item_checks.specs.Refusals.{Refusal, why, or_later, first_refused}
use Rattle.domain_plan.specs.Regions.{Runs, requests, runs_drawn, placed}
use Rattle.domain_plan.specs.declared.runs.Run.{Run}
use Rattle.domain_plan.specs.PrivateHeldGuests.{unheld, unheld_host}

entries_unheld : (number : ℕ) (guests : List Guest) → guest_entries number (map unheld guests) ≡ guest_entries number guests
entries_unheld number [] = refl
entries_unheld number (guest ∷ guests) =
    ap (λ (rest : List Entry). of_guest number (is_read guest.partial) (items_of guest) ++ rest) (entries_unheld (number + 1) guests)

module _ (host : Host) (loads : List Loaded) where
  pub joined_unheld : (guests : List Guest) → joined (unheld_host host) loads (map unheld guests) ≡ joined host loads guests
  joined_unheld guests = ap (λ (rest : List Entry). of_host host.items ++ of_host (map load_item loads) ++ of_host host.modules ++ rest) (entries_unheld 0 guests)

  pub placed_unheld : (runs : List Run) (guests : List Guest) → placed_of runs (unheld_host host) loads (map unheld guests) ≡ placed_of runs host loads guests
  placed_unheld runs guests = ap (λ (entries : List Entry). all_passed [] (placed runs entries)) (joined_unheld guests)

heaps_unheld : (guests : List Guest) (free : List ℕ) → heaps (map unheld guests) free ≡ heaps guests free
unfolding heaps
heaps_unheld [] free = refl
heaps_unheld (guest ∷ guests) free = by (drawn guest.domain.pages free) (heaps_unheld guests)
  where
    by : (one : Option Drawn) → ((left : List ℕ) → heaps (map unheld guests) left ≡ heaps guests left)
        → elim one as (λ _. Result Heaps Refusal) [
          | None ↦ Err (heap_item guest, NoRam guest.domain.pages (length free))
          | Some one ↦ and_drawn one.frames (heaps (map unheld guests) one.left)
        ] ≡ elim one as (λ _. Result Heaps Refusal) [
          | None ↦ Err (heap_item guest, NoRam guest.domain.pages (length free))
          | Some one ↦ and_drawn one.frames (heaps guests one.left)
        ]
    by None later = refl
    by (Some one) later = ap (and_drawn one.frames) (later one.left)

draws_unheld : (guests : List Guest) (o : Result Runs Refusal) → draws_after (map unheld guests) o ≡ draws_after guests o
draws_unheld guests (Err refusal) = refl
draws_unheld guests (Ok runs) = ap (and_heaps runs.runs) (heaps_unheld guests runs.left)

-- the reasons look at the host's memory and devices, and at no number of a node
refused_unheld : (host : Host) (before : List Passed) (entries : List Entry) → first_refused (unheld_host host) before entries ≡ first_refused host before entries
unfolding first_refused
refused_unheld host before [] = refl
refused_unheld host before (entry ∷ entries) =
    ap (or_later entry.described.item (why host before entry)) (refused_unheld host (before ++ passing before entry ∷ []) entries)

pub outcome_unheld : (host : Host) (loads : List Loaded) (guests : List Guest) → outcome (unheld_host host) loads (map unheld guests) ≡ outcome host loads guests
unfolding outcome
outcome_unheld host loads guests =
    ap (λ (entries : List Entry). unless_refused (first_refused (unheld_host host) [] entries) (draws (map unheld guests) host.ram (all_passed [] entries))) (joined_unheld host loads guests)
    ∙ ap (λ (refused : Option Refusal). unless_refused refused (draws (map unheld guests) host.ram (passed_of host loads guests))) (refused_unheld host [] (joined host loads guests))
    ∙ ap (unless_refused (first_refused host [] (joined host loads guests))) (draws_unheld guests (runs_drawn (requests [] (passed_of host loads guests)) (free_frames host.ram (passed_of host loads guests))))

-- the plans of guests are those of guests without the numbers of their nodes
plan_unheld : (host : Host) (passed : List Passed) (number : ℕ) (guest : Guest) (frames : List FrameRange) (plan : GuestPlan) → IsGuestPlan host passed number guest frames plan → IsGuestPlan (unheld_host host) passed number (unheld guest) frames plan
plan_unheld host passed number guest frames plan is = record {
  guest_number = is.guest_number;
  path = is.path;
  cpus = is.cpus;
  console = is.console;
  gic = is.gic;
  layout = is.layout;
  bootargs = is.bootargs;
  memories = is.memories;
  sorted = is.sorted;
  merged = is.merged;
  mapped = is.mapped;
  spis = is.spis;
  shared = is.shared;
  ports = is.ports;
}

pub plans_unheld : (host : Host) (passed : List Passed) (number : ℕ) (guests : List Guest) (drawn : List (List FrameRange)) (plans : List GuestPlan) → AreGuestPlans host passed number guests drawn plans
    → AreGuestPlans (unheld_host host) passed number (map unheld guests) drawn plans
plans_unheld host passed number [] [] [] are = tt
plans_unheld host passed number [] [] (plan ∷ plans) are = elim are [ ]
plans_unheld host passed number [] (frames ∷ drawn) [] are = elim are [ ]
plans_unheld host passed number [] (frames ∷ drawn) (plan ∷ plans) are = elim are [ ]
plans_unheld host passed number (guest ∷ guests) [] [] are = elim are [ ]
plans_unheld host passed number (guest ∷ guests) [] (plan ∷ plans) are = elim are [ ]
plans_unheld host passed number (guest ∷ guests) (frames ∷ drawn) [] are = elim are [ ]
plans_unheld host passed number (guest ∷ guests) (frames ∷ drawn) (plan ∷ plans) are =
    (plan_unheld host passed number guest frames plan are.0, plans_unheld host passed (number + 1) guests drawn plans are.1)

-- and so is what a plan asks
sound_held : (guests : List Guest) → All IsSoundGuest (map unheld guests) → All IsSoundGuest guests
sound_held [] all = All-nil IsSoundGuest
sound_held (guest ∷ guests) all =
    let first : IsSoundGuest (unheld guest) = All-head IsSoundGuest (unheld guest) (map unheld guests) all in
    All-cons IsSoundGuest guest guests (record { head = first.head; statics = first.statics }) (sound_held guests (All-tail IsSoundGuest (unheld guest) (map unheld guests) all))

pub read_held : (host : Host) (loads : List Loaded) (guests : List Guest) → AreRead (unheld_host host) loads (map unheld guests) → AreRead host loads guests
read_held host loads guests read = record {
  ram = read.ram;
  devices = record { areas = read.devices.areas; console = read.devices.console };
  items = subst AreSound (joined_unheld host loads guests) read.items;
  guests_sound = λ clear. sound_held guests (read.guests_sound (ap has_no_fault (joined_unheld host loads guests) ∙ clear));
}
