-- The plan of a description is determined by it.
use Rattle.std.proofs.Common.{◌≡◌, ◌∙◌, ap, ap₂, sym, subst, refl, ℕ, suc, ◌+◌, Bool, List, [], ◌∷◌, map, All, Option, Some, None, Result, Ok, Err, arith}
use Rattle.std.specs.Prelude.{slice_get}
use Rattle.std.proofs.lemmas.List.Elements.{All-nil, All-cons}
use Rattle.described.specs.Maps.{AreMapRanges, AreMerged}
use Rattle.described.specs.declared.item.Described.{Described}
use Rattle.described.specs.declared.item.Item.{Item}
use Rattle.described.specs.declared.layout.Layout.{Layout}
use Rattle.texts.specs.declared.ranges.FrameRange.{FrameRange}
use Rattle.described.specs.declared.map_range.MapRange.{MapRange}
use Rattle.described.specs.declared.why.Why.{Why}
use Rattle.frame_alloc.specs.Frames.{AreFrameRanges}
use Rattle.domain_bindings.specs.declared.host.Host.{Host}
use Rattle.domain_bindings.specs.HostDevices.{HasUsableDevices, areas_of, console_of}
use Rattle.domain_bindings.specs.Hosts.{host_items, dom0_items, ram_regions}
use Rattle.domain_bindings.specs.Ram.{IsRam}
use Rattle.domain_bindings.proofs.HostDeviceLemmas.{areas-usable, console-usable}
use Rattle.domain_bindings.proofs.RamLemmas.{AreFrameRanges-merged}
use Rattle.item_checks.specs.declared.guests.Guest.{Guest}
use Rattle.described.specs.declared.loaded.Loaded.{Loaded}
use Rattle.domain_plan.specs.declared.planned.GuestPlan.{GuestPlan}
use Rattle.domain_plan.specs.Arguments.{AreRead}
use Rattle.item_checks.specs.Entries.{of_guest, is_read, items_of}
use Rattle.domain_plan.specs.GuestMaps.{guest_ranges}
use Rattle.domain_plan.specs.PrivateLaying.{AreApart, AreLowRanges}
use Rattle.domain_plan.specs.MapOrder.{in_order, joined_ranges}
use Rattle.domain_plan.specs.Plans.{Draws, placed_of, outcome, gic_of, memories_of, spis_of, said_by, region_of, IsGuestPlan, AreGuestPlans}
use Rattle.item_checks.specs.Reasons.{layout_at}
use Rattle.item_checks.specs.Refusals.{Refusal}
use Rattle.item_checks.specs.Taken.{Passed, all_passed}
use Rattle.domain_plan.proofs.ApartLemmas.{outcome_tells}
use Rattle.domain_plan.proofs.MapResult.{map_result}
use Rattle.domain_plan.proofs.OwnItems.{same_ranges}
use Rattle.domain_plan.proofs.PlacedGuests.{placed_items}
use Rattle.domain_plan.proofs.PlacedLaws.{ready_placed, own_placed}
use Rattle.domain_plan.specs.Descriptions.{Description, host_of, guests_of, frames_as_ranges}
use Rattle.domain_plan.specs.TreePlans.{guest_plan, guest_plans, runs_in, items_in, plan_from, plan_of}
use Rattle.domain_plan.specs.PrivateHeldGuests.{unheld, unheld_host}
use Rattle.domain_plan.proofs.FrameRanges.{frames_as_ranges-frames_in}
use Rattle.domain_plan.proofs.MapRanges.{one_list}
use Rattle.domain_plan.proofs.Unheld.{placed_unheld, outcome_unheld, plans_unheld, read_held}
use Rattle.domain_plan.proofs.Sound.{all_items_sound}
use Rattle.domain_plan.proofs.SoundGuests.{all_guests_sound}

-- ---- what a plan asks

-- the host that was read is the one that is described
pub host_same : (description : Description) (host : Host) → host.items ≡ host_items description.root description.reserves → host.modules ≡ dom0_items description.root
    → IsRam (ram_regions description.root) host.ram → host.areas ≡ areas_of description.root → host.console ≡ console_of description.root → unheld_host host ≡ host_of description
host_same description host items modules ram areas console =
    let ranges : host.ram ≡ (host_of description).ram = sym (frames_as_ranges-frames_in host.ram 0 ram.merged) ∙ ap frames_as_ranges ram.frames in
    ap (λ (list : List Described). record { items = list; modules = host.modules; ram = host.ram; gic = None; areas = host.areas; console = host.console }) items
    ∙ ap (λ (list : List Described). record { items = (host_of description).items; modules = list; ram = host.ram; gic = None; areas = host.areas; console = host.console }) modules
    ∙ ap (λ (list : List FrameRange). record { items = (host_of description).items; modules = (host_of description).modules; ram = list; gic = None; areas = host.areas; console = host.console }) ranges
    ∙ ap (λ (both : Option ((ℕ × ℕ) × (ℕ × ℕ))). record { items = (host_of description).items; modules = (host_of description).modules; ram = (host_of description).ram; gic = None; areas = both; console = host.console }) areas
    ∙ ap (λ (address : Option ℕ). record { items = (host_of description).items; modules = (host_of description).modules; ram = (host_of description).ram; gic = None; areas = (host_of description).areas; console = address }) console

-- the host's devices are usable, where it has such
devices_usable : (description : Description) → HasUsableDevices (host_of description)
devices_usable description = record { areas = areas-usable description.root; console = console-usable description.root }

pub description_read : (description : Description) → AreFrameRanges (host_of description).ram → AreRead (host_of description) description.loads (guests_of description)
description_read description ram = record { ram = ram; devices = devices_usable description; items = all_items_sound description; guests_sound = all_guests_sound description }

-- a host and guests that were read are those of a description
pub record AreOf (description : Description) (host : Host) (guests : List Guest) : Type 0 where
  pub host_is : unheld_host host ≡ host_of description
  pub guests_are : map unheld guests ≡ guests_of description
  pub ram : AreFrameRanges host.ram

pub are_of : (description : Description) (host : Host) (guests : List Guest) → host.items ≡ host_items description.root description.reserves → host.modules ≡ dom0_items description.root
    → IsRam (ram_regions description.root) host.ram → host.areas ≡ areas_of description.root → host.console ≡ console_of description.root → map unheld guests ≡ guests_of description → AreOf description host guests
are_of description host guests items modules ram areas console same = record {
  host_is = host_same description host items modules ram areas console;
  guests_are = same;
  ram = AreFrameRanges-merged host.ram 0 ram.merged;
}

module _ (description : Description) (host : Host) (guests : List Guest) (are : AreOf description host guests) where
  whole_read : AreRead (host_of description) description.loads (guests_of description)
  whole_read = description_read description (subst (λ (h : Host). AreFrameRanges h.ram) are.host_is are.ram)

  pub are_read : AreRead host description.loads guests
  are_read =
      read_held host description.loads guests
      (subst (λ (h : Host). AreRead h description.loads (map unheld guests)) (sym are.host_is) (subst (λ (gs : List Guest). AreRead (host_of description) description.loads gs) (sym are.guests_are) whole_read))

  outcome_same : outcome host description.loads guests ≡ outcome (host_of description) description.loads (guests_of description)
  outcome_same = sym (outcome_unheld host description.loads guests) ∙ ap₂ (λ (h : Host) (gs : List Guest). outcome h description.loads gs) are.host_is are.guests_are

  pub passed_same : (all : Draws) → outcome host description.loads guests ≡ Ok all → placed_of all.runs host description.loads guests ≡ items_in description
  unfolding items_in
  passed_same all is =
      sym (placed_unheld host description.loads all.runs guests)
      ∙ ap₂ (λ (h : Host) (gs : List Guest). placed_of all.runs h description.loads gs) are.host_is are.guests_are
      ∙ ap (λ (o : Result Draws Refusal). placed_of (runs_in o) (host_of description) description.loads (guests_of description)) (sym (sym outcome_same ∙ is))

-- ---- one plan

plan_is : (host : Host) (passed : List Passed) (number : ℕ) (guest : Guest) (frames : List FrameRange) (plan : GuestPlan) → IsGuestPlan host passed number guest frames plan → AreApart (guest_ranges passed number frames)
    → AreLowRanges (guest_ranges passed number frames) → plan ≡ guest_plan host passed number guest frames
plan_is host passed number guest frames plan is apart low =
    let joined = map_result (guest_ranges passed number frames) apart low in
    let ranges : plan.ranges ≡ joined_ranges (in_order (guest_ranges passed number frames)) =
    one_list plan.ranges (joined_ranges (in_order (guest_ranges passed number frames))) 0 0 is.sorted is.merged joined.sorted joined.merged (λ page. is.mapped page ∙ sym (joined.mapped page)) in
    ap (λ (field : ℕ). record { number = field; path = plan.path; cpus = plan.cpus; console = plan.console; gic = plan.gic; layout = plan.layout; bootargs = plan.bootargs; memories = plan.memories; ranges = plan.ranges; spis = plan.spis; shared = plan.shared; ports = plan.ports }) is.guest_number
    ∙ ap (λ (field : List ℕ). record { number = guest.domain.number; path = field; cpus = plan.cpus; console = plan.console; gic = plan.gic; layout = plan.layout; bootargs = plan.bootargs; memories = plan.memories; ranges = plan.ranges; spis = plan.spis; shared = plan.shared; ports = plan.ports }) is.path
    ∙ ap (λ (field : ℕ). record { number = guest.domain.number; path = guest.domain.path; cpus = field; console = plan.console; gic = plan.gic; layout = plan.layout; bootargs = plan.bootargs; memories = plan.memories; ranges = plan.ranges; spis = plan.spis; shared = plan.shared; ports = plan.ports }) is.cpus
    ∙ ap (λ (field : Bool). record { number = guest.domain.number; path = guest.domain.path; cpus = guest.domain.cpus; console = field; gic = plan.gic; layout = plan.layout; bootargs = plan.bootargs; memories = plan.memories; ranges = plan.ranges; spis = plan.spis; shared = plan.shared; ports = plan.ports }) is.console
    ∙ ap (λ (field : ℕ). record { number = guest.domain.number; path = guest.domain.path; cpus = guest.domain.cpus; console = guest.domain.console; gic = field; layout = plan.layout; bootargs = plan.bootargs; memories = plan.memories; ranges = plan.ranges; spis = plan.spis; shared = plan.shared; ports = plan.ports }) is.gic
    ∙ ap (λ (field : Layout). record { number = guest.domain.number; path = guest.domain.path; cpus = guest.domain.cpus; console = guest.domain.console; gic = gic_of guest.partial; layout = field; bootargs = plan.bootargs; memories = plan.memories; ranges = plan.ranges; spis = plan.spis; shared = plan.shared; ports = plan.ports }) is.layout
    ∙ ap (λ (field : Option (List ℕ)). record { number = guest.domain.number; path = guest.domain.path; cpus = guest.domain.cpus; console = guest.domain.console; gic = gic_of guest.partial; layout = layout_at host passed (Some number); bootargs = field; memories = plan.memories; ranges = plan.ranges; spis = plan.spis; shared = plan.shared; ports = plan.ports }) is.bootargs
    ∙ ap (λ (field : List (ℕ × ℕ)). record { number = guest.domain.number; path = guest.domain.path; cpus = guest.domain.cpus; console = guest.domain.console; gic = gic_of guest.partial; layout = layout_at host passed (Some number); bootargs = guest.domain.bootargs; memories = field; ranges = plan.ranges; spis = plan.spis; shared = plan.shared; ports = plan.ports }) is.memories
    ∙ ap (λ (field : List MapRange). record { number = guest.domain.number; path = guest.domain.path; cpus = guest.domain.cpus; console = guest.domain.console; gic = gic_of guest.partial; layout = layout_at host passed (Some number); bootargs = guest.domain.bootargs; memories = memories_of passed number guest; ranges = field; spis = plan.spis; shared = plan.shared; ports = plan.ports }) ranges
    ∙ ap (λ (field : List ℕ). record { number = guest.domain.number; path = guest.domain.path; cpus = guest.domain.cpus; console = guest.domain.console; gic = gic_of guest.partial; layout = layout_at host passed (Some number); bootargs = guest.domain.bootargs; memories = memories_of passed number guest; ranges = joined_ranges (in_order (guest_ranges passed number frames)); spis = field; shared = plan.shared; ports = plan.ports }) is.spis
    ∙ ap (λ (field : List (List ℕ × ℕ × ℕ)). record { number = guest.domain.number; path = guest.domain.path; cpus = guest.domain.cpus; console = guest.domain.console; gic = gic_of guest.partial; layout = layout_at host passed (Some number); bootargs = guest.domain.bootargs; memories = memories_of passed number guest; ranges = joined_ranges (in_order (guest_ranges passed number frames)); spis = spis_of passed number; shared = field; ports = plan.ports }) is.shared
    ∙ ap (λ (field : List (ℕ × ℕ × ℕ)). record { number = guest.domain.number; path = guest.domain.path; cpus = guest.domain.cpus; console = guest.domain.console; gic = gic_of guest.partial; layout = layout_at host passed (Some number); bootargs = guest.domain.bootargs; memories = memories_of passed number guest; ranges = joined_ranges (in_order (guest_ranges passed number frames)); spis = spis_of passed number; shared = said_by passed number region_of; ports = field }) is.ports

-- ---- all plans

plans_are : (host : Host) (passed : List Passed) (number : ℕ) (guests : List Guest) (drawn : List (List FrameRange)) (plans : List GuestPlan) → AreGuestPlans host passed number guests drawn plans
    → ((k : ℕ) (guest : Guest) (frames : List FrameRange) → slice_get guests k ≡ Some guest → slice_get drawn k ≡ Some frames → AreApart (guest_ranges passed (number + k) frames) × AreLowRanges (guest_ranges passed (number + k) frames))
    → plans ≡ guest_plans host passed number guests drawn
plans_are host passed number [] [] [] are facts = refl
plans_are host passed number [] [] (plan ∷ plans) are facts = elim are [ ]
plans_are host passed number [] (frames ∷ drawn) [] are facts = elim are [ ]
plans_are host passed number [] (frames ∷ drawn) (plan ∷ plans) are facts = elim are [ ]
plans_are host passed number (guest ∷ guests) [] [] are facts = elim are [ ]
plans_are host passed number (guest ∷ guests) [] (plan ∷ plans) are facts = elim are [ ]
plans_are host passed number (guest ∷ guests) (frames ∷ drawn) [] are facts = elim are [ ]
plans_are host passed number (guest ∷ guests) (frames ∷ drawn) (plan ∷ plans) are facts =
    let here : number + 0 ≡ number = omega arith in
    let first = facts 0 guest frames refl refl in
    let apart : AreApart (guest_ranges passed number frames) = subst (λ (n : ℕ). AreApart (guest_ranges passed n frames)) here first.0 in
    let low : AreLowRanges (guest_ranges passed number frames) = subst (λ (n : ℕ). AreLowRanges (guest_ranges passed n frames)) here first.1 in
    ap₂ (λ (p : GuestPlan) (ps : List GuestPlan). p ∷ ps) (plan_is host passed number guest frames plan are.0 apart low)
    (plans_are host passed (number + 1) guests drawn plans are.1 (λ k g d at at_drawn.
    let shift : number + suc k ≡ number + 1 + k = omega arith in
    subst (λ (n : ℕ). AreApart (guest_ranges passed n d) × AreLowRanges (guest_ranges passed n d)) shift (facts (suc k) g d at at_drawn)))

module _ (host : Host) (loads : List Loaded) (guests : List Guest) (all : Draws) (read : AreRead host loads guests) (is : outcome host loads guests ≡ Ok all) where
  ranges_fit : (number : ℕ) (guest : Guest) (frames : List FrameRange) → slice_get guests number ≡ Some guest → slice_get all.heaps.drawn number ≡ Some frames
      → AreApart (guest_ranges (placed_of all.runs host loads guests) number frames) × AreLowRanges (guest_ranges (placed_of all.runs host loads guests) number frames)
  ranges_fit number guest frames at at_drawn =
      let made = ready_placed host loads guests all read (outcome_tells host loads guests all is) number guest frames at at_drawn in
      let own = all_passed [] (of_guest number (is_read guest.partial) (placed_items all.runs (items_of guest))) in
      let same = sym (same_ranges number (placed_of all.runs host loads guests) own frames (own_placed all.runs host loads guests number guest at)) in
      (subst AreApart same made.apart, subst AreLowRanges same made.low_ranges)

  pub plans_determined : (plans : List GuestPlan) → AreGuestPlans host (placed_of all.runs host loads guests) 0 guests all.heaps.drawn plans → plans ≡ guest_plans host (placed_of all.runs host loads guests) 0 guests all.heaps.drawn
  plans_determined plans are =
      plans_are host (placed_of all.runs host loads guests) 0 guests all.heaps.drawn plans are (λ k guest frames at at_drawn.
      let none : k ≡ 0 + k = omega arith in
      subst (λ (n : ℕ). AreApart (guest_ranges (placed_of all.runs host loads guests) n frames) × AreLowRanges (guest_ranges (placed_of all.runs host loads guests) n frames)) none (ranges_fit k guest frames at at_drawn))

-- ---- the plan of a description

module _ (description : Description) (host : Host) (guests : List Guest) (are : AreOf description host guests) where
  plan_by : (result : Result Draws (Item × Why)) → outcome host description.loads guests ≡ result → plan_of description ≡ plan_from description result
  unfolding plan_of
  plan_by result is = ap (plan_from description) (sym (outcome_same description host guests are) ∙ is)

  pub tree_refused : (item : Item) (why : Why) → outcome host description.loads guests ≡ Err (item, why) → plan_of description ≡ Err (item, why)
  tree_refused item why is = plan_by (Err (item, why)) is

  pub tree_planned : (all : Draws) (plans : List GuestPlan) (free : List ℕ) → outcome host description.loads guests ≡ Ok all → AreGuestPlans host (placed_of all.runs host description.loads guests) 0 guests all.heaps.drawn plans → free ≡ all.heaps.left
      → plan_of description ≡ Ok (record { guests = plans; free = free })
  unfolding items_in
  tree_planned all plans free is of_guests left =
      let whole : outcome (host_of description) description.loads (guests_of description) ≡ Ok all = sym (outcome_same description host guests are) ∙ is in
      let same : placed_of all.runs (host_of description) description.loads (guests_of description) ≡ items_in description =
      ap (λ (o : Result Draws Refusal). placed_of (runs_in o) (host_of description) description.loads (guests_of description)) (sym whole) in
      let unheld_plans : AreGuestPlans (unheld_host host) (placed_of all.runs host description.loads guests) 0 (map unheld guests) all.heaps.drawn plans = plans_unheld host (placed_of all.runs host description.loads guests) 0 guests all.heaps.drawn plans of_guests in
      let described : AreGuestPlans (host_of description) (items_in description) 0 (guests_of description) all.heaps.drawn plans =
      subst (λ (h : Host). AreGuestPlans h (items_in description) 0 (guests_of description) all.heaps.drawn plans) are.host_is
      (subst (λ (gs : List Guest). AreGuestPlans (unheld_host host) (items_in description) 0 gs all.heaps.drawn plans) are.guests_are
      (subst (λ (passed : List Passed). AreGuestPlans (unheld_host host) passed 0 (map unheld guests) all.heaps.drawn plans) (passed_same description host guests are all is) unheld_plans)) in
      let plans_are : plans ≡ guest_plans (host_of description) (items_in description) 0 (guests_of description) all.heaps.drawn =
      subst (λ (passed : List Passed). plans ≡ guest_plans (host_of description) passed 0 (guests_of description) all.heaps.drawn) same
      (plans_determined (host_of description) description.loads (guests_of description) all (whole_read description host guests are) whole plans (subst (λ (passed : List Passed). AreGuestPlans (host_of description) passed 0 (guests_of description) all.heaps.drawn plans) (sym same) described)) in
      plan_by (Ok all) is
      ∙ sym (ap₂ (λ (ps : List GuestPlan) (frames : List ℕ). Ok (record { guests = ps; free = frames })) plans_are left)

-- the ranges of plans are sorted, and merged
pub plans_sorted : (host : Host) (passed : List Passed) (number : ℕ) (guests : List Guest) (drawn : List (List FrameRange)) (plans : List GuestPlan) → AreGuestPlans host passed number guests drawn plans
    → All (λ (plan : GuestPlan). AreMapRanges plan.ranges) plans × All (λ (plan : GuestPlan). AreMerged plan.ranges) plans
plans_sorted host passed number [] [] [] are = (All-nil (λ (plan : GuestPlan). AreMapRanges plan.ranges), All-nil (λ (plan : GuestPlan). AreMerged plan.ranges))
plans_sorted host passed number [] [] (plan ∷ plans) are = elim are [ ]
plans_sorted host passed number [] (frames ∷ drawn) [] are = elim are [ ]
plans_sorted host passed number [] (frames ∷ drawn) (plan ∷ plans) are = elim are [ ]
plans_sorted host passed number (guest ∷ guests) [] [] are = elim are [ ]
plans_sorted host passed number (guest ∷ guests) [] (plan ∷ plans) are = elim are [ ]
plans_sorted host passed number (guest ∷ guests) (frames ∷ drawn) [] are = elim are [ ]
plans_sorted host passed number (guest ∷ guests) (frames ∷ drawn) (plan ∷ plans) are =
    let later = plans_sorted host passed (number + 1) guests drawn plans are.1 in (
      All-cons (λ (one : GuestPlan). AreMapRanges one.ranges) plan plans are.0.sorted later.0,
      All-cons (λ (one : GuestPlan). AreMerged one.ranges) plan plans are.0.merged later.1,
    )
