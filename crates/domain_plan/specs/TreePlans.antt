-- The plan of a description: what every guest is given, and the frames that are left for tables; or the first item that is refused.
use Rattle.std.specs.Prelude.{◌≡◌, ℕ, ◌+◌, Bool, List, [], ◌∷◌, Some, Result, Ok, Err}
use Rattle.texts.specs.declared.ranges.FrameRange.{FrameRange}
use Rattle.domain_bindings.specs.declared.host.Host.{Host}
use Rattle.item_checks.specs.declared.guests.Guest.{Guest}
use Rattle.domain_plan.specs.declared.planned.GuestPlan.{GuestPlan}
use Rattle.item_checks.specs.declared.faults.PlanFault.{PlanFault}
use Rattle.item_checks.specs.declared.faults.PlanFault.TheVariants as faults
use Rattle.domain_plan.specs.declared.runs.Run.{Run}
use Rattle.domain_plan.specs.Apart.{is_in_one_region}
use Rattle.domain_plan.specs.GuestMaps.{guest_ranges}
use Rattle.domain_plan.specs.MapOrder.{in_order, joined_ranges}
use Rattle.domain_plan.specs.Plans.{Draws, placed_of, outcome, memories_of, spis_of, region_of, port_of, gic_of, said_by}
use Rattle.item_checks.specs.Reasons.{layout_at}
use Rattle.item_checks.specs.Refusals.{Refusal}
use Rattle.item_checks.specs.Taken.{Passed}
use Rattle.domain_plan.specs.Descriptions.{Description, host_of, guests_of}

-- what a guest is given, by the host, by all items with what they take, and by the frames that it drew: its ranges by page, those that run on joined
abbrev pub guest_plan : Host → List Passed → ℕ → Guest → List FrameRange → GuestPlan
guest_plan host passed number guest drawn = record {
  number = guest.domain.number;
  path = guest.domain.path;
  cpus = guest.domain.cpus;
  console = guest.domain.console;
  gic = gic_of guest.partial;
  layout = layout_at host passed (Some number);
  bootargs = guest.domain.bootargs;
  memories = memories_of passed number guest;
  ranges = joined_ranges (in_order (guest_ranges passed number drawn));
  spis = spis_of passed number;
  shared = said_by passed number region_of;
  ports = said_by passed number port_of;
}

-- what guests are given, the first of which has this number
abbrev pub guest_plans : Host → List Passed → ℕ → List Guest → List (List FrameRange) → List GuestPlan
guest_plans host passed number (guest ∷ guests) (drawn ∷ more) = guest_plan host passed number guest drawn ∷ guest_plans host passed (number + 1) guests more
guest_plans host passed number _ _ = []

-- what every guest is given, and the free frames that are left
pub record TreePlan : Type 0 where
  pub guests : List GuestPlan
  pub free : List ℕ

-- the runs that regions drew; none where an item is refused
abbrev pub runs_in : Result Draws Refusal → List Run
runs_in (Err refusal) = []
runs_in (Ok draws) = draws.runs

-- all described items, with what they take, each region at its host address
unfoldable pub items_in : Description → List Passed
items_in description =
    placed_of (runs_in (outcome (host_of description) description.loads (guests_of description))) (host_of description) description.loads (guests_of description)

-- the plan, where what was drawn is known
abbrev pub plan_from : Description → Result Draws Refusal → Result TreePlan Refusal
plan_from description (Err refusal) = Err refusal
plan_from description (Ok draws) = Ok (record { guests = guest_plans (host_of description) (items_in description) 0 (guests_of description) draws.heaps.drawn; free = draws.heaps.left })

-- the plan of a description, or its first item that is refused, with the first reason against it
unfoldable pub plan_of : Description → Result TreePlan Refusal
plan_of description = plan_from description (outcome (host_of description) description.loads (guests_of description))

-- the host frame lies in a shared region that both guests, by their numbers, name by one id
unfoldable pub is_common : Description → ℕ → ℕ → ℕ → Bool
is_common description one other frame = is_in_one_region (items_in description) one other frame

-- memory ran out, or this is the refused item with its first reason
abbrev pub IsFaultOf : Result TreePlan Refusal → PlanFault → Type 0
IsFaultOf planned faults.Memory = Unit {0}
IsFaultOf planned (faults.Refused item why) = planned ≡ Err (item, why)
