-- What the answer of a plan says of a description.
use Rattle.std.proofs.Common.{◌≡◌, List, All, Result, Ok, Err, IfOk, IfErr, refl}
use Rattle.described.specs.Maps.{AreMapRanges, AreMerged}
use Rattle.described.specs.declared.item.Item.{Item}
use Rattle.described.specs.declared.why.Why.{Why}
use Rattle.domain_bindings.specs.declared.host.Host.{Host}
use Rattle.item_checks.specs.declared.guests.Guest.{Guest}
use Rattle.domain_plan.specs.declared.planned.GuestPlan.{GuestPlan}
use Rattle.domain_plan.specs.declared.planned.Plan.{Plan}
use Rattle.item_checks.specs.declared.faults.PlanFault.{PlanFault}
use Rattle.item_checks.specs.declared.faults.PlanFault.TheVariants as faults
use Rattle.domain_plan.specs.Plans.{Draws, placed_of, outcome, AreGuestPlans}
use Rattle.domain_plan.specs.Apart.{ArePlannedApart}
use Rattle.domain_plan.specs.Descriptions.{Description}
use Rattle.domain_plan.specs.TreePlans.{IsFaultOf, is_common, plan_of}
use Rattle.domain_plan.proofs.Apart.{tree_apart}
use Rattle.domain_plan.proofs.Determined.{AreOf, plans_sorted, tree_planned, tree_refused}

module _ (description : Description) (host : Host) (guests : List Guest) (are : AreOf description host guests) where
  -- the plan says what guests drew, and what they are given
  abbrev pub IsPlan : Plan → Type 0
  IsPlan plan =
      (draws : Draws) × (outcome host description.loads guests ≡ Ok draws) × (plan.pool.free ≡ draws.heaps.left) × AreGuestPlans host (placed_of draws.runs host description.loads guests) 0 guests draws.heaps.drawn plan.guests

  pub planned : (answer : Result Plan PlanFault) → IfOk answer IsPlan → IfOk answer (λ (plan : Plan). plan_of description ≡ Ok (record { guests = plan.guests; free = plan.pool.free }))
  planned (Ok plan) given = tree_planned description host guests are given.0 plan.guests plan.pool.free given.1 given.3 given.2
  planned (Err fault) given = tt

  pub sorted : (answer : Result Plan PlanFault) → IfOk answer IsPlan → IfOk answer (λ (plan : Plan). All (λ (guest : GuestPlan). AreMapRanges guest.ranges) plan.guests)
  sorted (Ok plan) given = (plans_sorted host (placed_of given.0.runs host description.loads guests) 0 guests given.0.heaps.drawn plan.guests given.3).0
  sorted (Err fault) given = tt

  pub merged : (answer : Result Plan PlanFault) → IfOk answer IsPlan → IfOk answer (λ (plan : Plan). All (λ (guest : GuestPlan). AreMerged guest.ranges) plan.guests)
  merged (Ok plan) given = (plans_sorted host (placed_of given.0.runs host description.loads guests) 0 guests given.0.heaps.drawn plan.guests given.3).1
  merged (Err fault) given = tt

  pub apart : (answer : Result Plan PlanFault) → IfOk answer IsPlan → IfOk answer (λ (plan : Plan). ArePlannedApart (is_common description) plan.guests plan.pool.free)
  apart (Ok plan) given = tree_apart description host guests are given.0 plan.guests plan.pool.free given.1 given.3 given.2
  apart (Err fault) given = tt

  -- or the refused item
  abbrev pub IsRefusal : PlanFault → Type 0
  IsRefusal fault = (item : Item) → (why : Why) → fault ≡ faults.Refused item why → outcome host description.loads guests ≡ Err (item, why)

  by_fault : (fault : PlanFault) → IsRefusal fault → IsFaultOf (plan_of description) fault
  by_fault faults.Memory given = tt
  by_fault (faults.Refused item why) given = tree_refused description host guests are item why (given item why refl)

  pub refused : (answer : Result Plan PlanFault) → IfErr answer IsRefusal → IfErr answer (IsFaultOf (plan_of description))
  refused (Ok plan) given = tt
  refused (Err fault) given = by_fault fault given
