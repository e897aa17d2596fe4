-- What a build of a description makes, or the first item that is refused.
use Rattle.std.specs.Prelude.{ℕ, Option, Some, None, Result, Ok, Err}
use Rattle.std.specs.Option.{option_or}
use Rattle.outside.specs.declared.status.Status.TheVariants as statuses
use Rattle.item_checks.specs.Refusals.{Refusal}
use Rattle.guest_images.specs.Requests.{refused_tables}
use Rattle.run_steps.specs.Endings.{Outcome}
use Rattle.described.specs.Items.{refusal_text}
use Rattle.run_steps.specs.Steps.{IsRefusal, OnResult}
use Rattle.domain_plan.specs.Descriptions.{Description}
use Rattle.domain_plan.specs.TreePlans.{TreePlan, plan_of}
use Rattle.build_outputs.specs.Lengths.{refused_trees}
use Rattle.build_outputs.specs.Outputs.{written_trees}

-- the last items that may be refused: the guests' requests for tables, and then the lengths of the trees that are written
abbrev pub last_refused : ℕ → Description → TreePlan → Option Refusal
last_refused boot description plan =
    option_or (refused_tables plan.guests plan.free) (refused_trees (written_trees boot description plan))

-- the plan, where no item is refused after it
abbrev pub unless_refused : TreePlan → Option Refusal → Result TreePlan Refusal
unless_refused plan None = Ok plan
unless_refused plan (Some refusal) = Err refusal

-- what was planned, if the last items are not refused
abbrev pub with_last : ℕ → Description → Result TreePlan Refusal → Result TreePlan Refusal
with_last boot description (Ok plan) = unless_refused plan (last_refused boot description plan)
with_last boot description (Err refusal) = Err refusal

-- the plan that is built of a description, or the first of all its items that is refused, with the first reason against it
unfoldable pub built_of : ℕ → Description → Result TreePlan Refusal
built_of boot description = with_last boot description (plan_of description)

-- an item is refused with its reason
abbrev pub IsItemRefusal : Refusal → Outcome → Type 0
IsItemRefusal refusal outcome = IsRefusal statuses.Refused (refusal_text refusal.0 refusal.1) outcome

-- the first refused item is said; or nothing is refused, and the plan is handed on
abbrev pub AfterItems : ℕ → Description → (TreePlan → Outcome → Type 0) → Outcome → Type 0
AfterItems boot description next outcome = OnResult IsItemRefusal next (built_of boot description) outcome
