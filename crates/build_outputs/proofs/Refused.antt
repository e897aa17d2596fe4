-- Which item a build refuses.
use Rattle.std.proofs.Common.{◌≡◌, ◌≤◌, ◌<◌, ◌∙◌, refl, sym, ap, subst, arith, inl, inr, ℕ, Bool, true, false, List, length, Some, None}
use Rattle.std.specs.Prelude.{Option, Result, Ok, Err, nat_lt, if◌then◌else◌}
use Rattle.std.specs.Option.{option_or}
use Rattle.described.specs.declared.item.Item.{Item}
use Rattle.described.specs.declared.why.Why.{Why}
use Rattle.item_checks.specs.Refusals.{Refusal, or_later}
use Rattle.item_checks.specs.declared.faults.PlanFault.{PlanFault}
use Rattle.item_checks.specs.declared.faults.PlanFault.TheVariants as plan_faults
use Rattle.fdt_write.specs.Flattened.{length_limit}
use Rattle.guest_images.specs.Faults as images
use Rattle.guest_images.specs.Requests.{refused_tables}
use Rattle.guest_images.specs.declared.fault.ImagesFault.{ImagesFault}
use Rattle.guest_images.specs.declared.fault.ImagesFault.TheVariants as images_faults
use Rattle.run_steps.specs.Steps.{OnResult, nothing}
use Rattle.run_steps.specs.Stops.{IsOwnDue}
use Rattle.run_steps.specs.declared.stop.Stop.{Stop}
use Rattle.run_steps.specs.declared.stop.Stop.TheVariants as stops
use Rattle.domain_plan.specs.Descriptions.{Description}
use Rattle.domain_plan.specs.TreePlans.{TreePlan, plan_of, IsFaultOf}
use Rattle.build_outputs.specs.Builds.{last_refused, unless_refused, with_last, built_of, IsItemRefusal, AfterItems}
use Rattle.build_outputs.specs.Lengths.{tree_item, too_long, tree_too_long, refused_trees}
use Rattle.build_outputs.specs.Names.{host_name}
use Rattle.build_outputs.specs.Outputs.{host_output, tree_outputs, written_trees}
use Rattle.build_outputs.specs.PrivateTooLong.{IsLengthStop, IsFirstLengthStop}
use Rattle.outside.specs.Outside.{File}

-- a test of lengths
too_long_where : (bytes : List ℕ) (test : Bool) → nat_lt length_limit (length bytes) ≡ test → tree_too_long bytes ≡ (if test then Some (too_long (length bytes)) else None)
too_long_where bytes test is = ap (λ (t : Bool). if t then Some (too_long (length bytes)) else None) is

-- more bytes than are written
pub is_too_long : (bytes : List ℕ) → length_limit < length bytes → tree_too_long bytes ≡ Some (too_long (length bytes))
is_too_long bytes more = too_long_where bytes true (grind (arith))

-- and no more than are written
pub is_not_too_long : (bytes : List ℕ) → length bytes ≤ length_limit → tree_too_long bytes ≡ None
is_not_too_long bytes fits = too_long_where bytes false (grind (arith))

module _ (boot : ℕ) (description : Description) where
  -- what is built where the plan is known
  pub built_by : (planned : Result TreePlan Refusal) → plan_of description ≡ planned → built_of boot description ≡ with_last boot description planned
  unfolding built_of
  built_by planned is = ap (with_last boot description) is

  -- and where the last refusal is known too
  pub built_with : (plan : TreePlan) (last : Option Refusal) → plan_of description ≡ Ok plan → last_refused boot description plan ≡ last → built_of boot description ≡ unless_refused plan last
  built_with plan last planned is = built_by (Ok plan) planned ∙ ap (unless_refused plan) is

  -- the stop at the item that is refused
  pub refused_due : (refusal : Refusal) (stop : Stop) → built_of boot description ≡ Err refusal → IsOwnDue (IsItemRefusal refusal) stop → IsOwnDue (AfterItems boot description nothing) stop
  refused_due refusal stop is due =
      subst (λ (built : Result TreePlan Refusal). IsOwnDue (OnResult IsItemRefusal nothing built) stop) (sym is) due

  -- the stop where memory ran out
  pub memory_due : (stop : Stop) → stop ≡ stops.Memory → IsOwnDue (AfterItems boot description nothing) stop
  memory_due stop is = subst (IsOwnDue (AfterItems boot description nothing)) (sym is) tt

  -- the stop where there is no plan
  pub plan_due : (fault : PlanFault) (stop : Stop) → IsFaultOf (plan_of description) fault
      → ((item : Item) (why : Why) → fault ≡ plan_faults.Refused item why → IsOwnDue (IsItemRefusal (item, why)) stop) → (fault ≡ plan_faults.Memory → stop ≡ stops.Memory)
      → IsOwnDue (AfterItems boot description nothing) stop
  plan_due plan_faults.Memory stop is said memory = memory_due stop (memory refl)
  plan_due (plan_faults.Refused item why) stop is said memory = refused_due (item, why) stop (built_by (Err (item, why)) is) (said item why refl)

  module _ (plan : TreePlan) (planned : plan_of description ≡ Ok plan) where
    -- the stop where the tables of a guest cannot be had
    pub images_due : (fault : ImagesFault) (stop : Stop) → images.IsFaultOf (refused_tables plan.guests plan.free) fault
        → ((item : Item) (why : Why) → fault ≡ images_faults.Refused item why → IsOwnDue (IsItemRefusal (item, why)) stop) → (fault ≡ images_faults.Memory → stop ≡ stops.Memory)
        → IsOwnDue (AfterItems boot description nothing) stop
    images_due images_faults.Memory stop is said memory = memory_due stop (memory refl)
    images_due (images_faults.Refused item why) stop is said memory =
        refused_due (item, why) stop (built_with plan (Some (item, why)) planned (ap (λ (first : Option Refusal). option_or first (refused_trees (written_trees boot description plan))) is)) (said item why refl)

    -- the bytes of the host's tree, and the trees of the guests
    abbrev host : List ℕ
    host = (host_output boot description).1

    abbrev trees : List File
    trees = tree_outputs description.partials 0 plan.guests

    module _ (met : refused_tables plan.guests plan.free ≡ None) where
      -- the trees can still be refused
      last_is : last_refused boot description plan ≡ refused_trees (written_trees boot description plan)
      last_is = ap (λ (first : Option Refusal). option_or first (refused_trees (written_trees boot description plan))) met

      -- the stop where the host's tree is too long
      pub length_due : (stop : Stop) → IsLengthStop (host_output boot description) stop → IsOwnDue (AfterItems boot description nothing) stop
      length_due stop (inl memory) = memory_due stop memory
      length_due stop (inr long) =
          refused_due (tree_item host_name, too_long (length host)) stop
          (built_with plan (Some (tree_item host_name, too_long (length host))) planned
          (last_is ∙ ap (λ (why : Option Why). or_later (tree_item host_name) why (refused_trees trees)) (is_too_long host long.0))) long.1

      module _ (fits : length host ≤ length_limit) where
        -- only the guests' trees can
        rest_is : last_refused boot description plan ≡ refused_trees trees
        rest_is = last_is ∙ ap (λ (why : Option Why). or_later (tree_item host_name) why (refused_trees trees)) (is_not_too_long host fits)

        -- the stop where the tree of a guest is too long
        pub trees_due : (stop : Stop) → IsFirstLengthStop trees stop → IsOwnDue (AfterItems boot description nothing) stop
        trees_due stop (inl memory) = memory_due stop memory
        trees_due stop (inr first) = refused_due first.0 stop (built_with plan (Some first.0) planned (rest_is ∙ first.1)) first.2

        -- and nothing is refused where none is
        pub nothing_refused : refused_trees trees ≡ None → built_of boot description ≡ Ok plan
        nothing_refused fit = built_with plan None planned (rest_is ∙ fit)
