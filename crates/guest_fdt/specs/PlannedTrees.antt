-- The trees of the guests of a plan: where no item of a description is refused, there are few, each can be written, and lists what is described.
use Rattle.std.specs.Prelude.{◌≡◌, ◌≤◌, ℕ, All, Some, Ok, length, slice_get}
use Rattle.domain_plan.specs.declared.planned.GuestPlan.{GuestPlan}
use Rattle.domain_plan.specs.Descriptions.{Description, partial_at}
use Rattle.domain_plan.specs.TreePlans.{TreePlan, plan_of}
use Rattle.guest_fdt.specs.Bounds.{IsBounded}
use Rattle.guest_fdt.specs.Laws.{ListsTheGuest}

-- where no item of a description is refused, the plan of each guest keeps to what its tree can hold
abbrev pub PlansAreBounded : Type 0
PlansAreBounded = (description : Description) (plan : TreePlan) → plan_of description ≡ Ok plan → All IsBounded plan.guests

-- where no item of a description is refused, it has at most 16 guests
abbrev pub PlansAreFew : Type 0
PlansAreFew = (description : Description) (plan : TreePlan) → plan_of description ≡ Ok plan → length plan.guests ≤ 16

-- the tree of each guest, made with its partial tree where that was read, lists exactly what is described of the guest
abbrev pub AllGuestsAreListed : Description → TreePlan → Type 0
AllGuestsAreListed description plan =
    (number : ℕ) (guest : GuestPlan) → slice_get plan.guests number ≡ Some guest → ListsTheGuest guest (partial_at description.partials number)

-- so it is where no item of a description is refused
abbrev pub TreesListTheGuests : Type 0
TreesListTheGuests = (description : Description) (plan : TreePlan) → plan_of description ≡ Ok plan → AllGuestsAreListed description plan
