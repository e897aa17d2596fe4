-- The first item that has a reason against it, with its first reason.
use Rattle.std.specs.Prelude.{List, [], ◌∷◌, ◌++◌, Option, Some, None}
use Rattle.std.specs.Option.{option_or}
use Rattle.domain_bindings.specs.declared.host.Host.{Host}
use Rattle.described.specs.declared.item.Item.{Item}
use Rattle.described.specs.declared.item.What.{What}
use Rattle.described.specs.declared.item.What.TheVariants as whats
use Rattle.described.specs.declared.why.Why.{Why}
use Rattle.item_checks.specs.Entries.{Entry}
use Rattle.item_checks.specs.Taken.{Passed, what_of, passing}
use Rattle.item_checks.specs.Reasons.{not_ram, host_overlap, guest_overlap, partial_unread, irq_too_high, irq_of_console, irq_of_another, shm_twice, shm_differs, owner_twice}

-- the reasons against an item that describes this, in their order
abbrev pub reasons_by : Host → List Passed → Passed → What → List (Option Why)
reasons_by host before mine what = elim what as (λ _. List (Option Why)) [
  | whats.Load at ↦ not_ram host.ram mine ∷ host_overlap before mine ∷ []
  | whats.Module kind at ↦ not_ram host.ram mine ∷ host_overlap before mine ∷ partial_unread kind mine ∷ []
  | whats.Static at ↦ not_ram host.ram mine ∷ host_overlap before mine ∷ guest_overlap host before mine ∷ []
  | whats.Range from size guest ↦ host_overlap before mine ∷ guest_overlap host before mine ∷ []
  | whats.Irq number ↦ irq_too_high before number mine ∷ irq_of_console before number mine ∷ irq_of_another before number mine ∷ []
  | whats.Shared id from guest size owner ↦
      shm_twice before mine ∷ shm_differs before mine ∷ owner_twice before mine ∷
      not_ram host.ram mine ∷ host_overlap before mine ∷ guest_overlap host before mine ∷ []
  | _ ↦ []
]

-- the reasons against an item that need the host's memory or the items before it
abbrev pub cross_reasons : Host → List Passed → Passed → List (Option Why)
cross_reasons host before mine = reasons_by host before mine (what_of mine)

-- the first that is there
abbrev pub first_there : List (Option Why) → Option Why
first_there [] = None
first_there (reason ∷ reasons) = option_or reason (first_there reasons)

-- the first reason against an item: its own, or else the first of the others
abbrev pub why : Host → List Passed → Entry → Option Why
why host before entry = option_or entry.described.own (first_there (cross_reasons host before (passing before entry)))

-- an item with a reason
abbrev pub Refusal : Type 0
Refusal = Item × Why

-- the reason against this item, or else what is against the rest
abbrev pub or_later : Item → Option Why → Option Refusal → Option Refusal
or_later item None later = later
or_later item (Some why) later = Some (item, why)

-- the first of the items that has a reason, with its first reason
unfoldable pub first_refused : Host → List Passed → List Entry → Option Refusal
first_refused host before [] = None
first_refused host before (entry ∷ entries) =
    or_later entry.described.item (why host before entry) (first_refused host (before ++ passing before entry ∷ []) entries)
