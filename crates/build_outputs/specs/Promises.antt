-- What a build promises of what it writes.
use Rattle.std.specs.Prelude.{◌≡◌, ℕ, List, [], Option, Some, Ok, flat_map, slice_get}
use Rattle.outside.specs.Outside.{File}
use Rattle.texts.specs.Consecutive.{is_in}
use Rattle.domain_plan.specs.Memories.{is_ram}
use Rattle.domain_plan.specs.declared.planned.GuestPlan.{GuestPlan}
use Rattle.fdt_read.specs.Spells.{Spells}
use Rattle.fdt_tree.specs.Tree.{Tree}
use Rattle.guest_fdt.specs.Described.{described}
use Rattle.guest_fdt.specs.Laws.{pages_of}
use Rattle.guest_fdt.specs.Listed.{listed}
use Rattle.guest_images.specs.Walks.{AllWalk, MeetOnlyIn, AreApart}
use Rattle.domain_plan.specs.Descriptions.{Description, partial_at}
use Rattle.domain_plan.specs.TreePlans.{TreePlan, is_common}
use Rattle.build_outputs.specs.Builds.{built_of}
use Rattle.build_outputs.specs.Outputs.{tree_output, images_of, outputs_of, report_of, in_folder}
use Rattle.build_outputs.specs.Totals.{totals_of}
use Rattle.build_outputs.specs.declared.totals.Totals.{Totals}

-- The bytes spell one tree. It lists exactly what is described of a guest, and the pages of the memory in it are those that the guest's map gives it as its own.
pub record ListsAsDescribed (guest : GuestPlan) (partial : Option Tree) (bytes : List ℕ) : Type 0 where
  pub root : Tree
  pub spelled : Spells bytes [] 0 root
  pub lists : listed root ≡ described guest partial
  pub pages : (page : ℕ) → is_in (flat_map pages_of (listed root).memories) page ≡ is_ram guest.ranges page

-- the tree that is written for each guest does so
abbrev pub AllListed : Description → TreePlan → Type 0
AllListed description plan =
    (number : ℕ) (guest : GuestPlan) → slice_get plan.guests number ≡ Some guest
    → ListsAsDescribed guest (partial_at description.partials number) (tree_output guest (partial_at description.partials number)).1

-- no described item is refused, and these files, in a folder where one is given, this report and these totals are those of the plan
pub record IsBuildOf (boot : ℕ) (description : Description) (folder : Option (List ℕ)) (outputs : List File) (report : List ℕ) (totals : Totals) : Type 0 where
  pub plan : TreePlan
  pub planned : built_of boot description ≡ Ok plan
  pub written : outputs ≡ in_folder folder (outputs_of boot description plan)
  pub reported : report ≡ report_of plan
  pub counted : totals ≡ totals_of plan
  -- walking the image that is written for a guest translates an address exactly where the guest's description maps it, to the described frame, with the described rights and memory type
  pub walks : AllWalk plan.guests (images_of plan)
  -- frames of two guests meet only in a region that both name by one id
  pub meet : MeetOnlyIn (is_common description) (images_of plan)
  -- where they meet both have shared memory, and no table lies where a guest can reach it
  pub apart : AreApart (images_of plan)
  -- the tree that is written for a guest lists exactly the guest's memories, devices, interrupts, shared regions and ports
  pub lists : AllListed description plan
