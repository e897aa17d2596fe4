-- A guest's tree lists what the guest's description says.
use Rattle.std.specs.Prelude.{◌≡◌, ℕ, ◌/◌, ◌^◌, ◌<◌, ◌==◌, Bool, true, not, IsTrue, List, All, flat_map, Option, Some, None}
use Rattle.std.specs.List.{list_all}
use Rattle.texts.specs.Consecutive.{numbers, is_in}
use Rattle.texts.specs.declared.ranges.BaseSize.{BaseSize}
use Rattle.domain_plan.specs.declared.planned.GuestPlan.{GuestPlan}
use Rattle.domain_plan.specs.Memories.{is_listed, is_ram}
use Rattle.fdt_tree.specs.Tree.{Bytes, Tree}
use Rattle.guest_fdt.specs.Bounds.{IsBounded}
use Rattle.guest_fdt.specs.Copies.{found_in, copied_paths}
use Rattle.guest_fdt.specs.Described.{described, partial_devices}
use Rattle.guest_fdt.specs.GuestTree.{guest_tree}
use Rattle.guest_fdt.specs.Listed.{is_memory_node, interrupts_in, listed}

-- what is found is no memory node
abbrev pub is_no_memory : Option Tree → Bool
is_no_memory None = true
is_no_memory (Some node) = not (is_memory_node node)

-- an id has no NUL
abbrev pub is_text : Bytes → Bool
is_text id = list_all (λ byte. not (byte == 0)) id

-- What is known of a guest's plan and its partial tree where no item is refused.
pub record IsDescription (plan : GuestPlan) (partial : Option Tree) : Type 0 where
  pub bounded : IsBounded plan
  -- ports are numbers of 32 bits, and ids are texts
  pub ports : All (λ (port, peer, peer_port). (port < 2 ^ 32) × (peer_port < 2 ^ 32)) plan.ports
  pub ids : All (λ (id, page, count). IsTrue (is_text id)) plan.shared
  -- the guest's interrupts are those of its devices
  pub interrupts : plan.spis ≡ interrupts_in (partial_devices partial)
  -- nothing that is copied is a memory node
  pub no_memory : IsTrue (list_all (λ path. is_no_memory (found_in partial path)) copied_paths)
  -- the guest's memory is what is mapped as such
  pub mapped : (page : ℕ) → is_listed plan.memories page ≡ is_ram plan.ranges page

-- the pages of a range of bytes
abbrev pub pages_of : BaseSize → List ℕ
pages_of range = numbers (range.base / 4096) (range.size / 4096)

-- A reader of the guest's tree finds exactly what the description says, and the pages of the memory that it finds are those that are mapped as such.
pub record ListsTheGuest (plan : GuestPlan) (partial : Option Tree) : Type 0 where
  pub lists : listed (guest_tree plan partial) ≡ described plan partial
  pub pages : (page : ℕ) → is_in (flat_map pages_of (listed (guest_tree plan partial)).memories) page ≡ is_ram plan.ranges page

-- so it is for every guest
abbrev pub TreeListsTheGuest : Type 0
TreeListsTheGuest = (plan : GuestPlan) (partial : Option Tree) → IsDescription plan partial → ListsTheGuest plan partial
