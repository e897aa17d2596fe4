-- Which node of a guest's tree a path finds.
use Rattle.std.proofs.Common.{◌≡◌, ℕ, Bool, true, false, List, [], ◌∷◌, ◌++◌, Option, Some, None, codes, refl, sym, ap, ◌∙◌}
use Rattle.std.specs.Prelude.{bytes_eq, option_map}
use Rattle.std.specs.Option.{option_to_list}
use Rattle.texts.specs.declared.ranges.BaseSize.{BaseSize}
use Rattle.described.specs.declared.layout.Layout.{Layout}
use Rattle.domain_plan.specs.declared.planned.GuestPlan.{GuestPlan}
use Rattle.fdt_tree.specs.Tree.{Bytes, Tree, components}
use Rattle.tree_parts.specs.Nodes.{on, on_any}
use Rattle.guest_fdt.specs.Found.{list_of, node_found}
use Rattle.guest_fdt.specs.Copies.{cleaned, copied, copies, found_in}
use Rattle.guest_fdt.specs.Machine.{chosen, cpus, psci, memory, interrupt_controller, timer, hypervisor, console, reserved_memory, static_ports}
use Rattle.guest_fdt.specs.GuestTree.{first_nodes, memory_nodes, device_nodes, console_nodes, region_nodes, port_nodes, machine_nodes, guest_tree}
use Rattle.guest_fdt.proofs.NodeParts.{to_memory, to_devices, to_console, to_regions}
use Rattle.guest_fdt.proofs.Lists.{first_with, first_with-before, first_with-after, first_with-map, first_with-name, node_found-child, list-of-trees}

-- a name that none of the nodes up to the console has
pub record IsOther (name : Bytes) : Type 0 where
  pub chosen : bytes_eq (codes "chosen") name ≡ false
  pub cpus : bytes_eq (codes "cpus") name ≡ false
  pub psci : bytes_eq (codes "psci") name ≡ false
  pub timer : bytes_eq (codes "timer") name ≡ false
  pub memory : (page : ℕ × ℕ) → bytes_eq (memory page).name name ≡ false
  pub interrupt_controller : (one other : BaseSize) (gic : ℕ) → bytes_eq (interrupt_controller one other gic).name name ≡ false
  pub hypervisor : (area : BaseSize) → bytes_eq (hypervisor area).name name ≡ false
  pub console : (area : BaseSize) → bytes_eq (console area).name name ≡ false

first-other : (name : Bytes) → IsOther name → (area : BaseSize) (bootargs : Option Bytes) (with_console : Bool) (count : ℕ) → first_with name (chosen area bootargs with_console ∷ cpus count ∷ psci ∷ []) ≡ None
unfolding chosen cpus psci
first-other name other area bootargs with_console count = rw (other.chosen, other.cpus, other.psci) refl

device-other : (name : Bytes) → IsOther name → (distributor redistributors grant : BaseSize) (gic : ℕ) → first_with name (interrupt_controller distributor redistributors gic ∷ timer ∷ hypervisor grant ∷ []) ≡ None
unfolding timer
device-other name other distributor redistributors grant gic =
    rw (other.interrupt_controller distributor redistributors gic, other.timer, other.hypervisor grant) refl

console-other : (name : Bytes) → IsOther name → (area : BaseSize) (with_console : Bool) → first_with name (on with_console (console area ∷ [])) ≡ None
console-other name other area true = rw (other.console area) refl
console-other name other area false = refl

-- none of the nodes up to the console has such a name
pub to-console-other : (name : Bytes) (layout : Layout) (plan : GuestPlan) → IsOther name → first_with name (to_console layout plan) ≡ None
to-console-other name layout plan other =
    first_with-before name (to_devices layout plan) (console_nodes layout plan) (first_with-before name (to_memory layout plan) (device_nodes layout plan) (first_with-before name (first_nodes layout plan) (memory_nodes plan) (first-other name other layout.console plan.bootargs plan.console plan.cpus) ∙ first_with-map name memory plan.memories other.memory) ∙ device-other name other layout.distributor layout.redistributors layout.grant plan.gic) ∙ console-other name other layout.console plan.console

pub passthrough-other : IsOther (codes "passthrough")
unfolding memory interrupt_controller hypervisor console
passthrough-other = record { chosen = refl; cpus = refl; psci = refl; timer = refl; memory = λ page. refl; interrupt_controller = λ one other gic. refl; hypervisor = λ area. refl; console = λ area. refl }

pub reserved-other : IsOther (codes "reserved-memory")
unfolding memory interrupt_controller hypervisor console
reserved-other = record { chosen = refl; cpus = refl; psci = refl; timer = refl; memory = λ page. refl; interrupt_controller = λ one other gic. refl; hypervisor = λ area. refl; console = λ area. refl }

pub ports-other : IsOther (codes "static-ports")
unfolding memory interrupt_controller hypervisor console
ports-other = record { chosen = refl; cpus = refl; psci = refl; timer = refl; memory = λ page. refl; interrupt_controller = λ one other gic. refl; hypervisor = λ area. refl; console = λ area. refl }

regions-named : (name : Bytes) → bytes_eq (codes "reserved-memory") name ≡ false → (shared : List (Bytes × ℕ × ℕ)) → first_with name (on_any shared (reserved_memory shared ∷ [])) ≡ None
unfolding reserved_memory
regions-named name other [] = refl
regions-named name other (s ∷ shared) = rw other refl

ports-named : (name : Bytes) → bytes_eq (codes "static-ports") name ≡ false → (ports : List (ℕ × ℕ × ℕ)) → first_with name (on_any ports (static_ports ports ∷ [])) ≡ None
unfolding static_ports
ports-named name other [] = refl
ports-named name other (p ∷ ports) = rw other refl

-- what is found in the partial tree has the name that the path ends with
pub found-name : (partial : Option Tree) (path name : Bytes) (t : Tree) → components path ≡ Some (name ∷ []) → bytes_eq name [] ≡ false → found_in partial path ≡ Some t → t.name ≡ name
found-name None path name t one some found = absurd (cc)
found-name (Some whole) path name t one some found =
    first_with-name name (list_of whole.children) t (sym (node_found-child whole path name one some) ∙ found)

-- a copy is found by its own name alone
copied-other : (partial : Option Tree) (path name wanted : Bytes) → components path ≡ Some (name ∷ []) → bytes_eq name [] ≡ false → bytes_eq name wanted ≡ false → first_with wanted (copied partial path) ≡ None
copied-other partial path name wanted one some other = by (found_in partial path) (found-name partial path name)
  where
    by : (o : Option Tree) → ((t : Tree) → components path ≡ Some (name ∷ []) → bytes_eq name [] ≡ false → o ≡ Some t → t.name ≡ name) → first_with wanted (option_to_list (option_map cleaned o)) ≡ None
    by None is = refl
    by (Some t) is = let miss : bytes_eq t.name wanted ≡ false = ap (λ n. bytes_eq n wanted) (is t one some refl) ∙ other in rw miss refl

copied-own : (partial : Option Tree) (path name : Bytes) → components path ≡ Some (name ∷ []) → bytes_eq name [] ≡ false → bytes_eq name name ≡ true → (rest : List Tree) → first_with name rest ≡ None → first_with name (copied partial path ++ rest) ≡ option_map cleaned (found_in partial path)
copied-own partial path name one some same rest none = by (found_in partial path) (found-name partial path name)
  where
    by : (o : Option Tree) → ((t : Tree) → components path ≡ Some (name ∷ []) → bytes_eq name [] ≡ false → o ≡ Some t → t.name ≡ name) → first_with name (option_to_list (option_map cleaned o) ++ rest) ≡ option_map cleaned o
    by None is = none
    by (Some t) is = let hit : bytes_eq t.name name ≡ true = ap (λ n. bytes_eq n name) (is t one some refl) ∙ same in rw hit refl

copies-other : (partial : Option Tree) (wanted : Bytes) → bytes_eq (codes "passthrough") wanted ≡ false → bytes_eq (codes "aliases") wanted ≡ false → bytes_eq (codes "__symbols__") wanted ≡ false → first_with wanted (copies partial) ≡ None
copies-other partial wanted p a s =
    first_with-before wanted (copied partial (codes "/passthrough")) _ (copied-other partial (codes "/passthrough") (codes "passthrough") wanted refl refl p) ∙ (first_with-before wanted (copied partial (codes "/aliases")) _ (copied-other partial (codes "/aliases") (codes "aliases") wanted refl refl a) ∙ first_with-before wanted (copied partial (codes "/__symbols__")) [] (copied-other partial (codes "/__symbols__") (codes "__symbols__") wanted refl refl s))

names_found : (plan : GuestPlan) (partial : Option Tree) (path name : Bytes) → components path ≡ Some (name ∷ []) → bytes_eq name [] ≡ false → node_found (guest_tree plan partial) path ≡ first_with name (machine_nodes plan.layout plan ++ copies partial)
unfolding guest_tree
names_found plan partial path name one some =
    node_found-child (guest_tree plan partial) path name one some ∙ ap (first_with name) (list-of-trees (machine_nodes plan.layout plan ++ copies partial))

-- `/passthrough` is the copy
pub passthrough-found : (plan : GuestPlan) (partial : Option Tree) → node_found (guest_tree plan partial) (codes "/passthrough") ≡ option_map cleaned (found_in partial (codes "/passthrough"))
passthrough-found plan partial =
    let name : Bytes = codes "passthrough" in
    names_found plan partial (codes "/passthrough") name refl refl ∙ (first_with-before name (machine_nodes plan.layout plan) (copies partial) (first_with-before name (to_regions plan.layout plan) (port_nodes plan) (first_with-before name (to_console plan.layout plan) (region_nodes plan) (to-console-other name plan.layout plan passthrough-other) ∙ regions-named name refl plan.shared) ∙ ports-named name refl plan.ports) ∙ copied-own partial (codes "/passthrough") name refl refl refl _ (first_with-before name (copied partial (codes "/aliases")) _ (copied-other partial (codes "/aliases") (codes "aliases") name refl refl refl) ∙ first_with-before name (copied partial (codes "/__symbols__")) [] (copied-other partial (codes "/__symbols__") (codes "__symbols__") name refl refl refl)))

-- `/reserved-memory` is that of the guest's shared regions
pub reserved-found : (plan : GuestPlan) (partial : Option Tree) → node_found (guest_tree plan partial) (codes "/reserved-memory") ≡ first_with (codes "reserved-memory") (region_nodes plan)
reserved-found plan partial =
    let name : Bytes = codes "reserved-memory" in
    names_found plan partial (codes "/reserved-memory") name refl refl ∙ (first_with-after name (machine_nodes plan.layout plan) (copies partial) (copies-other partial name refl refl refl) ∙ (first_with-after name (to_regions plan.layout plan) (port_nodes plan) (ports-named name refl plan.ports) ∙ first_with-before name (to_console plan.layout plan) (region_nodes plan) (to-console-other name plan.layout plan reserved-other)))

-- `/static-ports` is that of its ports
pub ports-found : (plan : GuestPlan) (partial : Option Tree) → node_found (guest_tree plan partial) (codes "/static-ports") ≡ first_with (codes "static-ports") (port_nodes plan)
ports-found plan partial =
    let name : Bytes = codes "static-ports" in
    names_found plan partial (codes "/static-ports") name refl refl ∙ (first_with-after name (machine_nodes plan.layout plan) (copies partial) (copies-other partial name refl refl refl) ∙ first_with-before name (to_regions plan.layout plan) (port_nodes plan) (first_with-before name (to_console plan.layout plan) (region_nodes plan) (to-console-other name plan.layout plan ports-other) ∙ regions-named name refl plan.shared))
