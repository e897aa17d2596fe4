-- The memory that a guest's tree lists.
use Rattle.std.proofs.Common.{◌≡◌, ◌≤◌, ◌^◌, ◌*◌, ◌/◌, ℕ, ◌+◌, Bool, true, false, not, cond, List, [], ◌∷◌, ◌++◌, Option, Some, None, map, filter, flat_map, refl, ap, ◌∙◌, arith}
use Rattle.std.specs.Prelude.{All, IsTrue}
use Rattle.std.specs.List.{list_all}
use Rattle.std.specs.Option.{option_to_list}
use Rattle.std.specs.Prelude.{option_map}
use Rattle.texts.specs.Consecutive.{numbers}
use Rattle.texts.specs.declared.ranges.BaseSize.{BaseSize}
use Rattle.described.specs.declared.layout.Layout.{Layout}
use Rattle.domain_plan.specs.declared.planned.GuestPlan.{GuestPlan}
use Rattle.fdt_tree.specs.Tree.{Bytes, Tree}
use Rattle.fdt_tree.specs.Values.{cells_of}
use Rattle.tree_parts.specs.Nodes.{on, on_any}
use Rattle.guest_fdt.specs.Copies.{cleaned, copied, copies, copied_paths, found_in}
use Rattle.guest_fdt.specs.Machine.{root_properties, chosen, cpus, psci, memory, interrupt_controller, timer, hypervisor, console, reserved_memory, static_ports}
use Rattle.guest_fdt.specs.GuestTree.{first_nodes, memory_nodes, device_nodes, console_nodes, region_nodes, port_nodes, machine_nodes, guest_tree}
use Rattle.guest_fdt.specs.Entries.{reg_entries}
use Rattle.guest_fdt.specs.Listed.{is_memory_node, memories_in}
use Rattle.guest_fdt.specs.Described.{bytes_of}
use Rattle.guest_fdt.specs.Laws.{is_no_memory, pages_of}
use Rattle.guest_fdt.proofs.Cleaning.{memory-cleaned}
use Rattle.guest_fdt.proofs.EntryLemmas.{entries-pages}
use Rattle.guest_fdt.proofs.NodeParts.{to_memory, to_devices, to_console, to_regions}
use Rattle.guest_fdt.proofs.Lists.{all-first, all-rest, filter-parts, filter-before, list-of-trees}
use Rattle.tree_parts.proofs.Conjunctions.{and-left, and-right}

chosen-plain : (area : BaseSize) (bootargs : Option Bytes) (with_console : Bool) → is_memory_node (chosen area bootargs with_console) ≡ false
unfolding chosen
chosen-plain area None true = refl
chosen-plain area None false = refl
chosen-plain area (Some bytes) true = refl
chosen-plain area (Some bytes) false = refl

first-plain : (area : BaseSize) (bootargs : Option Bytes) (with_console : Bool) (count : ℕ) → filter is_memory_node (chosen area bootargs with_console ∷ cpus count ∷ psci ∷ []) ≡ []
unfolding cpus psci
first-plain area bootargs with_console count = rw (chosen-plain area bootargs with_console) refl

memories-all : (memories : List (ℕ × ℕ)) → filter is_memory_node (map memory memories) ≡ map memory memories
unfolding memory
memories-all [] = refl
memories-all (m ∷ memories) = ap (λ z. memory m ∷ z) (memories-all memories)

next-plain : (distributor redistributors grant : BaseSize) (gic : ℕ) → filter is_memory_node (interrupt_controller distributor redistributors gic ∷ timer ∷ hypervisor grant ∷ []) ≡ []
unfolding interrupt_controller timer hypervisor
next-plain distributor redistributors grant gic = refl

console-plain : (area : BaseSize) (with_console : Bool) → filter is_memory_node (on with_console (console area ∷ [])) ≡ []
unfolding console
console-plain area true = refl
console-plain area false = refl

regions-plain : (shared : List (Bytes × ℕ × ℕ)) → filter is_memory_node (on_any shared (reserved_memory shared ∷ [])) ≡ []
unfolding reserved_memory
regions-plain [] = refl
regions-plain (s ∷ shared) = refl

ports-plain : (ports : List (ℕ × ℕ × ℕ)) → filter is_memory_node (on_any ports (static_ports ports ∷ [])) ≡ []
unfolding static_ports
ports-plain [] = refl
ports-plain (p ∷ ports) = refl

-- of the machine, the memory nodes alone are memory
machine-memory : (layout : Layout) (plan : GuestPlan) → filter is_memory_node (machine_nodes layout plan) ≡ map memory plan.memories
machine-memory layout plan =
    filter-before is_memory_node (to_regions layout plan) (port_nodes plan) (map memory plan.memories)
    (filter-before is_memory_node (to_console layout plan) (region_nodes plan) (map memory plan.memories)
    (filter-before is_memory_node (to_devices layout plan) (console_nodes layout plan) (map memory plan.memories)
    (filter-before is_memory_node (to_memory layout plan) (device_nodes layout plan) (map memory plan.memories)
    (filter-parts is_memory_node (first_nodes layout plan) (memory_nodes plan) [] (map memory plan.memories) (first-plain layout.console plan.bootargs plan.console plan.cpus) (memories-all plan.memories))
    (next-plain layout.distributor layout.redistributors layout.grant plan.gic))
    (console-plain layout.console plan.console))
    (regions-plain plan.shared))
    (ports-plain plan.ports)

copy-plain : (partial : Option Tree) (path : Bytes) → IsTrue (is_no_memory (found_in partial path)) → filter is_memory_node (copied partial path) ≡ []
copy-plain partial path plain = by (found_in partial path) plain
  where
    by : (o : Option Tree) → IsTrue (is_no_memory o) → filter is_memory_node (option_to_list (option_map cleaned o)) ≡ []
    by None plain = refl
    by (Some t) plain = rw (memory-cleaned t) (miss (is_memory_node t) plain)
      where
        miss : (b : Bool) → IsTrue (not b) → cond b (cleaned t ∷ []) [] ≡ []
        miss true h = absurd (cc)
        miss false h = refl

copies-plain : (partial : Option Tree) (paths : List Bytes) → IsTrue (list_all (λ path. is_no_memory (found_in partial path)) paths) → filter is_memory_node (flat_map (copied partial) paths) ≡ []
copies-plain partial [] plain = refl
copies-plain partial (path ∷ paths) plain =
    filter-before is_memory_node (copied partial path) (flat_map (copied partial) paths) [] (copy-plain partial path (and-left (is_no_memory (found_in partial path)) (list_all (λ path. is_no_memory (found_in partial path)) paths) plain)) (copies-plain partial paths (and-right (is_no_memory (found_in partial path)) (list_all (λ path. is_no_memory (found_in partial path)) paths) plain))

abbrev root_entries : ℕ → Tree → List BaseSize
root_entries gic node = reg_entries (cells_of (root_properties gic)) node.properties

entries-one : (gic page count : ℕ) → page + count ≤ 2 ^ 28 → root_entries gic (memory (page, count)) ≡ bytes_of page count ∷ []
unfolding root_properties memory
entries-one gic page count low = entries-pages page count low

entries-all : (gic : ℕ) (memories : List (ℕ × ℕ)) → All (λ (page, count). page + count ≤ 2 ^ 28) memories → flat_map (root_entries gic) (map memory memories) ≡ map (λ (page, count). bytes_of page count) memories
entries-all gic [] low = refl
entries-all gic (m ∷ memories) low =
    ap (λ z. z ++ flat_map (root_entries gic) (map memory memories)) (entries-one gic m.0 m.1 (all-first (λ (page, count). page + count ≤ 2 ^ 28) m memories low)) ∙ ap (λ z. bytes_of m.0 m.1 ∷ z) (entries-all gic memories (all-rest (λ (page, count). page + count ≤ 2 ^ 28) m memories low))

-- a guest's tree lists the guest's memory
pub memories-listed : (plan : GuestPlan) (partial : Option Tree) → All (λ (page, count). page + count ≤ 2 ^ 28) plan.memories → IsTrue (list_all (λ path. is_no_memory (found_in partial path)) copied_paths) → memories_in (guest_tree plan partial) ≡ map (λ (page, count). bytes_of page count) plan.memories
unfolding memories_in guest_tree
memories-listed plan partial low plain =
    ap (λ nodes. flat_map (root_entries plan.gic) (filter is_memory_node nodes)) (list-of-trees (machine_nodes plan.layout plan ++ copies partial)) ∙ (ap (flat_map (root_entries plan.gic)) (filter-before is_memory_node (machine_nodes plan.layout plan) (copies partial) (map memory plan.memories) (machine-memory plan.layout plan) (copies-plain partial copied_paths plain)) ∙ entries-all plan.gic plan.memories low)

-- and its pages are those of the guest's memory
pub pages-listed : (memories : List (ℕ × ℕ)) → flat_map pages_of (map (λ (page, count). bytes_of page count) memories) ≡ flat_map (λ (page, count). numbers page count) memories
pages-listed [] = refl
pages-listed (m ∷ memories) =
    let page : m.0 * 4096 / 4096 ≡ m.0 = omega arith in
    let count : m.1 * 4096 / 4096 ≡ m.1 = omega arith in
    ap (λ n. numbers n (m.1 * 4096 / 4096) ++ flat_map pages_of (map (λ (page, count). bytes_of page count) memories)) page ∙ (ap (λ n. numbers m.0 n ++ flat_map pages_of (map (λ (page, count). bytes_of page count) memories)) count ∙ ap (λ z. numbers m.0 m.1 ++ z) (pages-listed memories))
