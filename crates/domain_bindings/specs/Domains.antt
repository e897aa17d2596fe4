-- The guests that a tree describes: the children of `/chosen` that are domains (Xen, docs/misc/arm/device-tree/booting.txt, dom0less).
use Rattle.std.specs.Prelude.{ℕ, ◌+◌, Bool, false, List, [], ◌∷◌, ◌++◌, filter, codes, Option, None, option_map, option_and_then}
use Rattle.std.specs.Option.{option_map_or}
use Rattle.described.specs.declared.item.Described.{Described}
use Rattle.described.specs.declared.item.ModuleKind.TheVariants.{Kernel, DeviceTree}
use Rattle.described.specs.declared.item.What.{What}
use Rattle.described.specs.declared.item.What.TheVariants as whats
use Rattle.texts.specs.declared.ranges.BaseSize.{BaseSize}
use Rattle.fdt_tree.specs.Tree.{Bytes, Tree, property_of}
use Rattle.fdt_nodes.specs.Nodes.{Node, children, node_found}
use Rattle.fdt_nodes.specs.Values.{is_compatible}
use Rattle.domain_bindings.specs.Modules.{modules_of, module_items, first_of_kind, place_of}
use Rattle.domain_bindings.specs.Heads.{head_item}
use Rattle.domain_bindings.specs.Statics.{static_items}

-- the children of `/chosen`
abbrev pub chosen_children : Tree → List Node
chosen_children whole = option_map_or children (node_found whole (codes "/chosen")) []

-- a guest
abbrev pub is_domain : Node → Bool
is_domain node = is_compatible node.properties (codes "xen,domain")

-- the nodes of the guests, in order
abbrev pub guest_nodes : Tree → List Node
guest_nodes whole = filter is_domain (chosen_children whole)

-- the items of the guest with this number: its head, its static memory, and its modules
abbrev pub domain_items : ℕ → Node → List Described
domain_items number node = head_item number node ∷ (static_items node ++ module_items [] (modules_of node))

-- the words that its kernel is started with
abbrev pub bootargs_of : Node → Option Bytes
bootargs_of node = option_and_then (λ (kernel : Node). property_of kernel.properties (codes "bootargs")) (first_of_kind Kernel (modules_of node))

-- the address of its partial device tree
abbrev pub partial_of : Node → Option ℕ
partial_of node = option_map (λ (place : BaseSize). place.base) (option_and_then place_of (first_of_kind DeviceTree (modules_of node)))

-- The numbers of a head; of one with a reason of its own nothing is said.

-- how many virtual processors the head says, 0 where it has a reason
abbrev pub said_cpus : What → ℕ
said_cpus (whats.Head cpus pages spis direct console) = cpus
said_cpus _ = 0

-- how many pages it says, 0 where it has a reason
abbrev pub said_pages : What → ℕ
said_pages (whats.Head cpus pages spis direct console) = pages
said_pages _ = 0

-- how many shared interrupts it says, if any
abbrev pub said_spis : What → Option ℕ
said_spis (whats.Head cpus pages spis direct console) = spis
said_spis _ = None

-- whether it says that the guest is mapped directly
abbrev pub said_direct : What → Bool
said_direct (whats.Head cpus pages spis direct console) = direct
said_direct _ = false

-- whether it says that the guest has a console
abbrev pub said_console : What → Bool
said_console (whats.Head cpus pages spis direct console) = console
said_console _ = false
