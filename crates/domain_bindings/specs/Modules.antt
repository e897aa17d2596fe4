-- Modules that a boot loader has loaded: of dom0, directly below `/chosen`, and of a guest, below its node (Xen, docs/misc/arm/device-tree/booting.txt).
use Rattle.std.specs.Prelude.{ℕ, ◌*◌, ◌==◌, ◌||◌, Bool, true, false, not, if◌then◌else◌, List, [], ◌∷◌, ◌++◌, length, map, filter, find, codes, Option, Some, None, option_map, option_and_then, unwrap_or}
use Rattle.std.specs.Option.{is_none, option_map_or}
use Rattle.described.specs.declared.item.Item.{Item}
use Rattle.described.specs.declared.item.Part.TheVariants as parts
use Rattle.described.specs.declared.item.ModuleKind.{ModuleKind}
use Rattle.described.specs.declared.item.ModuleKind.TheVariants.{Kernel, Ramdisk, DeviceTree, Other}
use Rattle.described.specs.declared.item.Described.{Described}
use Rattle.described.specs.declared.item.What.{What}
use Rattle.described.specs.declared.item.What.TheVariants as whats
use Rattle.texts.specs.declared.ranges.BaseSize.{BaseSize}
use Rattle.described.specs.declared.why.Why.{Why}
use Rattle.described.specs.declared.why.Why.TheVariants as whys
use Rattle.fdt_tree.specs.Tree.{Bytes, property_of}
use Rattle.fdt_nodes.specs.Nodes.{Node, children}
use Rattle.fdt_nodes.specs.Values.{has, is_compatible}
use Rattle.fdt_nodes.specs.Entries.{region, region_cells}
use Rattle.described.specs.Reasons.{where_so, first_reason, described}
use Rattle.fdt_nodes.specs.NodeItems.{item_of}
use Rattle.domain_bindings.specs.Reasons.{is_too_high}

-- a module says by a compatible string that it is one, or of which kind it is
abbrev pub is_module : Node → Bool
is_module node =
    is_compatible node.properties (codes "multiboot,module") || is_compatible node.properties (codes "xen,multiboot-module")
    || is_compatible node.properties (codes "multiboot,kernel") || is_compatible node.properties (codes "multiboot,ramdisk")
    || is_compatible node.properties (codes "multiboot,device-tree")

-- the modules of a node, in order
abbrev pub modules_of : Node → List Node
modules_of node = filter is_module (children node)

-- the kind of a module: the first of the three that it names
abbrev pub kind_of : Node → ModuleKind
kind_of node =
    if is_compatible node.properties (codes "multiboot,kernel") then Kernel
    else if is_compatible node.properties (codes "multiboot,ramdisk") then Ramdisk
    else if is_compatible node.properties (codes "multiboot,device-tree") then DeviceTree
    else Other

-- two modules are of one of the three kinds
abbrev pub are_alike : ModuleKind → ModuleKind → Bool
are_alike Kernel Kernel = true
are_alike Ramdisk Ramdisk = true
are_alike DeviceTree DeviceTree = true
are_alike _ _ = false

-- the first module of a kind
abbrev pub first_of_kind : ModuleKind → List Node → Option Node
first_of_kind kind modules = find (λ node. are_alike kind (kind_of node)) modules

-- the value is one entry of an address and a size
abbrev pub is_one_entry : ℕ × ℕ → Bytes → Bool
is_one_entry cells value = length value == 4 * region_cells cells

-- the one entry that a value is in these cells
abbrev pub entry_in : ℕ × ℕ → Bytes → Option BaseSize
entry_in cells value = if is_one_entry cells value then Some (region cells value) else None

-- where a module lies: `reg`, if it is well formed
abbrev pub place_of : Node → Option BaseSize
place_of node = option_and_then (λ cells. option_and_then (entry_in cells) (property_of node.properties (codes "reg"))) node.cells

-- The reasons of a module.

-- BadValue: the node above counts cells badly
abbrev pub has_bad_cells : Node → Bool
has_bad_cells node = is_none node.cells

-- Missing: no `reg`
abbrev pub has_no_reg : Node → Bool
has_no_reg node = not (has node.properties (codes "reg"))

-- BadLength: `reg` is not one entry
abbrev pub has_no_entry : Node → Bool
has_no_entry node = is_none (place_of node)

-- TooHigh: it ends past 2^40
abbrev pub lies_too_high : Node → Bool
lies_too_high node = option_map_or is_too_high (place_of node) false

-- the item of a module
abbrev pub module_name : Node → Item
module_name node = item_of parts.Module node 0

-- Twice: an earlier module is of the same of the three kinds
abbrev pub kind_twice : List Node → Node → Option Why
kind_twice earlier node = option_map (λ first. whys.Twice (module_name first)) (first_of_kind (kind_of node) earlier)

-- the reasons of a module after some others, in order
abbrev pub module_reasons : List Node → Node → List (Option Why)
module_reasons earlier node =
    where_so (has_bad_cells node) whys.BadValue
    ∷ where_so (has_no_reg node) whys.Missing
    ∷ where_so (has_no_entry node) whys.BadLength
    ∷ kind_twice earlier node
    ∷ where_so (lies_too_high node) whys.TooHigh ∷ []

-- the first of them that applies
abbrev pub module_reason : List Node → Node → Option Why
module_reason earlier node = first_reason (module_reasons earlier node)

-- what a module describes
abbrev pub module_what : Node → What
module_what node = whats.Module (kind_of node) (unwrap_or (place_of node) (record { base = 0; size = 0 }))

-- a module after some others
abbrev pub module_item : List Node → Node → Described
module_item earlier node = described (module_name node) (module_reason earlier node) (module_what node)

-- the modules of a guest: of each kind one is taken
abbrev pub module_items : List Node → List Node → List Described
module_items earlier [] = []
module_items earlier (node ∷ nodes) = module_item earlier node ∷ module_items (earlier ++ node ∷ []) nodes

-- the modules of dom0, of which there may be several of a kind
abbrev pub host_module_items : List Node → List Described
host_module_items nodes = map (module_item []) nodes
