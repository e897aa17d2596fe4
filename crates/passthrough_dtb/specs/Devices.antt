-- The devices of a partial tree, each with the host's node that it stands for.
use Rattle.std.specs.Prelude.{ℕ, ◌==◌, ◌&&◌, ◌||◌, not, Bool, false, List, [], ◌∷◌, filter, length, codes, is_some, is_none, Option, Some, None, option_and_then}
use Rattle.std.specs.Option.{option_map_or}
use Rattle.described.specs.declared.item.Described.{Described}
use Rattle.described.specs.declared.item.Part.TheVariants as parts
use Rattle.described.specs.declared.item.What.TheVariants as whats
use Rattle.described.specs.declared.why.Why.{Why}
use Rattle.described.specs.declared.why.Why.TheVariants.{Missing, BadValue, NoHostNode, NoIommu, ExtendedInterrupts, BadLength, NotGic}
use Rattle.fdt_tree.specs.Tree.{Bytes, Property, Tree, property_of}
use Rattle.fdt_nodes.specs.Nodes.{Node, node_found, shown}
use Rattle.fdt_nodes.specs.Values.{has, passes, string_in}
use Rattle.fdt_nodes.specs.Entries.{is_whole, window_cells}
use Rattle.described.specs.Reasons.{where_so, first_reason, described}
use Rattle.passthrough_dtb.specs.Gic.{is_on_gic}
use Rattle.passthrough_dtb.specs.Whole.{item_in, passed_nodes}

-- a node that says something of the host
abbrev pub is_device : Node → Bool
is_device node =
    has node.properties (codes "xen,reg")
    || has node.properties (codes "xen,path")
    || has node.properties (codes "interrupts")
    || has node.properties (codes "interrupts-extended")

-- the devices: the nodes below `/passthrough` that say something of the host, in document order
abbrev pub devices : Tree → List Node
devices partial = filter is_device (passed_nodes partial)

-- the device is passed through although no IOMMU guards it
abbrev pub is_forced : List Property → Bool
is_forced device = has device (codes "xen,force-assign-without-iommu")

-- the host's node that the device stands for
abbrev pub host_node : Tree → List Property → Option Node
host_node host device = option_and_then (node_found host) (string_in device (codes "xen,path"))

-- the properties of a node that may be missing
abbrev pub properties_of : Option Node → List Property
properties_of found = option_map_or (λ (node : Node). node.properties) found []

-- no host node is named; a forced device without interrupts need not name one
abbrev pub lacks_path : List Property → Bool
lacks_path device = not (has device (codes "xen,path")) && not (is_forced device && not (has device (codes "interrupts")) && not (has device (codes "interrupts-extended")))

-- a text that begins with `/`
abbrev pub is_path : Option Bytes → Bool
is_path None = false
is_path (Some []) = false
is_path (Some (first ∷ rest)) = first == 47

-- `xen,path` is not one string that begins with `/`
abbrev pub has_bad_path : List Property → Bool
has_bad_path device = has device (codes "xen,path") && not (is_path (string_in device (codes "xen,path")))

-- the entries of `xen,reg` can't be read, since the cells of the node above are bad
abbrev pub has_bad_cells : Node → Bool
has_bad_cells device = has device.properties (codes "xen,reg") && is_none device.cells

-- `xen,path` names no node of the host
abbrev pub lacks_host : List Property → Option Node → Bool
lacks_host device found = has device (codes "xen,path") && is_none found

-- the host's node is behind no IOMMU, and the device is not forced
abbrev pub lacks_iommu : List Property → Option Node → Bool
lacks_iommu device found = is_some found && not (has (properties_of found) (codes "iommus")) && not (is_forced device)

-- either node has interrupts in the extended form, which is not read
abbrev pub is_extended : List Property → Option Node → Bool
is_extended device found = has device (codes "interrupts-extended") || has (properties_of found) (codes "interrupts-extended")

-- a value that is empty, or no whole entries in these cells
abbrev pub is_no_list : ℕ × ℕ → Bytes → Bool
is_no_list cells value = length value == 0 || not (is_whole (window_cells cells) value)

-- `xen,reg` is empty or no whole entries
abbrev pub has_bad_reg : Node → Bool
has_bad_reg device = option_map_or (λ cells. passes (is_no_list cells) (property_of device.properties (codes "xen,reg"))) device.cells false

-- `interrupts` is no whole threes of cells
abbrev pub has_bad_interrupts : List Property → Bool
has_bad_interrupts properties = passes (λ value. not (is_whole 3 value)) (property_of properties (codes "interrupts"))

-- either node has a list that does not divide
abbrev pub has_bad_length : Node → Option Node → Bool
has_bad_length device found = has_bad_reg device || has_bad_interrupts device.properties || has_bad_interrupts (properties_of found)

-- the device has interrupts, and those of the host's node do not go to the host's GIC
abbrev pub is_off_gic : Tree → List Property → Option Node → Bool
is_off_gic host device found = has device (codes "interrupts") && not (option_map_or (is_on_gic host) found false)

-- the first reason against a device, where this is the host's node that it stands for
abbrev pub reason_at : Tree → Node → Option Node → Option Why
reason_at host device found = first_reason (
    where_so (lacks_path device.properties) Missing
    ∷ where_so (has_bad_path device.properties || has_bad_cells device) BadValue
    ∷ where_so (lacks_host device.properties found) NoHostNode
    ∷ where_so (lacks_iommu device.properties found) NoIommu
    ∷ where_so (is_extended device.properties found) ExtendedInterrupts
    ∷ where_so (has_bad_length device found) BadLength
    ∷ where_so (is_off_gic host device.properties found) NotGic
    ∷ []
    )

-- the first reason against a device
abbrev pub device_reason : Tree → Node → Option Why
device_reason host device = reason_at host device (host_node host device.properties)

-- a device of a guest
abbrev pub device_item : Tree → ℕ → Node → Described
device_item host guest device = described (item_in parts.Device guest (shown device.path) 0) (device_reason host device) whats.Device
