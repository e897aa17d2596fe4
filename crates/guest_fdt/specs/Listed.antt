-- What a reader finds in any device tree: memories, devices, interrupts, shared regions and ports.
use Rattle.std.specs.Prelude.{ℕ, ◌==◌, Bool, List, [], ◌∷◌, ◌++◌, map, filter, flat_map, fold, codes, Option, Some, None, option_and_then}
use Rattle.std.specs.BTreeSet.{insert_key}
use Rattle.std.specs.Ordering.{nat_cmp}
use Rattle.texts.specs.declared.ranges.BaseSize.{BaseSize}
use Rattle.fdt_tree.specs.Tree.{Bytes, Property, Trees, none, tree, Tree, property_of}
use Rattle.fdt_tree.specs.Values.{strings, cells_of}
use Rattle.fdt_nodes.specs.Values.{is_compatible, is_memory}
use Rattle.tree_parts.specs.Nodes.{on_some}
use Rattle.guest_fdt.specs.Found.{list_of, node_found}
use Rattle.guest_fdt.specs.Entries.{reg_entries, triples_of}

-- a memory node
abbrev pub is_memory_node : Tree → Bool
is_memory_node node = is_memory node.properties

-- the memory of a tree: the entries of the memory nodes below the root
unfoldable pub memories_in : Tree → List BaseSize
memories_in t = flat_map (λ (node : Tree). reg_entries (cells_of t.properties) node.properties) (filter is_memory_node (list_of t.children))

-- a node, as its path and its properties
abbrev pub Device : Type 0
Device = Bytes × List Property

-- the nodes below the node of a path, in document order
abbrev pub devices_below : Bytes → Trees → List Device
devices_below path none = []
devices_below path (tree name properties children rest) =
    let here = path ++ 47 ∷ name in (here, properties) ∷ (devices_below here children ++ devices_below path rest)

-- the devices that are passed through: the nodes below `/passthrough`
unfoldable pub devices_in : Tree → List Device
devices_in t = on_some (node_found t (codes "/passthrough")) (λ node. devices_below (codes "/passthrough") node.children)

-- the shared interrupts of a node: the numbers of kind 0 in `interrupts`, each of three cells (Linux, arm,gic-v3.yaml)
abbrev pub interrupts_of : Device → List ℕ
interrupts_of device = map (λ t. t.1) (filter (λ t. t.0 == 0) (triples_of device.1 (codes "interrupts")))

-- numbers in ascending order, each once
abbrev pub in_order : List ℕ → List ℕ
in_order numbers = fold (insert_key nat_cmp) [] numbers

-- the shared interrupts of devices
unfoldable pub interrupts_in : List Device → List ℕ
interrupts_in devices = in_order (flat_map interrupts_of devices)

-- a region that is shared: its id, and where it lies
abbrev pub Region : Type 0
Region = Bytes × BaseSize

-- the first of the strings
abbrev pub first_string : List Bytes → Option Bytes
first_string [] = None
first_string (string ∷ rest) = Some string

-- the id of a region
abbrev pub region_id : List Property → Option Bytes
region_id properties = option_and_then (λ bytes. first_string (strings bytes)) (property_of properties (codes "xen,id"))

-- a node of a shared region
abbrev pub is_region : Tree → Bool
is_region node = is_compatible node.properties (codes "xen,shared-memory-v1")

-- the regions of a node: its id with each entry
abbrev pub regions_of : Option (ℕ × ℕ) → Tree → List Region
regions_of counts node = on_some (region_id node.properties) (λ id. map (λ at. (id, at)) (reg_entries counts node.properties))

-- the shared regions of a tree
unfoldable pub regions_in : Tree → List Region
regions_in t = on_some (node_found t (codes "/reserved-memory")) (λ node. flat_map (regions_of (cells_of node.properties)) (filter is_region (list_of node.children)))

-- the ports of a tree, each with its peer and the peer's port
unfoldable pub ports_in : Tree → List (ℕ × ℕ × ℕ)
ports_in t = on_some (node_found t (codes "/static-ports")) (λ node. triples_of node.properties (codes "ports"))

-- the five lists
pub record Listing : Type 0 where
  pub memories : List BaseSize
  pub devices : List Device
  pub interrupts : List ℕ
  pub shared : List Region
  pub ports : List (ℕ × ℕ × ℕ)

-- what a reader finds in a tree
abbrev pub listed : Tree → Listing
listed t = record {
  memories = memories_in t;
  devices = devices_in t;
  interrupts = interrupts_in (devices_in t);
  shared = regions_in t;
  ports = ports_in t;
}
