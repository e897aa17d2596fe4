-- The phandles of an overlay are moved above those of the base, and with them the words that hold them.
use Rattle.std.specs.Prelude.{ℕ, ◌+◌, List, [], ◌∷◌, if◌then◌else◌, nat_lt, codes, drop, length, Option, Result, Err, ok_or, option_and_then}
use Rattle.std.specs.Option.{option_map_or}
use Rattle.std.specs.Int.{w32, to_be_bytes}
use Rattle.fdt_tree.specs.Tree.{Bytes, Property, Trees, none, tree, Tree, Place, find_place}
use Rattle.fdt_tree.specs.PathEdits.{set_property}
use Rattle.fdt_tree.specs.Phandles.{highest_phandle}
use Rattle.fdt_nodes.specs.Nodes.{Node, descendants, node_found, shown}
use Rattle.fdt_nodes.specs.Values.{u32_in}
use Rattle.overlaid_trees.specs.declared.fault.OverlayFault.{OverlayFault}
use Rattle.overlaid_trees.specs.declared.fault.OverlayFault.TheVariants.{PhandleRange, BadLocal}
use Rattle.overlaid_trees.specs.Turns.{each, all}
use Rattle.overlaid_trees.specs.Words.{last_phandle, with_all_moved}
use Rattle.overlaid_trees.specs.Values.{changed_at}

-- properties with their phandle moved up, where they have one of four bytes
abbrev pub moved_properties : ℕ → List Property → List Property
moved_properties by properties =
    option_map_or (λ phandle. set_property (codes "phandle") (to_be_bytes w32 (phandle + by)) properties) (u32_in properties (codes "phandle")) properties

-- trees with all phandles moved up
abbrev pub moved_in : ℕ → Trees → Trees
moved_in by none = none
moved_in by (tree name properties children rest) = tree name (moved_properties by properties) (moved_in by children) (moved_in by rest)

-- a tree with all phandles moved up
abbrev pub moved_tree : ℕ → Tree → Tree
moved_tree by whole = record { name = whole.name; properties = moved_properties by whole.properties; children = moved_in by whole.children }

-- the path of the node of local fixups
abbrev pub local_path : Bytes
local_path = codes "/__local_fixups__"

-- the nodes of local fixups, in document order
abbrev pub local_fixups : Tree → List Node
local_fixups overlay = option_map_or (λ node. node ∷ descendants node) (node_found overlay local_path) []

-- the path of the overlay's node that a node of local fixups speaks of: its own behind that prefix
abbrev pub spoken_path : Node → Bytes
spoken_path node = shown (drop (length local_path) node.path)

-- the words that one property of local fixups lists, moved up in the property of that name
abbrev pub moved_by_property : ℕ → Place → Tree → Property → Option Tree
moved_by_property by place whole fixup = changed_at whole place fixup.0 (with_all_moved by fixup.1)

-- the words that one node of local fixups lists, moved up in the node at its path; where anything is missing, it is named
abbrev pub moved_by_node : ℕ → Tree → Node → Result Tree OverlayFault
moved_by_node by whole fixups =
    ok_or (option_and_then (λ place. all (moved_by_property by place) whole fixups.properties) (find_place whole (spoken_path fixups))) (BadLocal (spoken_path fixups))

-- an overlay with its phandles above those of a base
abbrev pub shifted : Tree → Tree → Result Tree OverlayFault
shifted base overlay =
    if nat_lt last_phandle (highest_phandle base + highest_phandle overlay) then Err PhandleRange else
    each (moved_by_node (highest_phandle base)) (moved_tree (highest_phandle base) overlay) (local_fixups overlay)
