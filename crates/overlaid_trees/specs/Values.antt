-- Nodes that a path finds, and values at a place.
use Rattle.std.specs.Prelude.{List, [], Option, Some, None, option_map, option_and_then, bytes_eq, if◌then◌else◌}
use Rattle.std.specs.Option.{option_map_or}
use Rattle.fdt_tree.specs.Tree.{Bytes, Property, Trees, none, tree, Tree, Place, at, find_place, edit, change_properties, property_of}
use Rattle.fdt_tree.specs.PathEdits.{set_property}
use Rattle.fdt_nodes.specs.Nodes.{properties_at}

-- the node that a path finds, with all below it
abbrev pub tree_found : Tree → Bytes → Option Tree
tree_found whole path = option_and_then (at whole) (find_place whole path)

-- the properties of the node that a path finds, or none
abbrev pub properties_found : Tree → Bytes → List Property
properties_found whole path = option_map_or (λ (found : Tree). found.properties) (tree_found whole path) []

-- the first property of a name at a place, changed, where it is there and the change is
abbrev pub changed_at : Tree → Place → Bytes → (Bytes → Option Bytes) → Option Tree
changed_at whole place name change =
    option_map (λ bytes. edit (change_properties (set_property name bytes)) whole place) (option_and_then change (property_of (properties_at whole place) name))

-- the first of the trees that has this name
abbrev pub first_child : Bytes → Trees → Option Tree
first_child wanted none = None
first_child wanted (tree name properties children rest) =
    if bytes_eq name wanted then Some (record { name = name; properties = properties; children = children }) else first_child wanted rest
