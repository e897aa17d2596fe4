-- Which names cannot be printed.
use Rattle.std.specs.Prelude.{Bool, ◌||◌, not, List, [], ◌∷◌, ◌++◌, if◌then◌else◌, Option, slice_get, codes}
use Rattle.std.specs.List.{list_all, list_any}
use Rattle.fdt_tree.specs.Tree.{Bytes, Property, Trees, none, tree, Tree}
use Rattle.fdt_write.specs.Opened.{path_below}
use Rattle.source_text.specs.Characters.{is_property_byte, is_node_byte}

-- A node's name has a character outside the set.
abbrev pub is_bad_node : Bytes → Bool
is_bad_node name = not (list_all is_node_byte name)

-- A property's name has a character outside the set.
abbrev pub is_bad_property : Property → Bool
is_bad_property property = not (list_all is_property_byte property.0)

-- The path of a node, where it is at fault.
abbrev pub if_bad : Bool → Bytes → List Bytes
if_bad bad path = if bad then path ∷ [] else []

-- The paths of the trees at fault, by their own names or those of their properties, in document order.
abbrev pub bad_below : Bytes → Trees → List Bytes
bad_below above none = []
bad_below above (tree name properties children rest) =
    if_bad (is_bad_node name || list_any is_bad_property properties) (path_below above name) ++ (bad_below (path_below above name) children ++ bad_below above rest)

-- The paths of all nodes at fault. The root has no name of its own.
abbrev pub bad_paths : Tree → List Bytes
bad_paths t = if_bad (list_any is_bad_property t.properties) (codes "/") ++ bad_below [] t.children

-- The path of the first node at fault.
abbrev pub first_bad : Tree → Option Bytes
first_bad t = slice_get (bad_paths t) 0
