-- The fragments of an overlay are merged into a tree.
use Rattle.std.specs.Prelude.{◌+◌, List, [], ◌∷◌, if◌then◌else◌, nat_lt, fold, bytes_eq, codes, Option, Some, None, Result, Ok, Err, ok_or, option_and_then}
use Rattle.fdt_tree.specs.Tree.{Bytes, Property, Trees, none, tree, Tree, Place, cell, property_of, find_place, edit, depth, depth_limit}
use Rattle.fdt_tree.specs.Whole.{height}
use Rattle.fdt_tree.specs.PathEdits.{set_property}
use Rattle.fdt_nodes.specs.Values.{string_in}
use Rattle.indexed_tree.specs.Lookups.{place_of_phandle}
use Rattle.overlaid_trees.specs.declared.fault.OverlayFault.{OverlayFault}
use Rattle.overlaid_trees.specs.declared.fault.OverlayFault.TheVariants.{NoTarget, Deep}
use Rattle.overlaid_trees.specs.Turns.{each, and_then}
use Rattle.overlaid_trees.specs.Values.{first_child}

-- properties with others set among them, one after the other
abbrev pub set_all : List Property → List Property → List Property
set_all news properties = fold (λ so_far property. set_property property.0 property.1 so_far) properties news

-- a change of the first of the trees that has a name, which is added last where there is none
abbrev pub change_named : Bytes → (Tree → Tree) → Trees → Trees
change_named wanted change none =
    let added = change (record { name = wanted; properties = []; children = none }) in tree added.name added.properties added.children none
change_named wanted change (tree name properties children rest) =
    if bytes_eq name wanted
    then (let changed = change (record { name = name; properties = properties; children = children }) in tree changed.name changed.properties changed.children rest)
    else tree name properties children (change_named wanted change rest)

-- trees merged into others, each into the first of its name
abbrev pub merged_in : Trees → Trees → Trees
merged_in none others = others
merged_in (tree name properties children rest) others =
    merged_in rest (change_named name (λ node. record { name = node.name; properties = set_all properties node.properties; children = merged_in children node.children }) others)

-- a node merged into another
abbrev pub merged_node : Tree → Tree → Tree
merged_node content node = record {
  name = node.name;
  properties = set_all content.properties node.properties;
  children = merged_in content.children node.children;
}

-- what an overlay merges into one node: its name in the overlay, what says which node, and what is merged
pub record Fragment : Type 0 where
  pub name : Bytes
  pub properties : List Property
  pub content : Tree

-- a fragment, where the node has a child `__overlay__`
abbrev pub fragment_first : Bytes → List Property → Option Tree → List Fragment → List Fragment
fragment_first name properties None later = later
fragment_first name properties (Some content) later = record { name = name; properties = properties; content = content } ∷ later

-- the fragments among some trees, in order
abbrev pub fragments : Trees → List Fragment
fragments none = []
fragments (tree name properties children rest) = fragment_first name properties (first_child (codes "__overlay__") children) (fragments rest)

-- the place of the node that a value of `target` names
abbrev pub place_of_target : Tree → Bytes → Option Place
place_of_target whole value = option_and_then (place_of_phandle whole) (cell value)

-- the place of the node that a fragment is merged into: by its `target`, or without one by its `target-path`
abbrev pub target_of : Tree → List Property → Option Place
target_of whole properties = elim (property_of properties (codes "target")) [
  | Some value ↦ place_of_target whole value
  | None ↦ option_and_then (find_place whole) (string_in properties (codes "target-path"))
]

-- a tree with a fragment merged in at a place, unless a node would stand too deep
abbrev pub merged_at : Tree → Fragment → Place → Result Tree OverlayFault
merged_at whole fragment place =
    if nat_lt depth_limit (depth place + height fragment.content.children) then Err (Deep fragment.name) else Ok (edit (merged_node fragment.content) whole place)

-- a tree with a fragment merged in; a fragment without a node to be merged into is named
abbrev pub with_fragment : Tree → Fragment → Result Tree OverlayFault
with_fragment whole fragment = and_then (ok_or (target_of whole fragment.properties) (NoTarget fragment.name)) (merged_at whole fragment)

-- a tree with all fragments of an overlay merged in
abbrev pub merged : Tree → Tree → Result Tree OverlayFault
merged base overlay = each with_fragment base (fragments overlay.children)
