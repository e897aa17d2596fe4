-- What a path finds in a tree, and the trees below a node as a list (Devicetree Specification 0.4, 2.2.3).
use Rattle.std.specs.Prelude.{List, [], ◌∷◌, Option, option_and_then}
use Rattle.fdt_tree.specs.Tree.{Bytes, Trees, none, tree, Tree, at, find_place}

-- the trees below a node, in their order
abbrev pub list_of : Trees → List Tree
list_of none = []
list_of (tree name properties children rest) =
    record { name = name; properties = properties; children = children } ∷ list_of rest

-- the node that a path finds
abbrev pub node_found : Tree → Bytes → Option Tree
node_found t path = option_and_then (at t) (find_place t path)
