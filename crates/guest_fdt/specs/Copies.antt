-- What is copied from a guest's partial device tree (Xen, docs/misc/arm/passthrough.txt).
use Rattle.std.specs.Prelude.{◌||◌, not, Bool, List, [], ◌∷◌, flat_map, Option, filter, bytes_eq, codes, option_map, option_and_then}
use Rattle.std.specs.Option.{option_to_list}
use Rattle.fdt_tree.specs.Tree.{Bytes, Property, Trees, none, tree, Tree}
use Rattle.guest_fdt.specs.Found.{node_found}

-- the properties that bind a device to the host are not for the guest
unfoldable pub is_binding : Bytes → Bool
is_binding name =
    bytes_eq name (codes "xen,reg") || bytes_eq name (codes "xen,path") || bytes_eq name (codes "xen,force-assign-without-iommu")

-- the properties without them
abbrev pub kept : List Property → List Property
kept properties = filter (λ p. not (is_binding p.0)) properties

-- trees without them, at every depth
abbrev pub cleaned_in : Trees → Trees
cleaned_in none = none
cleaned_in (tree name properties children rest) = tree name (kept properties) (cleaned_in children) (cleaned_in rest)

-- a tree without them
abbrev pub cleaned : Tree → Tree
cleaned t = record { name = t.name; properties = kept t.properties; children = cleaned_in t.children }

-- the node that a path finds in the partial tree, if there is one
abbrev pub found_in : Option Tree → Bytes → Option Tree
found_in partial path = option_and_then (λ t. node_found t path) partial

-- that node, copied
abbrev pub copied : Option Tree → Bytes → List Tree
copied partial path = option_to_list (option_map cleaned (found_in partial path))

-- the paths of what is copied: the devices, and the names that others give them
abbrev pub copied_paths : List Bytes
copied_paths = codes "/passthrough" ∷ codes "/aliases" ∷ codes "/__symbols__" ∷ []

-- all that is copied
abbrev pub copies : Option Tree → List Tree
copies partial = flat_map (copied partial) copied_paths
