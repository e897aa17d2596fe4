-- A tree that grows by nodes.
use Rattle.std.specs.Prelude.{◌≡◌, ◌≤◌, ℕ, List, ◌++◌, length}
use Rattle.fdt_tree.specs.Tree.{Property, Trees, none, tree, Tree, Place, edit}
use Rattle.fdt_tree.specs.Document.{Document, place_of, with_properties}

-- the first trees, and then the others
abbrev pub joined : Trees → Trees → Trees
joined none others = others
joined (tree name properties children rest) others = tree name properties children (joined rest others)

-- a node with more last children
abbrev pub with_last_children : Trees → Tree → Tree
with_last_children more node = record node { children = joined node.children more }

-- the new tree is the old one, but that the parent has more last children; the nodes that were there keep their numbers
pub record Grows (old new : Document) (parent : ℕ) (more : Trees) : Type 0 where
  pub tree : new.tree ≡ edit (with_last_children more) old.tree (place_of old parent)
  pub new_places : List Place
  pub places : new.places ≡ old.places ++ new_places
  pub longer : length old.places ≤ length new.places

-- a tree where a node has more last properties
abbrev pub with_more : Document → ℕ → List Property → Document
with_more d node more = with_properties d (place_of d node) (λ properties. properties ++ more)
