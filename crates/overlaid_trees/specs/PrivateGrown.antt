-- Only private contracts and proofs use this file: a tree that is changed at one node.
use Rattle.std.specs.Prelude.{◌≡◌, ◌<◌, ◌≤◌, ◌⊎◌, ℕ, List, ◌++◌, length, Some, None}
use Rattle.fdt_tree.specs.Tree.{Bytes, Property, Trees, none, tree, Tree, Place, edit}
use Rattle.fdt_tree.specs.Document.{Document, place_of, name_of, properties_of, children_of, with_child}
use Rattle.indexed_tree.specs.Lookups.{child_place}
use Rattle.overlaid_trees.specs.Merge.{set_all, merged_in, Fragment}

-- a node is changed, with all below it, and the nodes that were there keep their numbers and their places
pub record Changes (old new : Document) (node : ℕ) (change : Tree → Tree) : Type 0 where
  pub tree : new.tree ≡ edit change old.tree (place_of old node)
  pub new_places : List Place
  pub places : new.places ≡ old.places ++ new_places
  pub longer : length old.places ≤ length new.places

-- a node with some trees merged in
abbrev pub merging : Trees → Tree → Tree
merging content node = record node { children = merged_in content node.children }

-- a node with some properties set and some trees merged in
abbrev pub merging_all : List Property → Trees → Tree → Tree
merging_all properties content node = record {
  name = node.name;
  properties = set_all properties node.properties;
  children = merged_in content node.children;
}

-- the child is the first of its name below a node of a tree, to which it was added last where there was none
pub record IsOpened (old new : Document) (node : ℕ) (name : Bytes) (child : ℕ) : Type 0 where
  pub live : child < length new.places
  pub opened : ((new ≡ old) × (Some (place_of old child) ≡ child_place old node name))
      ⊎ ((None ≡ child_place old node name) × (new ≡ with_child old (place_of old node) name) × (child ≡ length old.places))

-- one tree
abbrev pub one_tree : Bytes → List Property → Trees → Trees
one_tree name properties children = tree name properties children none

-- a node with all below it
abbrev pub tree_of : Document → ℕ → Tree
tree_of document node = record { name = name_of document node; properties = properties_of document node; children = children_of document node }

-- a fragment: a node of an overlay, and what is merged
abbrev pub fragment_at : Document → ℕ → ℕ → Fragment
fragment_at document node content = record { name = name_of document node; properties = properties_of document node; content = tree_of document content }
