-- What source means.
use Rattle.std.specs.Prelude.{◌≡◌, suc, ◌<◌, ◌≤◌, List, [], IsTrue}
use Rattle.std.specs.List.{AllByRecursion}
use Rattle.fdt_tree.specs.Tree.{Bytes, Property, Trees, none, tree, Tree, depth_limit}
use Rattle.fdt_tree.specs.Whole.{height}
use Rattle.fdt_tree.specs.declared.reserve.Reserve.{Reserve}
use Rattle.fdt_write.specs.Laws.{AreReserves}
use Rattle.source_text.specs.Characters.{is_property_byte, is_node_byte}
use Rattle.source_text.specs.Printed.{printed}
use Rattle.source_text.specs.Source.{IsSource, is_name_of}

-- A property's name is in its set, and its value is bytes.
abbrev pub IsPlain : Property → Type 0
IsPlain property = IsTrue (is_name_of is_property_byte property.0) × AllByRecursion (λ byte. byte < 256) property.1

-- The same of all nodes and properties of trees.
abbrev pub ArePlain : Trees → Type 0
ArePlain none = Unit {0}
ArePlain (tree name properties children rest) =
    IsTrue (is_name_of is_node_byte name) × AllByRecursion IsPlain properties × ArePlain children × ArePlain rest

-- A tree that can be printed: an unnamed root, names in their sets, values of bytes, and a depth of at most 32.
pub record IsPrintable (t : Tree) : Type 0 where
  pub unnamed : t.name ≡ []
  pub root : AllByRecursion IsPlain t.properties
  pub nodes : ArePlain t.children
  pub shallow : suc (height t.children) ≤ depth_limit

-- What is printed says what it was printed from.
abbrev pub IsReadBack : Type 0
IsReadBack =
    (reserves : List Reserve) (t : Tree) → AreReserves reserves → IsPrintable t → IsSource (printed reserves t) reserves t

-- A text says one thing at most.
abbrev pub IsOne : Type 0
IsOne =
    (text : Bytes) (r q : List Reserve) (t u : Tree) → IsSource text r t → IsSource text q u → (r ≡ q) × (t ≡ u)
