-- For private contracts and proofs alone.
-- The children of nodes by their names, in maps.
use Rattle.std.specs.Prelude.{◌≡◌, ℕ, ◌<◌, [], ◌∷◌, ◌++◌, Option, Some, option_map, IfSome, length, Vec}
use Rattle.std.specs.declared.alloc.Global.{Global}
use Rattle.std.specs.Ordering.{nat_cmp}
use Rattle.std.specs.Cmp.Lexicographic.{slice_cmp}
use Rattle.std.specs.BTreeMap.{BTreeMap, get, get_by}
use Rattle.fdt_tree.specs.Tree.{Bytes, Place, first_named}
use Rattle.fdt_tree.specs.Document.{Document, place_of, children_of}

-- nodes by names
abbrev pub Named : Type 0
Named = BTreeMap (Vec ℕ Global) ℕ

-- the node of a name
abbrev pub named : Named → Bytes → Option ℕ
named children name = get_by (λ key. slice_cmp nat_cmp name key.items) children

-- where the first child of a node that has a name stands
abbrev pub child_place : Document → ℕ → Bytes → Option Place
child_place document above name = option_map (λ found. place_of document above ++ found.0 ∷ []) (first_named name (children_of document above))

-- a map has the first of a node's children of each name
pub record IsChildMap (document : Document) (above : ℕ) (children : Named) : Type 0 where
  pub live : (name : Bytes) → IfSome (named children name) (λ child. child < length document.places)
  pub places : (name : Bytes) → option_map (place_of document) (named children name) ≡ child_place document above name

-- a map has such a map of each node
abbrev pub HasAllChildren : Document → BTreeMap ℕ Named → Type 0
HasAllChildren document maps =
    (above : ℕ) → above < length document.places → (children : Named) × (get nat_cmp maps above ≡ Some children) × IsChildMap document above children
