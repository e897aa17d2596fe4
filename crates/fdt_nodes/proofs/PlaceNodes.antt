-- The nodes at places of a tree in memory, met one after the other.
use Rattle.std.proofs.Common.{◌≡◌, ◌∙◌, ap, sym, refl, ℕ, zero, suc, ◌+◌, ◌<◌, length, List, [], ◌∷◌, ◌++◌, Some, None, arith}
use Rattle.std.specs.Prelude.{Option, option_map, option_and_then, IsSome}
use Rattle.std.specs.Option.{option_map_or}
use Rattle.fdt_tree.specs.Tree.{Bytes, Property, Trees, none, tree, Tree, Place, at, at_in}
use Rattle.fdt_tree.specs.Document.{Document, IsNumbering, place_of, parent_place, next_place, if_there}
use Rattle.fdt_tree.specs.Values.{cells_of}
use Rattle.fdt_nodes.specs.Nodes.{Node, root_of, children, properties_at, node_at}
use Rattle.fdt_nodes.specs.Held.{node_of}
use Rattle.fdt_nodes.proofs.WalkLemmas.{node_in, from_in, from_place, later_place, from_next, node_in-is, above_in, from_in-child, from_in-first, from_place-none, from_place-next}

-- all but the last number of a place
abbrev pub front : ℕ → Place → Place
front k [] = []
front k (next ∷ place) = k ∷ front next place

pub parent_place-front : (k : ℕ) (place : Place) → parent_place (k ∷ place) ≡ Some (front k place)
parent_place-front k [] = refl
parent_place-front k (next ∷ place) = ap (option_map (λ above. k ∷ above)) (parent_place-front next place)

abbrev pub held : Option Tree → List Property
held found = option_map_or (λ (node : Tree). node.properties) found []

front-above : (properties : List Property) (trees : Trees) (k next : ℕ) (place : Place) → held (at_in trees k (front next place)) ≡ above_in properties trees k (next ∷ place)
front-above properties none k next place = refl
front-above properties (tree n ps cs rest) zero next [] = refl
front-above properties (tree n ps cs rest) zero next (later ∷ place) = front-above ps cs next later place
front-above properties (tree n ps cs rest) (suc k) next place = front-above properties rest k next place

cells_above : (whole : Tree) (k : ℕ) (place : Place) → cells_of (above_in whole.properties whole.children k place) ≡ cells_of (properties_at whole (front k place))
cells_above whole k [] = refl
cells_above whole k (next ∷ place) = ap cells_of (sym (front-above whole.properties whole.children k next place))

same_node : (a b : Node) → a.place ≡ b.place → a.path ≡ b.path → a.cells ≡ b.cells → a.properties ≡ b.properties → a.children ≡ b.children → a ≡ b
same_node a b place path cells properties below =
    ap (λ (p : Place). record a { place = p }) place
    ∙ (ap (λ (p : Bytes). record { place = b.place; path = p; cells = a.cells; properties = a.properties; children = a.children }) path
    ∙ (ap (λ (c : Option (ℕ × ℕ)). record { place = b.place; path = b.path; cells = c; properties = a.properties; children = a.children }) cells
    ∙ (ap (λ (p : List Property). record { place = b.place; path = b.path; cells = b.cells; properties = p; children = a.children }) properties
    ∙ ap (λ (t : Trees). record b { children = t }) below)))

-- a node that is found by descending is the node at its place
pub node_in-at : (whole : Tree) (k : ℕ) (place : Place) → IsSome (at whole (k ∷ place)) → node_in (root_of whole) 0 whole.children k place ≡ node_at whole (k ∷ place)
node_in-at whole k place there =
    let is = node_in-is (root_of whole) 0 whole.children k place there in
    same_node _ (node_at whole (k ∷ place)) (is.there ∙ ap (λ m. m ∷ place) (zero_plus k)) is.named
    (is.counted ∙ (cells_above whole k place ∙ sym (ap (option_and_then (λ above. cells_of (properties_at whole above))) (parent_place-front k place))))
    is.holds is.has_below
  where
    zero_plus : (m : ℕ) → 0 + m ≡ m
    zero_plus m = omega arith

-- from the first child of a node on there are its children
pub from_place-child : (whole : Tree) (place : Place) → IsSome (at whole place) → from_place whole (place ++ 0 ∷ []) ≡ children (node_at whole place)
from_place-child whole [] there = start whole.children
  where
    start : (trees : Trees) → from_in (root_of whole) 0 trees 0 [] ≡ children (record (root_of whole) { children = trees })
    start none = refl
    start (tree n ps cs rest) = refl
from_place-child whole (k ∷ place) there = from_in-child (root_of whole) 0 whole.children k place ∙ ap children (node_in-at whole k place there)

-- a node stands before its later siblings
pub from_place-first : (whole : Tree) (place : Place) → IsSome (at whole place) → from_place whole place ≡ node_at whole place ∷ later_place whole place
from_place-first whole [] there = refl
from_place-first whole (k ∷ place) there =
    from_in-first (root_of whole) 0 whole.children k place there ∙ ap (λ first. first ∷ later_place whole (k ∷ place)) (node_in-at whole k place there)

-- a node in memory and its later siblings, where there is one
abbrev pub siblings : Document → Option ℕ → List Node
siblings document None = []
siblings document (Some node) = from_place document.tree (place_of document node)

map_there : (q : Place) (found : Option Tree) (p : Place) → Some p ≡ option_map (λ _. q) found → p ≡ q
map_there q None p is = absurd (cc)
map_there q (Some t) p is = cc

map_missing : (q : Place) (found : Option Tree) → None ≡ option_map (λ _. q) found → found ≡ None
map_missing q None is = refl
map_missing q (Some t) is = absurd (cc)

there_of : (document : Document) (result : Option ℕ) (q : Place) → option_map (λ node. place_of document node) result ≡ if_there document q
    → siblings document result ≡ from_place document.tree q
there_of document None q is = sym (from_place-none document.tree q (map_missing q (at document.tree q) is))
there_of document (Some node) q is = ap (from_place document.tree) (map_there q (at document.tree q) (place_of document node) is)

-- what the first child of a node begins
pub first_child-siblings : (document : Document) (node : ℕ) (result : Option ℕ) → IsNumbering document → node < length document.places
    → option_map (λ child. place_of document child) result ≡ if_there document (place_of document node ++ 0 ∷ [])
    → siblings document result ≡ children (node_of document node)
first_child-siblings document node result numbered live is =
    there_of document result (place_of document node ++ 0 ∷ []) is ∙ from_place-child document.tree (place_of document node) (numbered.stand node live)

-- what the next sibling begins
pub next_sibling-siblings : (document : Document) (node : ℕ) (result : Option ℕ) → IsNumbering document → node < length document.places
    → option_map (λ next. place_of document next) result ≡ option_and_then (λ p. if_there document p) (next_place (place_of document node))
    → siblings document (Some node) ≡ node_of document node ∷ siblings document result
next_sibling-siblings document node result numbered live is =
    from_place-first document.tree (place_of document node) (numbered.stand node live)
    ∙ ap (λ later. node_of document node ∷ later) (sym (by_next (next_place (place_of document node)) refl ∙ from_place-next document.tree (place_of document node)))
  where
    missing : (result : Option ℕ) → option_map (λ next. place_of document next) result ≡ None → siblings document result ≡ []
    missing None is = refl
    missing (Some node) is = absurd (cc)

    by_next : (next : Option Place) → next_place (place_of document node) ≡ next → siblings document result ≡ from_next document.tree (next_place (place_of document node))
    by_next None at_next = missing result (is ∙ ap (option_and_then (λ p. if_there document p)) at_next) ∙ sym (ap (from_next document.tree) at_next)
    by_next (Some q) at_next =
        there_of document result q (is ∙ ap (option_and_then (λ p. if_there document p)) at_next) ∙ sym (ap (from_next document.tree) at_next)
