-- What is still to come on a walk, by the node at which it stands.
use Rattle.std.specs.Prelude.{◌<◌, ◌≤◌, ℕ, zero, suc, ◌+◌, List, [], ◌∷◌, ◌++◌, if◌then◌else◌, length, map, bytes_eq}
use Rattle.fdt_tree.specs.Tree.{Trees, none, tree, Tree, Place}
use Rattle.fdt_tree.specs.Document.{Document, place_of, name_of, properties_of, children_of, IsNumbering, IsNamed}
use Rattle.fdt_tree.specs.Visits.{Seen, begins, ends, visits_below}
use Rattle.fdt_tree.specs.declared.walk.Step.{Step}
use Rattle.fdt_tree.specs.declared.walk.Step.TheVariants.{Before, Entered, Left}
use Rattle.fdt_tree.specs.declared.walk.Visit.{Visit}
use Rattle.fdt_tree.specs.declared.walk.Visit.TheVariants.{Enter, Leave}

-- What is seen after a node was left, up to the end of these trees, which are the children of the node at a place from a number on.
abbrev pub after_in : Trees → Place → ℕ → ℕ → Place → List Seen
after_in none place number k p = []
after_in (tree name properties children rest) place number zero [] = visits_below rest place (number + 1)
after_in (tree name properties children rest) place number zero (j ∷ p) =
    after_in children (place ++ number ∷ []) 0 j p ++ ends ∷ visits_below rest place (number + 1)
after_in (tree name properties children rest) place number (suc k) p = after_in rest place (number + 1) k p

-- What is seen after the node at a place was left.
abbrev pub after : Tree → Place → List Seen
after t [] = []
after t (k ∷ p) = after_in t.children [] 0 k p ++ ends ∷ []

-- What is seen after a node was entered.
abbrev pub inside : Document → ℕ → List Seen
inside d node =
    visits_below (children_of d node) (place_of d node) 0 ++ ends ∷ after d.tree (place_of d node)

-- What is still to be seen, where a walk stands at a node.
abbrev pub visits_left : Document → ℕ → Step → List Seen
visits_left d node Before = begins (place_of d node) (name_of d node) (properties_of d node) ∷ inside d node
visits_left d node Entered = inside d node
visits_left d node Left = after d.tree (place_of d node)

-- How many places stand before this one.
abbrev pub number_in : List Place → Place → ℕ
number_in [] place = 0
number_in (first ∷ rest) place = if bytes_eq first place then 0 else suc (number_in rest place)

-- The visit that sees this.
abbrev pub visit_of : Document → Seen → Visit
visit_of d (begins place name properties) = Enter (number_in d.places place)
visit_of d ends = Leave

-- How many nodes are entered and not yet left on a walk over the whole tree, where it stands at a node.
abbrev pub nodes_open : Document → ℕ → Step → ℕ
nodes_open d node Before = length (place_of d node)
nodes_open d node Entered = suc (length (place_of d node))
nodes_open d node Left = length (place_of d node)

-- What is seen before a node ends that did not begin here, where so many nodes have begun and not yet ended.
abbrev pub within : ℕ → List Seen → List Seen
within opened [] = []
within opened (begins place name properties ∷ rest) = begins place name properties ∷ within (suc opened) rest
within zero (ends ∷ rest) = []
within (suc opened) (ends ∷ rest) = ends ∷ within opened rest

-- The visits that are to come, where a walk stands at a node and so many nodes are entered and not yet left.
abbrev pub upcoming : Document → ℕ → Step → ℕ → List Visit
upcoming d node step opened = map (visit_of d) (within opened (visits_left d node step))

-- A walk stands at a node of the tree, and has entered no more nodes than are on the way to it.
pub record IsAt (d : Document) (node : ℕ) (step : Step) (opened : ℕ) : Type 0 where
  pub numbered : IsNumbering d
  pub named : IsNamed d
  pub live : node < length d.places
  pub on_the_way : opened ≤ nodes_open d node step
