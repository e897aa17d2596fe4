-- For proofs, private contracts and the model of `Tree` alone: a tree held as a list of nodes and a list of properties, both linked by number, is what adding the nodes one by one gives, each below its parent; and a link leads where the tree has what it is a link to.
use Rattle.std.specs.Prelude.{◌≡◌, IsTrue, ℕ, zero, suc, ◌+◌, ◌==◌, ◌<◌, ◌≢◌, ◌≤◌, ⊤, slice_get, if◌then◌else◌, option_map, option_and_then, Option, Some, None, IfSome, List, [], ◌∷◌, ◌++◌, fold, length, refl}
use Rattle.std.specs.Coded.{Coded, code_by, coded_list, coded×, coded_ℕ}
use Rattle.fdt_tree.specs.Tree.{Bytes, Property, Tree, Place, depth, depth_limit, is_node_name, is_property_name}
use Rattle.fdt_tree.specs.CodedTrees.{coded_tree}
use Rattle.fdt_tree.specs.Document.{Document, empty, place_of, node_at, children_at, if_there, next_place, parent_place, with_node, with_properties}
use Rattle.fdt_tree.specs.declared.node.Node.{Node}
use Rattle.fdt_tree.specs.declared.node.Slot.{Slot}

-- A document, coded by its two parts.
abbrev pub coded_document : Coded Document
coded_document =
    code_by (Tree × List Place) (coded× coded_tree (coded_list (coded_list coded_ℕ))) (λ doc. (doc.tree, doc.places)) (λ pair. record { tree = pair.0; places = pair.1 }) (λ _. refl)

-- A node as it is added: the number of its parent, its name and its properties.
pub record Added : Type 0 where
  pub parent : ℕ
  pub name : Bytes
  pub properties : List Property

-- With one node more, below its parent.
abbrev pub grown : Document → Added → Document
grown doc node = with_node doc (place_of doc node.parent) node.name node.properties

-- A root with these properties.
abbrev pub rooted : List Property → Document
rooted properties = with_properties empty [] (λ _. properties)

-- The root, and then every other node in its turn.
abbrev pub assembled : List Added → Document
assembled [] = empty
assembled (root ∷ rest) = fold grown (rooted root.properties) rest

-- The properties of a node: those that belong to it, in the order of the slots.
abbrev pub owned : ℕ → List Slot → List Property
owned node [] = []
owned node (slot ∷ slots) = if slot.owner == node then (slot.name, slot.value) ∷ owned node slots else owned node slots

-- A node of the arena as it is added, with the properties that it has by now.
abbrev pub added : ℕ → Node → List Slot → Added
added number node slots = record { parent = node.parent; name = node.name; properties = owned number slots }

-- The nodes of the arena as they are added, where the first has this number.
abbrev pub rows : ℕ → List Node → List Slot → List Added
rows first [] slots = []
rows first (node ∷ nodes) slots = added first node slots ∷ rows (suc first) nodes slots

-- What an arena holds.
abbrev pub document : List Node → List Slot → Document
document nodes slots = assembled (rows 0 nodes slots)

-- The first slot of a node among slots of which the first has this number.
abbrev pub first_owned : ℕ → ℕ → List Slot → Option ℕ
first_owned node number [] = None
first_owned node number (slot ∷ slots) = if slot.owner == node then Some number else first_owned node (suc number) slots

-- The last slot of a node among slots of which the first has this number; before them, this one was it.
abbrev pub last_owned : Option ℕ → ℕ → ℕ → List Slot → Option ℕ
last_owned before node number [] = before
last_owned before node number (slot ∷ slots) =
    last_owned (if slot.owner == node then Some number else before) node (suc number) slots

-- Each slot is linked to the next one of its node.
abbrev pub IsChained : ℕ → List Slot → Type 0
IsChained number [] = ⊤
IsChained number (slot ∷ slots) = (slot.next ≡ first_owned slot.owner (suc number) slots) × IsChained (suc number) slots

-- The name and the properties of a node.
abbrev pub face : Tree → Bytes × List Property
face node = (node.name, node.properties)

-- The last of so many children of the node at a place.
abbrev pub last_place : Place → ℕ → Option Place
last_place place zero = None
last_place place (suc before) = Some (place ++ before ∷ [])

-- So many properties stand side by side right after the first one, and belong to one node with it.
abbrev pub StandBeside : ℕ → Option ℕ → ℕ → List Slot → Type 0
StandBeside owner first run slots =
    (start index : ℕ) → first ≡ Some start → index ≤ run → option_map (λ slot. slot.owner) (slice_get slots (start + index)) ≡ Some owner

-- A link from a node leads to a node after it.
abbrev pub LeadsOn : Document → ℕ → Option ℕ → Type 0
LeadsOn doc number link = IfSome link (λ other. (number < other) × (other < length doc.places))

-- What a node of the arena says is what stands at its place.
pub record IsNodeOf (doc : Document) (number : ℕ) (node : Node) (slots : List Slot) : Type 0 where
  -- its name and its properties
  pub says : option_map face (node_at doc number) ≡ Some (node.name, owned number slots)
  -- it has a name that it may have, unless it is the root, and stands no deeper than the limit
  pub named : number ≢ 0 → IsTrue (is_node_name node.name)
  pub shallow : depth (place_of doc number) ≤ depth_limit
  -- its parent came before it, and stands right above its place
  pub earlier : number ≢ 0 → node.parent < number
  pub above : number ≢ 0 → parent_place (place_of doc number) ≡ Some (place_of doc node.parent)
  -- its links to nodes go to higher numbers
  pub first_on : LeadsOn doc number node.first_child
  pub next_on : LeadsOn doc number node.next_sibling
  pub last_on : LeadsOn doc number node.last_child
  -- they lead to its first child, to the node right after it among its parent's children, and to its last child
  pub first : option_map (place_of doc) node.first_child ≡ if_there doc (place_of doc number ++ 0 ∷ [])
  pub next : option_map (place_of doc) node.next_sibling ≡ option_and_then (if_there doc) (next_place (place_of doc number))
  pub last : option_map (place_of doc) node.last_child ≡ last_place (place_of doc number) (children_at doc.tree (place_of doc number))
  -- it counts its properties, and those that stand side by side after its first one
  pub counted : node.property_count ≡ length (owned number slots)
  pub beside : StandBeside number node.first_property node.run slots
  -- its links to properties lead to the first and the last of those that belong to it
  pub first_slot : node.first_property ≡ first_owned number 0 slots
  pub last_slot : node.last_property ≡ last_owned None number 0 slots

-- The nodes of the arena are the nodes of the document, one for one; and each property belongs to one of them, and has a name that it may have.
pub record IsLinked (doc : Document) (nodes : List Node) (slots : List Slot) : Type 0 where
  pub some : 0 < length nodes
  pub root : place_of doc 0 ≡ []
  pub unnamed : doc.tree.name ≡ []
  pub numbered : length doc.places ≡ length nodes
  pub nodes_of : (number : ℕ) (node : Node) → slice_get nodes number ≡ Some node → IsNodeOf doc number node slots
  pub distinct : (one other : ℕ) → one < length nodes → other < length nodes → place_of doc one ≡ place_of doc other → one ≡ other
  pub chained : IsChained 0 slots
  pub owners : (number : ℕ) (slot : Slot) → slice_get slots number ≡ Some slot → slot.owner < length nodes
  pub slots_named : (number : ℕ) (slot : Slot) → slice_get slots number ≡ Some slot → IsTrue (is_property_name slot.name)
