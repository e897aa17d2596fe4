-- How the arena of a tree is changed and read, for private contracts and proofs alone.
use Rattle.std.specs.Option.{option_map_or}
use Rattle.std.specs.Prelude.{ℕ, zero, suc, ◌+◌, ◌==◌, slice_get, drop, unwrap_or, bytes_eq, ◌&&◌, if◌then◌else◌, Option, Some, None, List, [], ◌∷◌, ◌++◌, length}
use Rattle.fdt_tree.specs.Tree.{Bytes, Property, Tree, count}
use Rattle.fdt_tree.specs.declared.node.Node.{Node}
use Rattle.fdt_tree.specs.declared.node.Slot.{Slot}
use Rattle.fdt_tree.specs.Assembled.{owned}

-- The name, the properties and the number of children of a node.
abbrev pub summary : Tree → Bytes × (List Property × ℕ)
summary node = (node.name, (node.properties, count node.children))

-- A node below this parent with no property and no child.
abbrev pub fresh : ℕ → Bytes → Node
fresh parent name = record {
  parent = parent;
  name = name;
  first_child = None;
  last_child = None;
  next_sibling = None;
  first_property = None;
  last_property = None;
  property_count = 0;
  run = 0;
}

-- A list with one item changed.
abbrev pub modified : {A : Type 0} → (A → A) → ℕ → List A → List A
modified change number [] = []
modified change zero (item ∷ items) = change item ∷ items
modified change (suc number) (item ∷ items) = item ∷ modified change number items

-- A node whose first child has this number.
abbrev pub with_first_child : ℕ → Node → Node
with_first_child child node = record node { first_child = Some child }

-- A node whose next sibling has this number.
abbrev pub with_next_sibling : ℕ → Node → Node
with_next_sibling sibling node = record node { next_sibling = Some sibling }

-- A node whose last child has this number.
abbrev pub with_last_child : ℕ → Node → Node
with_last_child child node = record node { last_child = Some child }

-- The nodes, where the last child of a parent, if it has one, is linked to a new one, and otherwise the parent is.
abbrev pub followed : Option ℕ → ℕ → ℕ → List Node → List Node
followed None parent child nodes = modified (with_first_child child) parent nodes
followed (Some last) parent child nodes = modified (with_next_sibling child) last nodes

-- The nodes with a new last one, which is the last child of a node whose last child was given.
abbrev pub linked : List Node → ℕ → Option ℕ → Node → List Node
linked nodes parent last node =
    modified (with_last_child (length nodes)) parent (followed last parent (length nodes) (nodes ++ node ∷ []))

-- The properties from a slot on: it, and those after it that belong to its node.
abbrev pub from : List Slot → Option ℕ → List Property
from slots None = []
from slots (Some number) = option_map_or (λ slot. owned slot.owner (drop number slots)) (slice_get slots number) []

-- A slot that is followed by the slot of this number.
abbrev pub with_next : ℕ → Slot → Slot
with_next next slot = record slot { next = Some next }

-- The slots with a new last one, which follows one of them, if there is one.
abbrev pub chained_after : Option ℕ → List Slot → Slot → List Slot
chained_after None slots slot = slots ++ slot ∷ []
chained_after (Some last) slots slot = modified (with_next (length slots)) last (slots ++ slot ∷ [])

-- How many properties stand side by side right after the first one, if there is one, where another stands at this number.
abbrev pub run_with : ℕ → Option ℕ → ℕ → ℕ
run_with number None run = 0
run_with number (Some first) run = if first + run + 1 == number then run + 1 else run

-- A node that has one property more, the last one, at this number.
abbrev pub with_last_slot : ℕ → Node → Node
with_last_slot number node = record node {
  first_property = Some (unwrap_or node.first_property number);
  last_property = Some number;
  run = run_with number node.first_property node.run;
  property_count = node.property_count + 1;
}

-- A slot that has this value.
abbrev pub with_value : Bytes → Slot → Slot
with_value value slot = record slot { value = value }

-- The first slot of a node that has this name, among slots of which the first has this number.
abbrev pub first_named_slot : ℕ → Bytes → ℕ → List Slot → Option ℕ
first_named_slot node name number [] = None
first_named_slot node name number (slot ∷ slots) =
    if slot.owner == node && bytes_eq slot.name name then Some number else first_named_slot node name (suc number) slots
