-- What a small arena holds: a root with a property and two children, of which the first has a child and two properties.
use Rattle.std.proofs.Common.{◌≡◌, [], ◌∷◌, List, Some, None, refl}
use Rattle.std.specs.Prelude.{codes}
use Rattle.fdt_tree.specs.Tree.{none, tree}
use Rattle.fdt_tree.specs.Assembled.{document, IsChained}
use Rattle.fdt_tree.specs.PrivateLinks.{fresh, from, linked, run_with}
use Rattle.fdt_tree.specs.declared.node.Node.{Node}
use Rattle.fdt_tree.specs.declared.node.Slot.{Slot}

abbrev root : Node
root = record {
  parent = 0;
  name = [];
  first_child = Some 1;
  last_child = Some 2;
  next_sibling = None;
  first_property = Some 1;
  last_property = Some 1;
  property_count = 1;
  run = 0;
}

abbrev cpus : Node
cpus = record {
  parent = 0;
  name = codes "cpus";
  first_child = Some 3;
  last_child = Some 3;
  next_sibling = Some 2;
  first_property = Some 0;
  last_property = Some 2;
  property_count = 2;
  run = 0;
}

-- The root, cpus, memory, and cpu@0 below cpus, in the order in which they were added.
abbrev pub nodes : List Node
nodes = root ∷ cpus ∷ fresh 0 (codes "memory") ∷ fresh 1 (codes "cpu@0") ∷ []

abbrev pub slots : List Slot
slots =
    record { owner = 1; name = codes "a"; value = 1 ∷ []; next = Some 2 } ∷ record { owner = 0; name = codes "model"; value = []; next = None } ∷ record { owner = 1; name = codes "b"; value = []; next = None } ∷ []

pub held : document nodes slots ≡ record { tree = record { name = []; properties = (codes "model", []) ∷ []; children = tree (codes "cpus") ((codes "a", 1 ∷ []) ∷ (codes "b", []) ∷ []) (tree (codes "cpu@0") [] none none) (tree (codes "memory") [] none none) }; places = [] ∷ (0 ∷ []) ∷ (1 ∷ []) ∷ (0 ∷ 0 ∷ []) ∷ [] }
held = refl

pub chained : IsChained 0 slots
chained = (refl, (refl, (refl, tt)))

pub walked : from slots (Some 0) ≡ (codes "a", 1 ∷ []) ∷ (codes "b", []) ∷ []
walked = refl

-- A property that stands right after the run of its node lengthens it, and one that stands further on does not.
pub longer : run_with 5 (Some 3) 1 ≡ 2
longer = refl

pub apart : run_with 6 (Some 3) 1 ≡ 1
apart = refl

-- With one more child of cpus, which is the last node by number.
pub added_last : document (linked nodes 1 (Some 3) (fresh 1 (codes "cpu@1"))) slots ≡ record { tree = record { name = []; properties = (codes "model", []) ∷ []; children = tree (codes "cpus") ((codes "a", 1 ∷ []) ∷ (codes "b", []) ∷ []) (tree (codes "cpu@0") [] none (tree (codes "cpu@1") [] none none)) (tree (codes "memory") [] none none) }; places = [] ∷ (0 ∷ []) ∷ (1 ∷ []) ∷ (0 ∷ 0 ∷ []) ∷ (0 ∷ 1 ∷ []) ∷ [] }
added_last = refl
