-- What a reader finds in the cells of properties (Devicetree Specification 0.4, 2.2.4 and 2.3.6).
use Rattle.std.specs.Prelude.{ℕ, List, map, Option, codes}
use Rattle.texts.specs.declared.ranges.BaseSize.{BaseSize}
use Rattle.domain_bindings.specs.Statics.{regions_of}
use Rattle.fdt_nodes.specs.Entries.{first_number, after_cells, split_entries}
use Rattle.fdt_tree.specs.Tree.{Bytes, Property, property_of}
use Rattle.tree_parts.specs.Nodes.{on_some}

-- the entries of a node's `reg`, in the cells of its parent; none where these are bad, or where it is no whole entries
abbrev pub reg_entries : Option (ℕ × ℕ) → List Property → List BaseSize
reg_entries cells properties = regions_of cells (property_of properties (codes "reg"))

-- three cells
abbrev pub triple : Bytes → ℕ × ℕ × ℕ
triple bytes = (first_number 1 bytes, first_number 1 (after_cells 1 bytes), first_number 1 (after_cells 2 bytes))

-- the cells of a value in threes; a rest is not read
abbrev pub triples : Bytes → List (ℕ × ℕ × ℕ)
triples bytes = map triple (split_entries 3 bytes)

-- the cells of a property in threes
abbrev pub triples_of : List Property → Bytes → List (ℕ × ℕ × ℕ)
triples_of properties name = on_some (property_of properties name) triples
