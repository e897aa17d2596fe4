-- Words for trees and properties that are written down whole (Devicetree Specification 0.4, 2.2).
use Rattle.std.specs.Prelude.{ℕ, List, [], ◌∷◌, ◌++◌, Bool, Option, Some, None, false, if◌then◌else◌, codes, flat_map}
use Rattle.std.specs.Fmt.{digits}
use Rattle.std.specs.Int.{w32, w64, to_be_bytes}
use Rattle.fdt_tree.specs.Tree.{Bytes, Property, Trees, none, tree, Tree}

-- the trees of a list, one after the other
abbrev pub trees_of : List Tree → Trees
trees_of [] = none
trees_of (t ∷ ts) = tree t.name t.properties t.children (trees_of ts)

-- a node with its children
abbrev pub node : Bytes → List Property → List Tree → Tree
node name properties children = record { name = name; properties = properties; children = trees_of children }

-- a node without children
abbrev pub leaf : Bytes → List Property → Tree
leaf name properties = record { name = name; properties = properties; children = none }

-- a property of cells (2.2.4, u32)
abbrev pub cells : Bytes → List ℕ → Property
cells name numbers = (name, flat_map (to_be_bytes w32) numbers)

-- a property of addresses and sizes, each in two cells, the high one first (2.2.4, u64; 2.3.6)
abbrev pub wide_cells : Bytes → List ℕ → Property
wide_cells name numbers = (name, flat_map (to_be_bytes w64) numbers)

-- a property of one text (2.2.4, string)
abbrev pub text : Bytes → Bytes → Property
text name string = (name, string ++ 0 ∷ [])

-- a property without a value
abbrev pub flag : Bytes → Property
flag name = (name, [])

-- two address cells and two size cells (2.3.5)
abbrev pub two_and_two : List Property
two_and_two = cells (codes "#address-cells") (2 ∷ []) ∷ cells (codes "#size-cells") (2 ∷ []) ∷ []

-- a name with a unit address: lower-case hexadecimal digits without leading zeros (2.2.1)
abbrev pub named_at : Bytes → ℕ → Bytes
named_at name address = name ++ codes "@" ++ digits 16 false address

-- what is there where a test holds
abbrev pub on : {A : Type 0} → Bool → List A → List A
on test items = if test then items else []

-- what is there where there is a value
abbrev pub on_some : {A B : Type 0} → Option A → (A → List B) → List B
on_some None items = []
on_some (Some value) items = items value

-- what is there where a list is not empty
abbrev pub on_any : {A B : Type 0} → List A → List B → List B
on_any [] items = []
on_any (first ∷ rest) items = items
