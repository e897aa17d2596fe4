-- The first bank of a guest: the first memory of its device tree.
use Rattle.std.specs.Prelude.{ℕ, ◌+◌, ◌^◌, ◌==◌, ◌||◌, Bool, nat_le, not, List, [], ◌∷◌, Option, Some, None, if◌then◌else◌, flat_map, option_and_then, codes}
use Rattle.std.specs.Option.{option_map_or}
use Rattle.texts.specs.declared.ranges.BaseSize.{BaseSize}
use Rattle.fdt_tree.specs.Tree.{Bytes, Tree, property_of}
use Rattle.fdt_nodes.specs.Nodes.{Node, root_of, children}
use Rattle.fdt_nodes.specs.Entries.{region_cells, is_whole, regions}
use Rattle.fdt_nodes.specs.Values.{is_memory}
use Rattle.guest_load.specs.declared.places.Place.{Place}

-- the entries of some bytes, of an address and a size in so many cells each; none where they are no whole entries
abbrev pub whole_entries : ℕ × ℕ → Bytes → List BaseSize
whole_entries cells bytes = if is_whole (region_cells cells) bytes then regions cells bytes else []

-- the entries of a node's `reg` (Devicetree Specification 0.4, 2.3.6); none where there is no `reg`, or the node above it counts its cells badly
abbrev pub entries_of : Node → List BaseSize
entries_of node = option_map_or (λ cells. option_map_or (whole_entries cells) (property_of node.properties (codes "reg")) []) node.cells []

-- the memory that a node says: its entries, where it is a memory node (3.4)
abbrev pub memory_of : Node → List BaseSize
memory_of node = if is_memory node.properties then entries_of node else []

-- the memory of a tree: that of the nodes below its root, in their order
unfoldable pub memories : Tree → List BaseSize
memories t = flat_map memory_of (children (root_of t))

-- a memory is bad: it has no byte, or ends past 2^40
abbrev pub is_bad : BaseSize → Bool
is_bad memory = memory.size == 0 || not (nat_le (memory.base + memory.size) (2 ^ 40))

-- the bank that a memory is, unless it is bad
abbrev pub bank_of : BaseSize → Option Place
bank_of memory = if is_bad memory then None else Some (record { address = memory.base; size = memory.size })

-- the first of a list
abbrev pub first_of : {A : Type 0} → List A → Option A
first_of [] = None
first_of (first ∷ rest) = Some first

-- the first memory, unless there is none or it is bad; a later one does not count
abbrev pub first_bank : Tree → Option Place
first_bank t = option_and_then bank_of (first_of (memories t))
