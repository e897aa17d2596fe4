-- The tree that is generated for a number.
use Rattle.std.specs.Prelude.{ℕ, ◌+◌, ◌*◌, ◌%◌, [], ◌∷◌, map, codes}
use Rattle.texts.specs.Consecutive.{numbers}
use Rattle.fdt_tree.specs.Tree.{Tree}
use Rattle.tree_parts.specs.Nodes.{node, leaf, wide_cells, text, two_and_two}
use Rattle.tree_generator.specs.Guests.{guest}

-- how many guests it has
abbrev pub guest_count : ℕ → ℕ
guest_count number = 1 + number % 16

-- how many pages of memory the n-th guest has
abbrev pub pages_of : ℕ → ℕ → ℕ
pages_of number n = 512 * (1 + (37 * number + 101 * n) % 1023) + (7 * number + 13 * n) % 512

-- the host's memory: 64 GiB from address 0
unfoldable pub memory : Tree
memory = leaf (codes "memory@0") (text (codes "device_type") (codes "memory") ∷ wide_cells (codes "reg") (0 ∷ 0x1000000000 ∷ []) ∷ [])

-- the node of so many guests, which have so many pages
unfoldable pub chosen : ℕ → (ℕ → ℕ) → Tree
chosen guests pages = node (codes "chosen") [] (map (λ n. guest guests n (pages n)) (numbers 0 guests))

-- a tree of so many guests, which have so many pages
unfoldable pub tree_with : ℕ → (ℕ → ℕ) → Tree
tree_with guests pages = node [] two_and_two (memory ∷ chosen guests pages ∷ [])

-- the tree for a number
abbrev pub generated_tree : ℕ → Tree
generated_tree number = tree_with (guest_count number) (pages_of number)
