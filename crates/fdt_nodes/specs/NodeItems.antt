-- The items that nodes describe.
use Rattle.std.specs.Prelude.{ℕ}
use Rattle.described.specs.declared.item.Item.{Item}
use Rattle.described.specs.declared.item.Part.{Part}
use Rattle.fdt_nodes.specs.Nodes.{Node, shown}

-- the item of a node: its part, its path, and its number among those of its node
abbrev pub item_of : Part → Node → ℕ → Item
item_of part node index = record { part = part; path = shown node.path; index = index }
