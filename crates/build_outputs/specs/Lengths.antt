-- Trees that are too long to be written are refused as items of their own.
use Rattle.std.specs.Prelude.{ℕ, ◌-◌, ◌^◌, nat_lt, min, if◌then◌else◌, List, [], ◌∷◌, length, Option, Some, None}
use Rattle.outside.specs.Outside.{File}
use Rattle.described.specs.declared.item.Item.{Item}
use Rattle.described.specs.declared.item.Part.TheVariants as parts
use Rattle.described.specs.declared.why.Why.{Why}
use Rattle.described.specs.declared.why.Why.TheVariants.{TreeTooLong}
use Rattle.item_checks.specs.Refusals.{Refusal, or_later}
use Rattle.fdt_write.specs.Flattened.{length_limit}

-- a tree that is written, as an item: the name of its file
abbrev pub tree_item : List ℕ → Item
tree_item name = record { part = parts.Tree; path = name; index = 0 }

-- why a tree is refused that would have so many bytes
abbrev pub too_long : ℕ → Why
too_long bytes = TreeTooLong (min bytes (2 ^ 64 - 1))

-- more bytes than are written
abbrev pub tree_too_long : List ℕ → Option Why
tree_too_long bytes = if nat_lt length_limit (length bytes) then Some (too_long (length bytes)) else None

-- the first tree that is too long
abbrev pub refused_trees : List File → Option Refusal
refused_trees [] = None
refused_trees (tree ∷ trees) = or_later (tree_item tree.0) (tree_too_long tree.1) (refused_trees trees)
