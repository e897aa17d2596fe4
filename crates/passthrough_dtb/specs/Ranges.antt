-- The ranges of host addresses that the devices of a partial tree have.
use Rattle.std.specs.Prelude.{ℕ, ◌+◌, ◌==◌, ◌&&◌, nat_le, Bool, List, [], ◌∷◌, ◌++◌, flat_map, length, codes, Option, None, if◌then◌else◌}
use Rattle.std.specs.Option.{option_map_or}
use Rattle.std.specs.List.{list_any}
use Rattle.described.specs.declared.item.Described.{Described}
use Rattle.described.specs.declared.item.Item.{Item}
use Rattle.described.specs.declared.item.Part.TheVariants as parts
use Rattle.described.specs.declared.item.What.TheVariants as whats
use Rattle.described.specs.declared.why.Why.{Why}
use Rattle.described.specs.declared.why.Why.TheVariants.{TooMany, NotPage, TooHigh, TooLarge}
use Rattle.fdt_tree.specs.Tree.{Bytes, Tree, property_of}
use Rattle.fdt_nodes.specs.declared.entries.Window.{Window}
use Rattle.fdt_nodes.specs.Nodes.{Node, shown}
use Rattle.fdt_nodes.specs.Entries.{is_whole, window_cells, device_windows}
use Rattle.described.specs.Reasons.{where_so, first_reason, described, is_not_page, is_too_high, is_too_large}
use Rattle.passthrough_dtb.specs.Whole.{item_in}
use Rattle.passthrough_dtb.specs.Devices.{devices}

-- whether two ranges are one
abbrev pub same_range : Window → Window → Bool
same_range one other = (one.host == other.host) && (one.guest == other.guest) && (one.size == other.size)

-- whether a range is among these
abbrev pub is_among : List Window → Window → Bool
is_among ranges range = list_any (same_range range) ranges

-- the ranges that stand before, each once, and one more
abbrev pub and_range : List Window → Window → List Window
and_range before range = if is_among before range then before else before ++ range ∷ []

-- the first reason against a range that no range before it repeats
abbrev pub new_range_reason : List Window → Window → Option Why
new_range_reason before range = first_reason (
    where_so (nat_le 64 (length before)) TooMany
    ∷ where_so (is_not_page (range.host ∷ range.guest ∷ []) range.size) NotPage
    ∷ where_so (is_too_high (range.host ∷ range.guest ∷ []) range.size) TooHigh
    ∷ where_so (is_too_large range.size) TooLarge
    ∷ []
    )

-- the first reason against a range; one that repeats an earlier range has none, and is not counted
abbrev pub range_reason : List Window → Window → Option Why
range_reason before range = if is_among before range then None else new_range_reason before range

-- a range with its item
pub record Entry : Type 0 where
  pub item : Item
  pub range : Window

-- a range as it is described after these
abbrev pub range_item : List Window → Entry → Described
range_item before entry = described entry.item (range_reason before entry.range) (whats.Range entry.range.host entry.range.size entry.range.guest)

-- ranges in a row, after these
abbrev pub ranges_after : List Window → List Entry → List Described
ranges_after before [] = []
ranges_after before (entry ∷ rest) = range_item before entry ∷ ranges_after (and_range before entry.range) rest

-- the entries of a value: host address, size and guest address; none where it is no whole entries
abbrev pub whole_ranges : ℕ × ℕ → Bytes → List Window
whole_ranges cells value = if is_whole (window_cells cells) value then device_windows cells value else []

-- the ranges of `xen,reg`; none where the cells of the node above are bad
abbrev pub ranges_in : Node → List Window
ranges_in device = option_map_or (λ cells. option_map_or (whole_ranges cells) (property_of device.properties (codes "xen,reg")) []) device.cells []

-- each with its item, counted from a number on
abbrev pub numbered : ℕ → Bytes → ℕ → List Window → List Entry
numbered guest path number [] = []
numbered guest path number (range ∷ rest) = record { item = item_in parts.Range guest path number; range = range } ∷ numbered guest path (number + 1) rest

-- the ranges of a device
abbrev pub entries_of : ℕ → Node → List Entry
entries_of guest device = numbered guest (shown device.path) 0 (ranges_in device)

-- the ranges of all devices
abbrev pub range_items : Tree → ℕ → List Described
range_items partial guest = ranges_after [] (flat_map (entries_of guest) (devices partial))
