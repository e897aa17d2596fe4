-- The static memory of a guest: a list of host ranges (Xen, docs/misc/arm/device-tree/booting.txt, static memory).
use Rattle.std.specs.Prelude.{ℕ, ◌+◌, ◌*◌, ◌^◌, ◌==◌, nat_lt, not, Bool, if◌then◌else◌, List, [], ◌∷◌, length, sum_by, codes, Option, option_map, option_and_then}
use Rattle.std.specs.Option.{is_none, option_map_or}
use Rattle.described.specs.declared.item.Part.TheVariants as parts
use Rattle.described.specs.declared.item.Described.{Described}
use Rattle.described.specs.declared.item.What.TheVariants as whats
use Rattle.texts.specs.declared.ranges.BaseSize.{BaseSize}
use Rattle.described.specs.declared.why.Why.{Why}
use Rattle.described.specs.declared.why.Why.TheVariants as whys
use Rattle.fdt_tree.specs.Tree.{Bytes, property_of}
use Rattle.fdt_tree.specs.Values.{cells_in}
use Rattle.fdt_nodes.specs.Nodes.{Node}
use Rattle.fdt_nodes.specs.Entries.{is_whole, region_cells, regions}
use Rattle.described.specs.Reasons.{where_so, first_reason, described}
use Rattle.fdt_nodes.specs.NodeItems.{item_of}
use Rattle.domain_bindings.specs.Reasons.{is_number, is_not_pages, is_too_high}
use Rattle.domain_bindings.specs.Heads.{memory_of, is_static}

-- the cells of an address and of a size in `xen,static-mem`: each 2 where the node does not say
abbrev pub static_cells : Node → Option (ℕ × ℕ)
static_cells node =
    option_and_then (λ address. option_map (λ size. (address, size)) (cells_in (property_of node.properties (codes "#xen,static-mem-size-cells")) 2))
    (cells_in (property_of node.properties (codes "#xen,static-mem-address-cells")) 2)

-- the entries of a list of ranges, where it divides into entries
abbrev pub whole_regions : ℕ × ℕ → Bytes → List BaseSize
whole_regions cells value = if is_whole (region_cells cells) value then regions cells value else []

-- the entries of a property that is a list of ranges, where its cells are good and it divides into entries
abbrev pub regions_of : Option (ℕ × ℕ) → Option Bytes → List BaseSize
regions_of cells value = option_map_or (λ pair. option_map_or (whole_regions pair) value []) cells []

-- the ranges of `xen,static-mem`
abbrev pub statics_of : Node → List BaseSize
statics_of node = regions_of (static_cells node) (property_of node.properties (codes "xen,static-mem"))

-- how many bytes ranges have together
abbrev pub bytes_in : List BaseSize → ℕ
bytes_in ranges = sum_by (λ (range : BaseSize). range.size) ranges

-- The reasons of a list of static ranges: BadValue where its cells are bad, BadLength where it has no entry or does not divide into entries.

-- TooMany: more than 64 ranges
abbrev pub are_too_many : Node → Bool
are_too_many node = nat_lt 64 (length (statics_of node))

-- TooLarge: more than 16 GiB
abbrev pub are_too_large : Node → Bool
are_too_large node = nat_lt (2 ^ 34) (bytes_in (statics_of node))

-- MemorySum: `memory` has eight bytes and says something else than the ranges
abbrev pub is_other_sum : Node → Bool
is_other_sum node = is_number (λ memory. not (1024 * memory == bytes_in (statics_of node))) (memory_of node)

-- the reasons of a list of static ranges, in order
abbrev pub list_reasons : Node → List (Option Why)
list_reasons node =
    where_so (is_none (static_cells node)) whys.BadValue
    ∷ where_so (length (statics_of node) == 0) whys.BadLength
    ∷ where_so (are_too_many node) whys.TooMany
    ∷ where_so (are_too_large node) whys.TooLarge
    ∷ where_so (is_other_sum node) whys.MemorySum ∷ []

-- the first of them that applies
abbrev pub list_reason : Node → Option Why
list_reason node = first_reason (list_reasons node)

-- the item of a list of static ranges
abbrev pub list_item : Node → Described
list_item node = described (item_of parts.StaticList node 0) (list_reason node) (whats.StaticList (statics_of node))

-- the reasons of a static range, in order
abbrev pub static_reasons : BaseSize → List (Option Why)
static_reasons range = where_so (is_not_pages range) whys.NotPage ∷ where_so (is_too_high range) whys.TooHigh ∷ []

-- the first of them that applies
abbrev pub static_reason : BaseSize → Option Why
static_reason range = first_reason (static_reasons range)

-- the item of the static range with this number
abbrev pub static_item : Node → ℕ → BaseSize → Described
static_item node number range = described (item_of parts.Static node number) (static_reason range) (whats.Static range)

-- static ranges, from a number on
abbrev pub range_items : Node → ℕ → List BaseSize → List Described
range_items node number [] = []
range_items node number (range ∷ ranges) = static_item node number range ∷ range_items node (number + 1) ranges

-- the items of a guest's static memory, if it has some
abbrev pub static_items : Node → List Described
static_items node = if is_static node then list_item node ∷ range_items node 0 (statics_of node) else []
