-- The items of the host: its memory, what is reserved, and the modules of dom0.
use Rattle.std.specs.Prelude.{ℕ, ◌+◌, ◌^◌, ◌==◌, nat_lt, not, is_some, Bool, List, [], ◌∷◌, ◌++◌, length, map, filter, flat_map, codes, Option, None}
use Rattle.std.specs.Option.{option_map_or}
use Rattle.described.specs.declared.item.Part.TheVariants as parts
use Rattle.described.specs.declared.item.Described.{Described}
use Rattle.described.specs.declared.item.What.TheVariants as whats
use Rattle.texts.specs.declared.ranges.BaseSize.{BaseSize}
use Rattle.described.specs.declared.why.Why.{Why}
use Rattle.described.specs.declared.why.Why.TheVariants as whys
use Rattle.fdt_tree.specs.Tree.{Tree, property_of}
use Rattle.fdt_tree.specs.Phandles.{first_repeated, phandles_in}
use Rattle.fdt_tree.specs.declared.reserve.Reserve.{Reserve}
use Rattle.fdt_nodes.specs.Nodes.{Node, root_of, children, node_found}
use Rattle.fdt_nodes.specs.Values.{has, is_memory, passes}
use Rattle.fdt_nodes.specs.Entries.{is_whole, region_cells}
use Rattle.described.specs.Reasons.{where_so, first_reason, described}
use Rattle.fdt_nodes.specs.NodeItems.{item_of}
use Rattle.domain_bindings.specs.Modules.{is_module, has_bad_cells, has_no_reg, host_module_items}
use Rattle.domain_bindings.specs.Statics.{regions_of, bytes_in}
use Rattle.domain_bindings.specs.Domains.{chosen_children}

-- the host's memory (Devicetree Specification 0.4, 3.4)
abbrev pub is_host_memory : Node → Bool
is_host_memory node = is_memory node.properties

-- its nodes, in order
abbrev pub memory_nodes : Tree → List Node
memory_nodes whole = filter is_host_memory (children (root_of whole))

-- two nodes have one phandle (2.3.3)
abbrev pub have_one_phandle : Tree → Bool
have_one_phandle whole = is_some (first_repeated [] (phandles_in whole))

-- the reasons of the host, in order: Missing without memory, PhandleClash where two nodes have one phandle
abbrev pub host_reasons : Tree → List (Option Why)
host_reasons whole = where_so (length (memory_nodes whole) == 0) whys.Missing ∷ where_so (have_one_phandle whole) whys.PhandleClash ∷ []

-- the first of them that applies
abbrev pub host_reason : Tree → Option Why
host_reason whole = first_reason (host_reasons whole)

-- the host itself
abbrev pub host_item : Tree → Described
host_item whole = described (item_of parts.Host (root_of whole) 0) (host_reason whole) whats.Host

-- the ranges of `reg` (2.3.6)
abbrev pub reg_of : Node → List BaseSize
reg_of node = regions_of node.cells (property_of node.properties (codes "reg"))

-- BadLength: `reg` does not divide into entries
abbrev pub is_uneven : ℕ × ℕ → Node → Bool
is_uneven cells node = passes (λ value. not (is_whole (region_cells cells) value)) (property_of node.properties (codes "reg"))

-- its `reg` is no whole entries
abbrev pub has_uneven_reg : Node → Bool
has_uneven_reg node = option_map_or (λ cells. is_uneven cells node) node.cells Bool.false

-- TooLarge: these ranges and as many bytes before them pass 64 GiB
abbrev pub pass_host_limit : ℕ → Node → Bool
pass_host_limit before node = nat_lt (2 ^ 36) (before + bytes_in (reg_of node))

-- the reasons of memory after so many bytes of other memory, in order
abbrev pub memory_reasons : ℕ → Node → List (Option Why)
memory_reasons before node =
    where_so (has_no_reg node) whys.Missing
    ∷ where_so (has_bad_cells node) whys.BadValue
    ∷ where_so (has_uneven_reg node) whys.BadLength
    ∷ where_so (pass_host_limit before node) whys.TooLarge ∷ []

-- the first of them that applies
abbrev pub memory_reason : ℕ → Node → Option Why
memory_reason before node = first_reason (memory_reasons before node)

-- memory after so many bytes of other memory
abbrev pub memory_item : ℕ → Node → Described
memory_item before node = described (item_of parts.Memory node 0) (memory_reason before node) (whats.Memory (reg_of node))

-- the host's memory
abbrev pub memory_items : ℕ → List Node → List Described
memory_items before [] = []
memory_items before (node ∷ nodes) = memory_item before node ∷ memory_items (before + bytes_in (reg_of node)) nodes

-- a reserved region that says where it lies (3.5)
abbrev pub is_reserved : Node → Bool
is_reserved node = has node.properties (codes "reg")

-- the reserved regions, in order
abbrev pub reserved_nodes : Tree → List Node
reserved_nodes whole = filter is_reserved (option_map_or children (node_found whole (codes "/reserved-memory")) [])

-- the reasons of a reserved region, in order
abbrev pub reserved_reasons : Node → List (Option Why)
reserved_reasons node = where_so (has_bad_cells node) whys.BadValue ∷ where_so (has_uneven_reg node) whys.BadLength ∷ []

-- the first of them that applies
abbrev pub reserved_reason : Node → Option Why
reserved_reason node = first_reason (reserved_reasons node)

-- a reserved region
abbrev pub reserved_item : Node → Described
reserved_item node = described (item_of parts.Reserved node 0) (reserved_reason node) (whats.Reserved (reg_of node))

-- the reservation with this number (5.3)
abbrev pub reserve_item : ℕ → Reserve → Described
reserve_item number reserve = record {
  item = record { part = parts.Reserve; path = []; index = number };
  own = None;
  what = whats.Reserve (record { base = reserve.address; size = reserve.size });
}

-- reservations, from a number on
abbrev pub reserve_items : ℕ → List Reserve → List Described
reserve_items number [] = []
reserve_items number (reserve ∷ reserves) = reserve_item number reserve ∷ reserve_items (number + 1) reserves

-- the host's memory and what is reserved, in order
abbrev pub items_behind : Tree → List Reserve → List Described
items_behind whole reserves = memory_items 0 (memory_nodes whole) ++ map reserved_item (reserved_nodes whole) ++ reserve_items 0 reserves

-- all items of the host, in order: the host itself, and these
abbrev pub host_items : Tree → List Reserve → List Described
host_items whole reserves = host_item whole ∷ items_behind whole reserves

-- the modules of dom0, in order
abbrev pub dom0_items : Tree → List Described
dom0_items whole = host_module_items (filter is_module (chosen_children whole))

-- the ranges of all memory that has some
abbrev pub ram_regions : Tree → List BaseSize
ram_regions whole = flat_map reg_of (memory_nodes whole)
