-- The regions of memory that a domain shares with others.
use Rattle.std.specs.Prelude.{ℕ, ◌+◌, ◌==◌, ◌*◌, ◌&&◌, ◌||◌, not, nat_le, Bool, false, List, [], ◌∷◌, ◌++◌, length, filter, codes, is_none, Option, Some, None, option_and_then, unwrap_or, if◌then◌else◌}
use Rattle.std.specs.Option.{option_map_or}
use Rattle.described.specs.declared.item.Described.{Described}
use Rattle.texts.specs.declared.ranges.BaseSize.{BaseSize}
use Rattle.described.specs.declared.item.Part.TheVariants as parts
use Rattle.described.specs.declared.item.What.{What}
use Rattle.described.specs.declared.item.What.TheVariants as whats
use Rattle.described.specs.declared.why.Why.{Why}
use Rattle.described.specs.declared.why.Why.TheVariants.{TooMany, Missing, BadValue, BadLength, NotPage, TooHigh, TooLarge}
use Rattle.fdt_tree.specs.Tree.{Bytes, property_of}
use Rattle.fdt_nodes.specs.declared.entries.Window.{Window}
use Rattle.fdt_nodes.specs.Nodes.{Node, children}
use Rattle.fdt_nodes.specs.Values.{has, is_value, is_compatible, string_in}
use Rattle.fdt_nodes.specs.Entries.{window_cells, shared_window, region_cells, region as entry_region}
use Rattle.static_links.specs.declared.shared.SharedRegion.{SharedRegion}
use Rattle.described.specs.Reasons.{where_so, first_reason, described, is_not_page, is_too_high, is_too_large}
use Rattle.fdt_nodes.specs.NodeItems.{item_of}

-- the node has a binding (2.3.1)
abbrev pub has_binding : Bytes → Node → Bool
has_binding binding node = is_compatible node.properties binding

-- the children of a node that have a binding, in order
abbrev pub children_with : Bytes → Node → List Node
children_with binding node = filter (has_binding binding) (children node)

-- the full form of a region: a host address, a guest address and a size
abbrev pub full_region : ℕ × ℕ → Bytes → SharedRegion
full_region cells value =
    let window : Window = shared_window cells value in record { host = Some window.host; guest = window.guest; size = window.size }

-- the short form: a guest address and a size
abbrev pub short_region : ℕ × ℕ → Bytes → SharedRegion
short_region cells value = let entry : BaseSize = entry_region cells value in record { host = None; guest = entry.base; size = entry.size }

-- the region of a value, if it is one entry in these cells, in the form that its length tells
abbrev pub region_in : ℕ × ℕ → Bytes → Option SharedRegion
region_in cells value =
    if length value == 4 * window_cells cells then Some (full_region cells value)
    else if length value == 4 * region_cells cells then Some (short_region cells value)
    else None

-- the addresses that a region has
abbrev pub addresses : SharedRegion → List ℕ
addresses region = elim region.host as (λ _. List ℕ) [ None ↦ region.guest ∷ [] | Some host ↦ host ∷ region.guest ∷ [] ]

-- the region of a node
abbrev pub region : Node → Option SharedRegion
region node = option_and_then (λ cells. option_and_then (region_in cells) (property_of node.properties (codes "xen,shared-mem"))) node.cells

-- a fact of the region, if there is one
abbrev pub of_region : (SharedRegion → Bool) → Node → Bool
of_region test node = option_map_or test (region node) false

-- its id: the text of one string
abbrev pub shared_id : Node → Option Bytes
shared_id node = string_in node.properties (codes "xen,shm-id")

-- an id has 1 to 15 bytes
abbrev pub is_id : Bytes → Bool
is_id text = nat_le 1 (length text) && nat_le (length text) 15

-- the node has an id
abbrev pub has_id : Node → Bool
has_id node = option_map_or is_id (shared_id node) false

-- the domain owns the region
abbrev pub is_owner : Node → Bool
is_owner node = is_value node.properties (codes "role") (codes "owner" ++ 0 ∷ [])

-- it owns or borrows it; it borrows it where nothing is said
abbrev pub has_role : Node → Bool
has_role node = not (has node.properties (codes "role")) || is_owner node || is_value node.properties (codes "role") (codes "borrower" ++ 0 ∷ [])

-- an id or a region is not there
abbrev pub lacks_region : Node → Bool
lacks_region node = not (has node.properties (codes "xen,shm-id")) || not (has node.properties (codes "xen,shared-mem"))

-- the domain's cells, the id or the role are bad
abbrev pub has_bad_value : Node → Bool
has_bad_value node = is_none node.cells || not (has_id node) || not (has_role node)

-- the first reason against the shared memory node of this number among those of its domain, counted from 0
abbrev pub shared_reason : ℕ → Node → Option Why
shared_reason number node = first_reason (
    where_so (nat_le 16 number) TooMany
    ∷ where_so (lacks_region node) Missing
    ∷ where_so (has_bad_value node) BadValue
    ∷ where_so (is_none (region node)) BadLength
    ∷ where_so (of_region (λ r. is_not_page (addresses r) r.size) node) NotPage
    ∷ where_so (of_region (λ r. is_too_high (addresses r) r.size) node) TooHigh
    ∷ where_so (of_region (λ r. is_too_large r.size) node) TooLarge
    ∷ []
    )

-- what it describes
abbrev pub shared_what : Node → What
shared_what node = option_map_or (λ r. whats.Shared (unwrap_or (shared_id node) []) r.host r.guest r.size (is_owner node)) (region node) whats.Unread

-- the item of the shared memory node of this number
abbrev pub shared_item : ℕ → Node → Described
shared_item number node = described (item_of parts.Shared node 0) (shared_reason number node) (shared_what node)

-- nodes in a row, counted from a number on
abbrev pub shared_from : ℕ → List Node → List Described
shared_from number [] = []
shared_from number (node ∷ nodes) = shared_item number node ∷ shared_from (number + 1) nodes

-- the binding of shared memory
abbrev pub shared_memory : Bytes
shared_memory = codes "xen,domain-shared-memory-v1"

-- the shared memory nodes of a domain
unfoldable pub shared_items : Node → List Described
shared_items domain = shared_from 0 (children_with shared_memory domain)
