-- All items that a tree describes are sound, up to the first one with a reason of its own.
use Rattle.std.proofs.Common.{◌≡◌, refl, ℕ, ◌+◌, ◌^◌, Bool, true, false, List, [], ◌∷◌, ◌++◌, map, All, Option, Some, None}
use Rattle.std.specs.Prelude.{nat_lt, if◌then◌else◌}
use Rattle.std.proofs.lemmas.List.Elements.{All-head, All-tail}
use Rattle.described.specs.declared.item.Described.{Described}
use Rattle.described.specs.declared.item.Item.{Item}
use Rattle.described.specs.declared.item.Part.TheVariants as parts
use Rattle.described.specs.declared.item.What.{What}
use Rattle.described.specs.declared.item.What.TheVariants as whats
use Rattle.texts.specs.declared.ranges.BaseSize.{BaseSize}
use Rattle.described.specs.declared.why.Why.{Why}
use Rattle.described.specs.declared.why.Why.TheVariants.{TooHigh}
use Rattle.described.specs.Reasons.{described}
use Rattle.described.specs.Sound.{AreWholePages, IsSound, SoundUnless}
use Rattle.described.specs.Sound as items
use Rattle.fdt_tree.specs.Tree.{Tree}
use Rattle.fdt_tree.specs.declared.reserve.Reserve.{Reserve}
use Rattle.fdt_nodes.specs.Nodes.{Node, root_of}
use Rattle.fdt_nodes.specs.NodeItems.{item_of}
use Rattle.domain_bindings.specs.Domains.{domain_items, guest_nodes}
use Rattle.domain_bindings.specs.Heads.{head_reason, head_what, is_past_limit}
use Rattle.domain_bindings.specs.Hosts.{host_items, dom0_items, host_reason, memory_reason, reg_of, reserved_reason}
use Rattle.domain_bindings.specs.Modules.{module_item, module_name, module_reason, module_what}
use Rattle.domain_bindings.specs.Statics.{list_reason, static_reason, statics_of}
use Rattle.domain_bindings.proofs.EachItem.{each_of_host, each_of_domain, each_of_dom0}
use Rattle.domain_bindings.proofs.Sound.{static-sound, head-sound}
use Rattle.static_links.specs.Ports.{port_items}
use Rattle.static_links.specs.Shared.{shared_items}
use Rattle.passthrough_dtb.proofs.Soundness.{sound_items}
use Rattle.static_links.proofs.Soundness.{sound_shared, sound_ports}
use Rattle.item_checks.specs.declared.guests.Guest.{Guest}
use Rattle.described.specs.declared.loaded.Loaded.{Loaded}
use Rattle.item_checks.specs.declared.guests.PartialState.TheVariants as states
use Rattle.domain_plan.specs.Arguments.{AreSound}
use Rattle.item_checks.specs.Entries.{Entry, joined, of_host, of_guest, items_of, is_read, load_item, guest_entries, partial_items}
use Rattle.domain_plan.specs.Descriptions.{Description, host_of, domain_of, guest_of, guests_of, guests_from, partial_state, partial_at}

-- what is said of an item, where what follows is weakened
weaker : (own : Option Why) (what : What) (A B : Type 0) → (A → B) → SoundUnless own what A → SoundUnless own what B
weaker None what A B gives both = (both.0, gives both.1)
weaker (Some why) what A B gives both = tt

-- an item that is sound by itself
sound_one : (own : Option Why) (what : What) (A : Type 0) → IsSound what → A → SoundUnless own what A
sound_one None what A sound later = (sound, later)
sound_one (Some why) what A sound later = tt

items_append : (one other : List Described) → items.AreSound one → items.AreSound other → items.AreSound (one ++ other)
items_append [] other sound later = later
items_append (item ∷ one) other sound later = weaker item.own item.what (items.AreSound one) (items.AreSound (one ++ other)) (λ rest. items_append one other rest later) sound

entries_append : (one other : List Entry) → AreSound one → AreSound other → AreSound (one ++ other)
entries_append [] other sound later = later
entries_append (entry ∷ one) other sound later =
    weaker entry.described.own entry.described.what (AreSound one) (AreSound (one ++ other)) (λ rest. entries_append one other rest later) sound

all_sound : (list : List Described) → All (λ (item : Described). IsSound item.what) list → items.AreSound list
all_sound [] all = tt
all_sound (item ∷ rest) all =
    sound_one item.own item.what (items.AreSound rest) (All-head (λ (one : Described). IsSound one.what) item rest all) (all_sound rest (All-tail (λ (one : Described). IsSound one.what) item rest all))

-- what is described is sound where it has no reason
described_sound : (item : Item) (own : Option Why) (what : What) → (own ≡ None → IsSound what) → IsSound (described item own what).what
described_sound item None what says = says refl
described_sound item (Some why) what says = tt

always : {A : Type 0} → A → Unit {0}
always a = tt

-- ---- each kind of item

pub static_pages_whole : (range : BaseSize) → static_reason range ≡ None → AreWholePages range.base range.size
static_pages_whole range none =
    let whole = static-sound range none in
    record { base_whole = whole.base_whole; size_whole = whole.size_whole; some = whole.some; low = whole.low }

host_sound : (root : Tree) (reserves : List Reserve) → items.AreSound (host_items root reserves)
host_sound root reserves =
    all_sound (host_items root reserves) (each_of_host (λ (item : Described). IsSound item.what) root reserves
    (described_sound (item_of parts.Host (root_of root) 0) (host_reason root) whats.Host always)
    (λ total node. described_sound (item_of parts.Memory node 0) (memory_reason total node) (whats.Memory (reg_of node)) always)
    (λ node. described_sound (item_of parts.Reserved node 0) (reserved_reason node) (whats.Reserved (reg_of node)) always)
    (λ k reserve. tt))

module_sound : (before : List Node) (node : Node) → IsSound (module_item before node).what
module_sound before node = described_sound (module_name node) (module_reason before node) (module_what node) always

dom0_sound : (root : Tree) → items.AreSound (dom0_items root)
dom0_sound root = all_sound (dom0_items root) (each_of_dom0 (λ (item : Described). IsSound item.what) root (module_sound []))

domain_sound : (number : ℕ) (node : Node) → items.AreSound (domain_items number node)
domain_sound number node =
    all_sound (domain_items number node) (each_of_domain (λ (item : Described). IsSound item.what) number node
    (described_sound (item_of parts.Head node 0) (head_reason number node) (head_what node) (head-sound number node))
    (described_sound (item_of parts.StaticList node 0) (list_reason node) (whats.StaticList (statics_of node)) always)
    (λ k range. described_sound (item_of parts.Static node k) (static_reason range) (whats.Static range) (static_pages_whole range))
    module_sound)

-- one of two
either_sound : (test : Bool) (one other : Described) (A : Type 0) → SoundUnless one.own one.what A → SoundUnless other.own other.what A
    → SoundUnless (if test then one else other).own (if test then one else other).what A
either_sound true one other A sound sound_too = sound
either_sound false one other A sound sound_too = sound_too

abbrev high_load : Loaded → Described
high_load load = record { item = record { part = parts.Load; path = load.name; index = 0 }; own = Some TooHigh; what = whats.Unread }

abbrev low_load : Loaded → Described
low_load load = record { item = record { part = parts.Load; path = load.name; index = 0 }; own = None; what = whats.Load (record { base = load.address; size = load.size }) }

loads_sound : (loads : List Loaded) → items.AreSound (map load_item loads)
loads_sound [] = tt
loads_sound (load ∷ loads) = either_sound (nat_lt (2 ^ 40) (load.address + load.size)) (high_load load) (low_load load) (items.AreSound (map load_item loads)) tt (tt, loads_sound loads)

-- ---- the items of a guest, and of all

partial_sound : (root : Tree) (number : ℕ) (partial : Option Tree) → items.AreSound (partial_items (partial_state root number partial))
partial_sound root number None = tt
partial_sound root number (Some partial) = sound_items partial root number

-- a guest of which all is read, and one past the sixteenth
abbrev pub full : Tree → ℕ → Node → Option Tree → Guest
full root number node partial = record { domain = domain_of number node; partial = partial_state root number partial; shared = shared_items node; ports = port_items root node }

abbrev pub bare : ℕ → Node → Guest
bare number node = record { domain = domain_of number node; partial = states.Unread; shared = []; ports = [] }

pub guest_sound : (root : Tree) (number : ℕ) (node : Node) (partial : Option Tree) → items.AreSound (items_of (guest_of root number node partial))
guest_sound root number node partial = by (is_past_limit number)
  where
    domain : items.AreSound (domain_items number node)
    domain = domain_sound number node

    by : (past : Bool) → items.AreSound (items_of (if past then bare number node else full root number node partial))
    by true =
        items_append ((domain_items number node ++ []) ++ []) [] (items_append (domain_items number node ++ []) [] (items_append (domain_items number node) [] domain tt) tt) tt
    by false =
        let middle : List Described = partial_items (partial_state root number partial) in
        items_append ((domain_items number node ++ middle) ++ shared_items node) (port_items root node)
        (items_append (domain_items number node ++ middle) (shared_items node) (items_append (domain_items number node) middle domain (partial_sound root number partial)) (sound_shared node))
        (sound_ports root node)

-- items as entries
entries_sound : (guest : Option ℕ) (read : Bool) (list : List Described) → items.AreSound list → AreSound (map (λ (item : Described). record { guest = guest; partial_read = read; described = item }) list)
entries_sound guest read [] sound = tt
entries_sound guest read (item ∷ rest) sound =
    weaker item.own item.what (items.AreSound rest) (AreSound (map (λ (one : Described). record { guest = guest; partial_read = read; described = one }) rest)) (entries_sound guest read rest) sound

guests_sound : (root : Tree) (partials : List (Option Tree)) (number : ℕ) (nodes : List Node) → AreSound (guest_entries number (guests_from root partials number nodes))
guests_sound root partials number [] = tt
guests_sound root partials number (node ∷ nodes) =
    let guest : Guest = guest_of root number node (partial_at partials number) in
    entries_append (of_guest number (is_read guest.partial) (items_of guest)) (guest_entries (number + 1) (guests_from root partials (number + 1) nodes))
    (entries_sound (Some number) (is_read guest.partial) (items_of guest) (guest_sound root number node (partial_at partials number)))
    (guests_sound root partials (number + 1) nodes)

-- all described items
pub all_items_sound : (description : Description) → AreSound (joined (host_of description) description.loads (guests_of description))
unfolding guests_of
all_items_sound description =
    let host : List Entry = of_host (host_items description.root description.reserves) in
    let loads : List Entry = of_host (map load_item description.loads) in
    let modules : List Entry = of_host (dom0_items description.root) in
    entries_append ((host ++ loads) ++ modules) (guest_entries 0 (guests_from description.root description.partials 0 (guest_nodes description.root)))
    (entries_append (host ++ loads) modules
    (entries_append host loads (entries_sound None false (host_items description.root description.reserves) (host_sound description.root description.reserves)) (entries_sound None false (map load_item description.loads) (loads_sound description.loads)))
    (entries_sound None false (dom0_items description.root) (dom0_sound description.root)))
    (guests_sound description.root description.partials 0 (guest_nodes description.root))
