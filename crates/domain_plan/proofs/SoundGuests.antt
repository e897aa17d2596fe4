-- Where no item has a reason of its own, each guest that a tree describes begins with its head, and has at most 16 GiB of static memory.
use Rattle.std.proofs.Common.{◌≡◌, ◌∙◌, ap, ap₂, sym, refl, ℕ, ◌+◌, ◌*◌, ◌/◌, ◌^◌, ◌≤◌, ◌&&◌, Bool, true, false, List, [], ◌∷◌, ◌++◌, map, All, Option, Some, None, arith}
use Rattle.std.specs.Prelude.{is_none, if◌then◌else◌, unwrap_or, flat_map, codes}
use Rattle.std.specs.Option.{option_map_or}
use Rattle.std.specs.Prelude.{sum_by}
use Rattle.std.proofs.lemmas.List.Elements.{All-nil, All-cons}
use Rattle.std.proofs.lemmas.List.Sums.{sum_by-cons}
use Rattle.described.specs.declared.item.Described.{Described}
use Rattle.described.specs.declared.item.Item.{Item}
use Rattle.described.specs.declared.item.Part.TheVariants as parts
use Rattle.described.specs.declared.item.What.{What}
use Rattle.described.specs.declared.item.What.TheVariants as whats
use Rattle.texts.specs.declared.ranges.BaseSize.{BaseSize}
use Rattle.texts.specs.declared.ranges.FrameRange.{FrameRange}
use Rattle.described.specs.declared.why.Why.{Why}
use Rattle.described.specs.Reasons.{described}
use Rattle.fdt_tree.specs.Tree.{Bytes, Tree}
use Rattle.fdt_nodes.specs.Nodes.{Node, shown}
use Rattle.fdt_nodes.specs.NodeItems.{item_of}
use Rattle.fdt_nodes.specs.declared.entries.Window.{Window}
use Rattle.domain_bindings.specs.Domains.{domain_items, guest_nodes, said_cpus, said_pages, said_spis, said_direct, said_console}
use Rattle.domain_bindings.specs.Heads.{head_item, head_reason, head_what, is_past_limit, is_static}
use Rattle.domain_bindings.specs.Modules.{modules_of, module_item, module_items, module_name, module_reason, module_what}
use Rattle.domain_bindings.specs.Statics.{statics_of, bytes_in, list_item, list_reason, static_item, static_reason, range_items, static_items}
use Rattle.domain_bindings.proofs.Sound.{list-sound, own-described}
use Rattle.passthrough_dtb.specs.declared.interrupts.Interrupt.{Interrupt}
use Rattle.passthrough_dtb.specs.Devices.{devices, device_item, device_reason, host_node, properties_of}
use Rattle.passthrough_dtb.specs.Whole.{item_in, partial_item, partial_reason}
use Rattle.passthrough_dtb.specs.Gic.{guest_gic}
use Rattle.passthrough_dtb.specs.Interrupts.{interrupt_reason, interrupts_from, interrupts_of, irq_items}
use Rattle.passthrough_dtb.specs.Items as partials
use Rattle.passthrough_dtb.specs.Ranges as ranges
use Rattle.static_links.specs.Channels.{Channel, Ends, ends_of, event_channel, other_end}
use Rattle.static_links.specs.Ports.{linked_to, port_item, port_items, port_reason, port_what, ports_after}
use Rattle.static_links.specs.Shared.{children_with, region, is_owner, shared_from, shared_id, shared_item, shared_items, shared_memory, shared_reason, shared_what}
use Rattle.item_checks.specs.declared.guests.Guest.{Guest}
use Rattle.domain_plan.specs.Arguments.{IsSoundGuest, head_of, has_no_fault}
use Rattle.item_checks.specs.Entries.{Entry, joined, of_host, of_guest, items_of, is_read, load_item, guest_entries, partial_items}
use Rattle.item_checks.specs.Taken.{static_pages}
use Rattle.frame_alloc.specs.Ranges.{touched}
use Rattle.domain_plan.proofs.MapLemmas.{touched_whole}
use Rattle.domain_plan.specs.Descriptions.{Description, host_of, domain_of, guest_of, guests_of, guests_from, partial_state, partial_at}
use Rattle.domain_plan.proofs.Sound.{static_pages_whole, full, bare}

-- ---- no item has a reason of its own

both_true : (a b : Bool) → (a && b) ≡ true → (a ≡ true) × (b ≡ true)
both_true true b is = (refl, is)
both_true false b is = absurd (cc)

no_reason : (own : Option Why) → is_none own ≡ true → own ≡ None
no_reason None is = refl
no_reason (Some why) is = absurd (cc)

abbrev AreFree : List Described → Type 0
AreFree [] = Unit {0}
AreFree (item ∷ items) = (item.own ≡ None) × AreFree items

clear_later : (one other : List Entry) → has_no_fault (one ++ other) ≡ true → has_no_fault other ≡ true
clear_later [] other clear = clear
clear_later (entry ∷ one) other clear = clear_later one other (both_true (is_none entry.described.own) (has_no_fault (one ++ other)) clear).1

clear_before : (one other : List Entry) → has_no_fault (one ++ other) ≡ true → has_no_fault one ≡ true
clear_before [] other clear = refl
clear_before (entry ∷ one) other clear =
    let both = both_true (is_none entry.described.own) (has_no_fault (one ++ other)) clear in
    ap₂ (λ (a b : Bool). a && b) both.0 (clear_before one other both.1)

free_items : (number : ℕ) (read : Bool) (items : List Described) → has_no_fault (of_guest number read items) ≡ true → AreFree items
free_items number read [] clear = tt
free_items number read (item ∷ items) clear =
    let both = both_true (is_none item.own) (has_no_fault (of_guest number read items)) clear in
    (no_reason item.own both.0, free_items number read items both.1)

-- ---- static memory

-- how many pages of static memory items describe
abbrev pages_in : List Described → ℕ
pages_in items = sum_by static_pages (map (λ (item : Described). item.what) items)

pages_cons : (item : Described) (items : List Described) → pages_in (item ∷ items) ≡ static_pages item.what + pages_in items
pages_cons item items = sum_by-cons static_pages item.what (map (λ (one : Described). one.what) items)

pages_append : (one other : List Described) → pages_in (one ++ other) ≡ pages_in one + pages_in other
pages_append [] other = let none : pages_in [] ≡ 0 = refl in omega arith
pages_append (item ∷ one) other =
    let later = pages_append one other in
    let whole = pages_cons item (one ++ other) in
    let first = pages_cons item one in
    omega arith

-- an item that is no static range
no_pages : (item : Item) (own : Option Why) (what : What) → static_pages what ≡ 0 → static_pages (described item own what).what ≡ 0
no_pages item None what none = none
no_pages item (Some why) what none = refl

none_more : (item : Described) (items : List Described) → static_pages item.what ≡ 0 → pages_in items ≡ 0 → pages_in (item ∷ items) ≡ 0
none_more item items here later = let sum = pages_cons item items in omega arith

none_append : (one other : List Described) → pages_in one ≡ 0 → pages_in other ≡ 0 → pages_in (one ++ other) ≡ 0
none_append one other here later = let both = pages_append one other in omega arith

modules_none : (earlier nodes : List Node) → pages_in (module_items earlier nodes) ≡ 0
modules_none earlier [] = refl
modules_none earlier (node ∷ nodes) =
    none_more (module_item earlier node) (module_items (earlier ++ node ∷ []) nodes) (no_pages (module_name node) (module_reason earlier node) (module_what node) refl) (modules_none (earlier ++ node ∷ []) nodes)

-- a static range has no more pages than its bytes fill
static_few : (node : Node) (k : ℕ) (range : BaseSize) → static_pages (static_item node k range).what * 4096 ≤ range.size
static_few node k range = by (static_reason range) refl
  where
    by : (own : Option Why) → static_reason range ≡ own → static_pages (described (item_of parts.Static node k) own (whats.Static range)).what * 4096 ≤ range.size
    by None none =
        let count : (touched range).count ≡ range.size / 4096 = ap (λ (frames : FrameRange). frames.count) (touched_whole range.base range.size (static_pages_whole range none)) in
        omega arith
    by (Some why) some = omega arith

ranges_few : (node : Node) (k : ℕ) (ranges : List BaseSize) → pages_in (range_items node k ranges) * 4096 ≤ bytes_in ranges
ranges_few node k [] = omega arith
ranges_few node k (range ∷ ranges) =
    let first = static_few node k range in
    let later = ranges_few node (k + 1) ranges in
    let pages = pages_cons (static_item node k range) (range_items node (k + 1) ranges) in
    let bytes : bytes_in (range ∷ ranges) ≡ range.size + bytes_in ranges = sum_by-cons (λ (one : BaseSize). one.size) range ranges in
    omega arith

statics_few : (node : Node) → AreFree (static_items node) → pages_in (static_items node) ≤ 2 ^ 22
statics_few node free = by (is_static node) refl free
  where
    by : (static : Bool) → is_static node ≡ static → AreFree (if static then list_item node ∷ range_items node 0 (statics_of node) else [])
        → pages_in (if static then list_item node ∷ range_items node 0 (statics_of node) else []) ≤ 2 ^ 22
    by true is free_too =
        let none : list_reason node ≡ None = sym (own-described (item_of parts.StaticList node 0) (list_reason node) (whats.StaticList (statics_of node))) ∙ free_too.0 in
        let bytes : bytes_in (statics_of node) ≤ 2 ^ 34 = (list-sound node none).2 in
        let few = ranges_few node 0 (statics_of node) in
        let head : static_pages (list_item node).what ≡ 0 = no_pages (item_of parts.StaticList node 0) (list_reason node) (whats.StaticList (statics_of node)) refl in
        let sum = pages_cons (list_item node) (range_items node 0 (statics_of node)) in
        omega arith
    by false is free_too = omega arith

-- the other items describe none
devices_none : (host : Tree) (number : ℕ) (nodes : List Node) → pages_in (map (device_item host number) nodes) ≡ 0
devices_none host number [] = refl
devices_none host number (node ∷ nodes) = none_more (device_item host number node) (map (device_item host number) nodes) (no_pages (item_in parts.Device number (shown node.path) 0) (device_reason host node) whats.Device refl) (devices_none host number nodes)

ranges_none : (before : List Window) (entries : List ranges.Entry) → pages_in (ranges.ranges_after before entries) ≡ 0
ranges_none before [] = refl
ranges_none before (entry ∷ rest) =
    none_more (ranges.range_item before entry) (ranges.ranges_after (ranges.and_range before entry.range) rest) (no_pages entry.item (ranges.range_reason before entry.range) (whats.Range entry.range.host entry.range.size entry.range.guest) refl) (ranges_none (ranges.and_range before entry.range) rest)

interrupts_none : (number : ℕ) (path : Bytes) (held : List Interrupt) (k : ℕ) (interrupts : List Interrupt) → pages_in (interrupts_from number path held k interrupts) ≡ 0
interrupts_none number path held k [] = refl
interrupts_none number path held k (interrupt ∷ rest) =
    none_more (described (item_in parts.Irq number path k) (interrupt_reason held interrupt) (whats.Irq interrupt.number)) (interrupts_from number path held (k + 1) rest) (no_pages (item_in parts.Irq number path k) (interrupt_reason held interrupt) (whats.Irq interrupt.number) refl) (interrupts_none number path held (k + 1) rest)

irqs_none : (host : Tree) (number : ℕ) (nodes : List Node) → pages_in (flat_map (irq_items host number) nodes) ≡ 0
irqs_none host number [] = refl
irqs_none host number (node ∷ nodes) =
    none_append (irq_items host number node) (flat_map (irq_items host number) nodes)
    (interrupts_none number (shown node.path) (interrupts_of (properties_of (host_node host node.properties))) 0 (interrupts_of node.properties)) (irqs_none host number nodes)

read_none : (partial host : Tree) (number : ℕ) → pages_in (partials.partial_items partial host number) ≡ 0
unfolding partials.partial_items
read_none partial host number =
    let nodes : List Node = devices partial in
    none_append ((partial_item partial number ∷ map (device_item host number) nodes) ++ ranges.range_items partial number) (flat_map (irq_items host number) nodes)
    (none_append (partial_item partial number ∷ map (device_item host number) nodes) (ranges.range_items partial number)
    (none_more (partial_item partial number) (map (device_item host number) nodes) (no_pages (item_in parts.Partial number (codes "/") 0) (partial_reason partial) (whats.Partial (guest_gic partial)) refl) (devices_none host number nodes)) (ranges_none [] (flat_map (ranges.entries_of number) nodes)))
    (irqs_none host number nodes)

partial_none : (root : Tree) (number : ℕ) (partial : Option Tree) → pages_in (partial_items (partial_state root number partial)) ≡ 0
partial_none root number None = refl
partial_none root number (Some partial) = read_none partial root number

regions_none : (number : ℕ) (nodes : List Node) → pages_in (shared_from number nodes) ≡ 0
regions_none number [] = refl
regions_none number (node ∷ nodes) = none_more (shared_item number node) (shared_from (number + 1) nodes) (no_pages (item_of parts.Shared node 0) (shared_reason number node) (shared_what node) (by (region node) (λ r. whats.Shared (unwrap_or (shared_id node) []) r.host r.guest r.size (is_owner node)) (λ r. refl))) (regions_none (number + 1) nodes)
  where
    by : {R : Type 0} (found : Option R) (says : R → What) → ((r : R) → static_pages (says r) ≡ 0) → static_pages (option_map_or says found whats.Unread) ≡ 0
    by None says none = refl
    by (Some r) says none = none r

shared_none : (node : Node) → pages_in (shared_items node) ≡ 0
unfolding shared_items
shared_none node = regions_none 0 (children_with shared_memory node)

links_none : (host : Tree) (before : List Described) (nodes : List Node) → pages_in (ports_after host before nodes) ≡ 0
links_none host before [] = refl
links_none host before (node ∷ nodes) =
    none_more (port_item host before node) (ports_after host (before ++ port_item host before node ∷ []) nodes) (no_pages (item_of parts.Port node 0) (port_reason host before node) (port_what host node) (by (ends_of node.properties) (other_end host node)))
    (links_none host (before ++ port_item host before node ∷ []) nodes)
  where
    linked : (ends : Ends) (channel : Channel) (other : Option Ends) → static_pages (option_map_or (λ (o : Ends). whats.Port ends.port channel.guest o.port) other whats.Unread) ≡ 0
    linked ends channel None = refl
    linked ends channel (Some other) = refl

    by : (own : Option Ends) (found : Option Channel) → static_pages (option_map_or (λ (ends : Ends). option_map_or (linked_to ends) found whats.Unread) own whats.Unread) ≡ 0
    by None found = refl
    by (Some ends) None = refl
    by (Some ends) (Some channel) = linked ends channel (ends_of channel.node.properties)

ports_none : (host : Tree) (node : Node) → pages_in (port_items host node) ≡ 0
unfolding port_items
ports_none host node = links_none host [] (children_with event_channel node)

-- ---- a guest

free_before : (one other : List Described) → AreFree (one ++ other) → AreFree one
free_before [] other free = tt
free_before (item ∷ one) other free = (free.0, free_before one other free.1)

domain_few : (number : ℕ) (node : Node) → AreFree (domain_items number node) → pages_in (domain_items number node) ≤ 2 ^ 22
domain_few number node free =
    let statics : pages_in (static_items node) ≤ 2 ^ 22 = statics_few node (free_before (static_items node) (module_items [] (modules_of node)) free.1) in
    let modules : pages_in (module_items [] (modules_of node)) ≡ 0 = modules_none [] (modules_of node) in
    let both = pages_append (static_items node) (module_items [] (modules_of node)) in
    let head : static_pages (head_item number node).what ≡ 0 = no_pages (item_of parts.Head node 0) (head_reason number node) (head_what node) refl in
    let sum = pages_cons (head_item number node) (static_items node ++ module_items [] (modules_of node)) in
    omega arith

-- a head without a reason says what the guest's numbers are
head_says : (item : Item) (own : Option Why) (node : Node) → own ≡ None →
    (described item own (head_what node)).what ≡ whats.Head (said_cpus (described item own (head_what node)).what) (said_pages (described item own (head_what node)).what) (said_spis (described item own (head_what node)).what)
    (said_direct (described item own (head_what node)).what) (said_console (described item own (head_what node)).what)
head_says item None node none = refl
head_says item (Some why) node none = absurd (cc)

guest_is_sound : (root : Tree) (number : ℕ) (node : Node) (partial : Option Tree) → AreFree (items_of (guest_of root number node partial)) → IsSoundGuest (guest_of root number node partial)
guest_is_sound root number node partial free = by (is_past_limit number) free
  where
    says : (head_item number node).own ≡ None → (head_item number node).what ≡ head_of (domain_of number node)
    says none = head_says (item_of parts.Head node 0) (head_reason number node) node (sym (own-described (item_of parts.Head node 0) (head_reason number node) (head_what node)) ∙ none)

    few : (middle shared ports : List Described) → pages_in middle ≡ 0 → pages_in shared ≡ 0 → pages_in ports ≡ 0 → AreFree (((domain_items number node ++ middle) ++ shared) ++ ports)
        → pages_in (((domain_items number node ++ middle) ++ shared) ++ ports) ≤ 2 ^ 22
    few middle shared ports none none_too none_three free_all =
        let own = free_before (domain_items number node) middle (free_before (domain_items number node ++ middle) shared (free_before ((domain_items number node ++ middle) ++ shared) ports free_all)) in
        let domain : pages_in (domain_items number node) ≤ 2 ^ 22 = domain_few number node own in
        let one = pages_append (domain_items number node) middle in
        let two = pages_append (domain_items number node ++ middle) shared in
        let three = pages_append ((domain_items number node ++ middle) ++ shared) ports in
        omega arith

    by : (past : Bool) → AreFree (items_of (if past then bare number node else full root number node partial)) → IsSoundGuest (if past then bare number node else full root number node partial)
    by true all = record { head = ap Some (says all.0); statics = few [] [] [] refl refl refl all }
    by false all = record {
      head = ap Some (says all.0);
      statics = few (partial_items (partial_state root number partial)) (shared_items node) (port_items root node) (partial_none root number partial) (shared_none node) (ports_none root node) all;
    }

guests_are_sound : (root : Tree) (partials : List (Option Tree)) (number : ℕ) (nodes : List Node) → has_no_fault (guest_entries number (guests_from root partials number nodes)) ≡ true
    → All IsSoundGuest (guests_from root partials number nodes)
guests_are_sound root partials number [] clear = All-nil IsSoundGuest
guests_are_sound root partials number (node ∷ nodes) clear =
    let guest : Guest = guest_of root number node (partial_at partials number) in
    let own : List Entry = of_guest number (is_read guest.partial) (items_of guest) in
    let others : List Entry = guest_entries (number + 1) (guests_from root partials (number + 1) nodes) in
    All-cons IsSoundGuest guest (guests_from root partials (number + 1) nodes)
    (guest_is_sound root number node (partial_at partials number) (free_items number (is_read guest.partial) (items_of guest) (clear_before own others clear)))
    (guests_are_sound root partials (number + 1) nodes (clear_later own others clear))

pub all_guests_sound : (description : Description) → has_no_fault (joined (host_of description) description.loads (guests_of description)) ≡ true → All IsSoundGuest (guests_of description)
unfolding guests_of
all_guests_sound description clear =
    guests_are_sound description.root description.partials 0 (guest_nodes description.root)
    (clear_later ((of_host (host_of description).items ++ of_host (map load_item description.loads)) ++ of_host (host_of description).modules) (guest_entries 0 (guests_from description.root description.partials 0 (guest_nodes description.root))) clear)
