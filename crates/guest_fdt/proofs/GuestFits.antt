-- What the items of a guest say fits the cells and the texts of a tree.
use Rattle.std.proofs.Common.{◌≡◌, ◌∙◌, ap, sym, subst, refl, ℕ, ◌+◌, ◌^◌, ◌<◌, ◌≤◌, Bool, true, false, not, cond, List, [], ◌∷◌, ◌++◌, length, filter, map, All, Option, Some, None, arith}
use Rattle.std.specs.Prelude.{IsTrue, ◌==◌, ◌&&◌, nat_lt, nat_le, is_none, find, unwrap_or, option_and_then, bytes_eq, if◌then◌else◌, codes}
use Rattle.std.specs.Option.{option_map_or}
use Rattle.std.proofs.lemmas.List.Elements.{All-append, All-nil, All-cons, All-head, All-tail}
use Rattle.std.proofs.lemmas.Bool.Decides.{nat_tests}
use Rattle.described.specs.declared.item.Described.{Described}
use Rattle.described.specs.declared.item.Item.{Item}
use Rattle.described.specs.declared.item.Part.TheVariants as parts
use Rattle.described.specs.declared.item.What.{What}
use Rattle.described.specs.declared.item.What.TheVariants as whats
use Rattle.described.specs.declared.why.Why.{Why}
use Rattle.described.specs.declared.why.Why.TheVariants.{TooMany, Missing, BadLength, BadValue}
use Rattle.described.specs.Reasons.{described}
use Rattle.fdt_tree.specs.Tree.{Bytes, Tree, property_of}
use Rattle.fdt_nodes.specs.Nodes.{Node, children, node_found, shown}
use Rattle.fdt_nodes.specs.NodeItems.{item_of}
use Rattle.fdt_nodes.specs.Values.{string_of}
use Rattle.domain_bindings.specs.Domains.{guest_nodes, is_domain, said_cpus}
use Rattle.domain_bindings.specs.Heads.{head_item, head_reason, head_reasons, head_what, cpus_of, memory_of, is_direct_alone, is_past_limit, is_too_large}
use Rattle.domain_bindings.specs.Modules.{module_name, module_reason, module_what}
use Rattle.domain_bindings.specs.Reasons.{is_number}
use Rattle.domain_bindings.specs.Statics.{list_reason, static_reason, statics_of}
use Rattle.domain_bindings.proofs.Sound.{all_none, fails}
use Rattle.passthrough_dtb.specs.Devices.{device_reason}
use Rattle.passthrough_dtb.specs.Whole.{item_in, partial_reason}
use Rattle.passthrough_dtb.specs.Gic.{guest_gic}
use Rattle.passthrough_dtb.specs.Interrupts.{interrupt_reason}
use Rattle.passthrough_dtb.specs.Ranges as ranges
use Rattle.static_links.specs.Channels.{Channel, Ends, are_linked, channels_from, channels_of, channel_of_dom0, dom0, ends_of, event_channel, event_channels, is_other_end, is_port}
use Rattle.static_links.specs.Ports.{lacks_port, link, linked_to, port_item, port_reason, port_what}
use Rattle.static_links.specs.Shared.{children_with, has_binding, is_owner, region, shared_id, shared_item, shared_reason, shared_what}
use Rattle.guest_fdt.specs.Laws.{is_text}
use Rattle.guest_fdt.proofs.GuestItems.{rest_items, each_of_own, each_of_partial, each_of_ports, each_of_rest, each_of_shared}
use Rattle.guest_fdt.proofs.PartialLemmas.{or-false, passed}
use Rattle.guest_fdt.proofs.TextLemmas.{string-is-text}

-- what an item says fits a tree
abbrev pub Fits : What → Type 0
Fits (whats.Head cpus pages spis direct console) = cpus ≤ 128
Fits (whats.Shared id host guest size owner) = IsTrue (is_text id)
Fits (whats.Port port peer peer_port) = (port < 2 ^ 32) × (peer < 2 ^ 32) × (peer_port < 2 ^ 32)
Fits _ = Unit {0}

-- of an item with a reason nothing is said
described_fits : (item : Item) (own : Option Why) (what : What) → (own ≡ None → Fits what) → Fits (described item own what).what
described_fits item None what says = says refl
described_fits item (Some why) what says = tt

always : {A : Type 0} → A → Unit {0}
always a = tt

-- ---- a head

pub head_is_within : (number : ℕ) (node : Node) → head_reason number node ≡ None → is_past_limit number ≡ false
head_is_within number node none = fails (is_past_limit number) _ (all_none (head_reasons number node) none).0

pub head_is_covered : (number : ℕ) (node : Node) → head_reason number node ≡ None → is_direct_alone node ≡ false
head_is_covered number node none = fails (is_direct_alone node) _ (all_none (head_reasons number node) none).1.1.1.1.1.0

few_cpus : (number : ℕ) (node : Node) → head_reason number node ≡ None → unwrap_or (cpus_of node) 0 ≤ 128
few_cpus number node none =
    let large = fails (is_too_large node) _ (all_none (head_reasons number node) none).1.1.1.1.0 in
    by (cpus_of node) (or-false (is_number (λ cpus. nat_lt 128 cpus) (cpus_of node)) (is_number (λ memory. nat_lt 16777216 memory) (memory_of node)) large).0
  where
    by : (cpus : Option ℕ) → is_number (λ c. nat_lt 128 c) cpus ≡ false → unwrap_or cpus 0 ≤ 128
    by None fine = omega arith
    by (Some c) fine = grind (arith, nat_tests)

pub head_fits : (number : ℕ) (node : Node) → Fits (head_item number node).what
head_fits number node = described_fits (item_of parts.Head node 0) (head_reason number node) (head_what node) (few_cpus number node)

pub said_few : (what : What) → Fits what → said_cpus what ≤ 128
said_few (whats.Head cpus pages spis direct console) fits = fits
said_few _ fits = omega arith

-- ---- a shared region

text_fits : (value : Option Bytes) → IsTrue (is_text (unwrap_or (option_and_then string_of value) []))
text_fits None = refl
text_fits (Some value) = by (string_of value) refl
  where
    by : (o : Option Bytes) → string_of value ≡ o → IsTrue (is_text (unwrap_or o []))
    by None is = refl
    by (Some text) is = string-is-text value text is

region_fits : (node : Node) → Fits (shared_what node)
region_fits node =
    by (region node) (λ r. whats.Shared (unwrap_or (shared_id node) []) r.host r.guest r.size (is_owner node)) (λ r. text_fits (property_of node.properties (codes "xen,shm-id")))
  where
    by : {R : Type 0} (found : Option R) (says : R → What) → ((r : R) → Fits (says r)) → Fits (option_map_or says found whats.Unread)
    by None says fits = tt
    by (Some r) says fits = fits r

shared_fits : (number : ℕ) (node : Node) → Fits (shared_item number node).what
shared_fits number node = described_fits (item_of parts.Shared node 0) (shared_reason number node) (shared_what node) (λ none. region_fits node)

-- ---- a port

-- the channel is of dom0, or of a guest whose number is one of 32 bits
abbrev pub IsLow : Channel → Type 0
IsLow channel = channel.guest < 2 ^ 32

low_of_guest : (guest : ℕ) (nodes : List Node) → guest < 2 ^ 32 → All IsLow (map (λ (child : Node). record { node = child; guest = guest }) nodes)
low_of_guest guest [] low = All-nil IsLow
low_of_guest guest (node ∷ nodes) low = All-cons IsLow (record { node = node; guest = guest }) (map (λ (child : Node). record { node = child; guest = guest }) nodes) low (low_of_guest guest nodes low)

channels_low : (guest : ℕ) (nodes : List Node) → guest + length (filter is_domain nodes) < 2 ^ 32 → All IsLow (channels_from guest nodes)
channels_low guest [] few = All-nil IsLow
channels_low guest (node ∷ nodes) few =
    All-append IsLow (channel_of_dom0 node) (if is_domain node then channels_of guest node ++ channels_from (guest + 1) nodes else channels_from guest nodes)
    (of_dom0 (has_binding event_channel node)) (by (is_domain node) few (channels_low (guest + 1) nodes) (channels_low guest nodes))
  where
    of_dom0 : (test : Bool) → All IsLow (if test then record { node = node; guest = dom0 } ∷ [] else [])
    of_dom0 true = All-cons IsLow (record { node = node; guest = dom0 }) [] (omega arith) (All-nil IsLow)
    of_dom0 false = All-nil IsLow

    by : (test : Bool) → guest + length (cond test (node ∷ filter is_domain nodes) (filter is_domain nodes)) < 2 ^ 32 → (guest + 1 + length (filter is_domain nodes) < 2 ^ 32 → All IsLow (channels_from (guest + 1) nodes))
        → (guest + length (filter is_domain nodes) < 2 ^ 32 → All IsLow (channels_from guest nodes)) → All IsLow (if test then channels_of guest node ++ channels_from (guest + 1) nodes else channels_from guest nodes)
    by true few next same = All-append IsLow (channels_of guest node) (channels_from (guest + 1) nodes) (low_of_guest guest (children_with event_channel node) (omega arith)) (next (omega arith))
    by false few next same = same few

-- where there are few guests, the channels are of dom0 or of guests with low numbers
pub channels_are_low : (root : Tree) → length (guest_nodes root) < 2 ^ 32 → All IsLow (event_channels root)
channels_are_low root few = by (node_found root (codes "/chosen")) few
  where
    by : (chosen : Option Node) → length (filter is_domain (option_map_or children chosen [])) < 2 ^ 32 → All IsLow (option_map_or (λ (node : Node). channels_from 0 (children node)) chosen [])
    by None few = All-nil IsLow
    by (Some node) few = channels_low 0 (children node) (omega arith)

-- what is found passes the test, and is as all are
found : {A : Type 0} (P : A → Type 0) (test : A → Bool) (xs : List A) (x : A) → All P xs → find test xs ≡ Some x → P x × (test x ≡ true)
found P test [] x all is = absurd (cc)
found P test (y ∷ ys) x all is = by (test y) refl is (found P test ys x (All-tail P y ys all))
  where
    by : (b : Bool) → test y ≡ b → cond b (Some y) (find test ys) ≡ Some x → (find test ys ≡ Some x → P x × (test x ≡ true)) → P x × (test x ≡ true)
    by true passes same later = let e : y ≡ x = cc in (subst P e (All-head P y ys all), ap test (sym e) ∙ passes)
    by false fails same later = later same

both_true : (a b : Bool) → (a && b) ≡ true → (a ≡ true) × (b ≡ true)
both_true true b is = (refl, is)
both_true false b is = absurd (cc)

not_false : (a : Bool) → not a ≡ false → a ≡ true
not_false true is = refl
not_false false is = absurd (cc)

port_is_low : (port : ℕ) → is_port port ≡ true → port < 2 ^ 32
port_is_low port is =
    let both = both_true (nat_le 1 port) (nat_le port 4095) is in
    let high : nat_le port 4095 ≡ true = both.1 in
    let small : port ≤ 4095 = at_most port high in
    omega arith
  where
    at_most : (n : ℕ) → nat_le n 4095 ≡ true → n ≤ 4095
    at_most n h = grind (arith, nat_tests)

module _ (root : Tree) (low : All IsLow (event_channels root)) where
  linked_fits : (node : Node) (ends : Ends) (channel : Channel) → ends.port < 2 ^ 32 → IsLow channel → is_other_end node ends channel ≡ true → Fits (linked_to ends channel)
  linked_fits node ends channel own peer other = by (ends_of channel.node.properties) (both_true (option_map_or (are_linked ends) (ends_of channel.node.properties) false) (not (bytes_eq channel.node.place node.place)) other).0
    where
      by : (o : Option Ends) → option_map_or (are_linked ends) o false ≡ true → Fits (option_map_or (link ends channel.guest) o whats.Unread)
      by None is = tt
      by (Some far) is = (own, peer, port_is_low far.port (both_true ((far.own == ends.other) && (far.other == ends.own)) (is_port far.port) is).1)

  link_fits : (node : Node) (own : Option Ends) → option_map_or (λ (ends : Ends). not (is_port ends.port)) own false ≡ false
      → Fits (option_map_or (λ (ends : Ends). option_map_or (linked_to ends) (option_and_then (λ (e : Ends). find (is_other_end node e) (event_channels root)) own) whats.Unread) own whats.Unread)
  link_fits node None fine = tt
  link_fits node (Some ends) fine = by (find (is_other_end node ends) (event_channels root)) refl
    where
      by : (o : Option Channel) → find (is_other_end node ends) (event_channels root) ≡ o → Fits (option_map_or (linked_to ends) o whats.Unread)
      by None is = tt
      by (Some channel) is =
          let there = found IsLow (is_other_end node ends) (event_channels root) channel low is in
          linked_fits node ends channel (port_is_low ends.port (not_false (is_port ends.port) fine)) there.0 there.1

  port_fits : (before : List Described) (node : Node) → Fits (port_item root before node).what
  port_fits before node =
      described_fits (item_of parts.Port node 0) (port_reason root before node) (port_what root node)
      (λ none.
      let few = passed TooMany (nat_le 64 (length before)) _ none in
      let there = passed Missing (lacks_port node.properties) _ few.1 in
      let whole = passed BadLength (is_none (ends_of node.properties)) _ there.1 in
      let good = passed BadValue (option_map_or (λ (ends : Ends). not (is_port ends.port)) (ends_of node.properties) false) _ whole.1 in
      link_fits node (ends_of node.properties) good.0)

  -- ---- all items of a guest but its head

  pub rest_fits : (number : ℕ) (node : Node) (partial : Option Tree) → All (λ (item : Described). Fits item.what) (rest_items root number node partial)
  rest_fits number node partial =
      each_of_rest (λ (item : Described). Fits item.what) root number node partial
      (each_of_own (λ (item : Described). Fits item.what) node
      (λ _. described_fits (item_of parts.StaticList node 0) (list_reason node) (whats.StaticList (statics_of node)) always)
      (λ _ k range. described_fits (item_of parts.Static node k) (static_reason range) (whats.Static range) always)
      (λ before one. described_fits (module_name one) (module_reason before one) (module_what one) always))
      (each_of_partial (λ (item : Described). Fits item.what) root number partial
      (λ tree. described_fits (item_in parts.Partial number (codes "/") 0) (partial_reason tree) (whats.Partial (guest_gic tree)) always)
      (λ device. described_fits (item_in parts.Device number (shown device.path) 0) (device_reason root device) whats.Device always)
      (λ before entry. described_fits entry.item (ranges.range_reason before entry.range) (whats.Range entry.range.host entry.range.size entry.range.guest) always)
      (λ guest path held k interrupt. described_fits (item_in parts.Irq guest path k) (interrupt_reason held interrupt) (whats.Irq interrupt.number) always))
      (each_of_shared (λ (item : Described). Fits item.what) node shared_fits)
      (each_of_ports (λ (item : Described). Fits item.what) root node port_fits)
