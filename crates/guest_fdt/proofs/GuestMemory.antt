-- The memory that the plan of a guest lists is what its map gives it as its own.
use Rattle.std.proofs.Common.{◌≡◌, ◌∙◌, ap, subst, refl, ℕ, ◌/◌, ◌<◌, Bool, true, false, not, List, [], ◌∷◌, All, Option, Some, None, arith}
use Rattle.std.specs.Prelude.{◌&&◌, ◌||◌, sum_by, unwrap_or, if◌then◌else◌, codes}
use Rattle.std.specs.Option.{option_map_or}
use Rattle.std.specs.List.{list_any}
use Rattle.std.proofs.lemmas.List.Elements.{All-head, All-tail}
use Rattle.std.proofs.lemmas.List.Sums.{sum_by-cons}
use Rattle.described.specs.declared.item.Described.{Described}
use Rattle.described.specs.declared.item.Item.{Item}
use Rattle.described.specs.declared.item.ModuleKind.{ModuleKind}
use Rattle.described.specs.declared.item.Part.TheVariants as parts
use Rattle.described.specs.declared.item.What.{What}
use Rattle.described.specs.declared.item.What.TheVariants as whats
use Rattle.texts.specs.declared.ranges.BaseSize.{BaseSize}
use Rattle.described.specs.declared.why.Why.{Why}
use Rattle.described.specs.Reasons.{described}
use Rattle.fdt_tree.specs.Tree.{Tree}
use Rattle.fdt_nodes.specs.Nodes.{Node, shown}
use Rattle.fdt_nodes.specs.NodeItems.{item_of}
use Rattle.domain_bindings.specs.Domains.{said_direct, said_pages}
use Rattle.domain_bindings.specs.Heads.{head_item, head_reason, head_what, heap_pages, is_direct, is_static, memory_of}
use Rattle.domain_bindings.specs.Modules.{module_name, module_reason, module_what}
use Rattle.domain_bindings.specs.Statics.{list_reason, static_reason, statics_of}
use Rattle.domain_bindings.proofs.Sound.{what-described}
use Rattle.passthrough_dtb.specs.Devices.{device_reason}
use Rattle.passthrough_dtb.specs.Whole.{item_in, partial_reason}
use Rattle.passthrough_dtb.specs.Gic.{guest_gic}
use Rattle.passthrough_dtb.specs.Interrupts.{interrupt_reason}
use Rattle.passthrough_dtb.specs.Ranges as ranges
use Rattle.static_links.specs.Channels.{Channel, Ends, ends_of, other_end}
use Rattle.static_links.specs.Ports.{link, linked_to, port_item, port_items, port_reason, port_what}
use Rattle.static_links.specs.Shared.{is_owner, region, shared_id, shared_item, shared_items, shared_reason, shared_what}
use Rattle.item_checks.specs.Entries.{partial_items}
use Rattle.domain_plan.specs.Memories.{HasOneKindOfMemory}
use Rattle.item_checks.specs.Taken.{says_direct, static_pages}
use Rattle.domain_plan.proofs.MemoryLemmas.{whats_in}
use Rattle.domain_plan.specs.Descriptions.{partial_state}
use Rattle.domain_plan.proofs.Sound.{full}
use Rattle.guest_fdt.proofs.GuestFits.{head_is_covered}
use Rattle.guest_fdt.proofs.GuestItems.{own_rest, rest_items, each_of_own, each_of_partial, each_of_ports, each_of_rest, each_of_shared}

-- of an item with a reason nothing is said
described_says : (P : What → Type 0) → P whats.Unread → (item : Item) (own : Option Why) (what : What) → P what → P (described item own what).what
described_says P unread item None what says = says
described_says P unread item (Some why) what says = unread

module _ (P : What → Type 0) (unread : P whats.Unread) where
  pub described_head : ((cpus pages : ℕ) (spis : Option ℕ) (direct console : Bool) → P (whats.Head cpus pages spis direct console)) → (number : ℕ) (node : Node) → P (head_item number node).what
  described_head head number node = described_says P unread (item_of parts.Head node 0) (head_reason number node) (head_what node) (head _ _ _ _ _)

  region_says : ((id : List ℕ) (host : Option ℕ) (guest size : ℕ) (owner : Bool) → P (whats.Shared id host guest size owner)) → (number : ℕ) (node : Node) → P (shared_item number node).what
  region_says shared number node = described_says P unread (item_of parts.Shared node 0) (shared_reason number node) (shared_what node)
      (by (region node) (λ r. whats.Shared (unwrap_or (shared_id node) []) r.host r.guest r.size (is_owner node)) (λ r. shared (unwrap_or (shared_id node) []) r.host r.guest r.size (is_owner node)))
    where
      by : {R : Type 0} (found : Option R) (says : R → What) → ((r : R) → P (says r)) → P (option_map_or says found whats.Unread)
      by None says each = unread
      by (Some r) says each = each r

  port_says : ((port peer peer_port : ℕ) → P (whats.Port port peer peer_port)) → (root : Tree) (before : List Described) (node : Node) → P (port_item root before node).what
  port_says port root before node = described_says P unread (item_of parts.Port node 0) (port_reason root before node) (port_what root node) (by (ends_of node.properties) (other_end root node))
    where
      far : (ends : Ends) (channel : Channel) (o : Option Ends) → P (option_map_or (link ends channel.guest) o whats.Unread)
      far ends channel None = unread
      far ends channel (Some other) = port ends.port channel.guest other.port

      by : (own : Option Ends) (other : Option Channel) → P (option_map_or (λ (ends : Ends). option_map_or (linked_to ends) other whats.Unread) own whats.Unread)
      by None other = unread
      by (Some ends) None = unread
      by (Some ends) (Some channel) = far ends channel (ends_of channel.node.properties)

  -- what holds of all that the items of a guest's node describe, but for its head and, where it has static memory, its ranges
  pub own_says : (node : Node) → (is_static node ≡ true → (list : List BaseSize) → P (whats.StaticList list)) → (is_static node ≡ true → (at : BaseSize) → P (whats.Static at))
      → ((kind : ModuleKind) (at : BaseSize) → P (whats.Module kind at)) → All (λ (item : Described). P item.what) (own_rest node)
  own_says node list static module_ =
      each_of_own (λ (item : Described). P item.what) node
      (λ is. described_says P unread (item_of parts.StaticList node 0) (list_reason node) (whats.StaticList (statics_of node)) (list is (statics_of node)))
      (λ is k at. described_says P unread (item_of parts.Static node k) (static_reason at) (whats.Static at) (static is at))
      (λ before one. described_says P unread (module_name one) (module_reason before one) (module_what one) (module_ _ _))

  -- of its partial tree
  pub partial_says : (root : Tree) (number : ℕ) (partial : Option Tree) → ((gic : ℕ) → P (whats.Partial gic)) → P whats.Device → ((host size guest : ℕ) → P (whats.Range host size guest)) → ((irq : ℕ) → P (whats.Irq irq))
      → All (λ (item : Described). P item.what) (partial_items (partial_state root number partial))
  partial_says root number partial whole device range irq =
      each_of_partial (λ (item : Described). P item.what) root number partial
      (λ tree. described_says P unread (item_in parts.Partial number (codes "/") 0) (partial_reason tree) (whats.Partial (guest_gic tree)) (whole (guest_gic tree)))
      (λ one. described_says P unread (item_in parts.Device number (shown one.path) 0) (device_reason root one) whats.Device device)
      (λ before entry. described_says P unread entry.item (ranges.range_reason before entry.range) (whats.Range entry.range.host entry.range.size entry.range.guest) (range entry.range.host entry.range.size entry.range.guest))
      (λ guest path held k interrupt. described_says P unread (item_in parts.Irq guest path k) (interrupt_reason held interrupt) (whats.Irq interrupt.number) (irq interrupt.number))

  -- of its shared regions
  pub shared_says : (node : Node) → ((id : List ℕ) (host : Option ℕ) (guest size : ℕ) (owner : Bool) → P (whats.Shared id host guest size owner)) → All (λ (item : Described). P item.what) (shared_items node)
  shared_says node shared = each_of_shared (λ (item : Described). P item.what) node (region_says shared)

  -- of its ports
  pub ports_say : (root : Tree) (node : Node) → ((port peer peer_port : ℕ) → P (whats.Port port peer peer_port)) → All (λ (item : Described). P item.what) (port_items root node)
  ports_say root node port = each_of_ports (λ (item : Described). P item.what) root node (port_says port root)

  -- of all but its head
  pub rest_says : (root : Tree) (number : ℕ) (node : Node) (partial : Option Tree) → (is_static node ≡ true → (list : List BaseSize) → P (whats.StaticList list)) → (is_static node ≡ true → (at : BaseSize) → P (whats.Static at))
      → ((kind : ModuleKind) (at : BaseSize) → P (whats.Module kind at)) → ((gic : ℕ) → P (whats.Partial gic)) → P whats.Device → ((host size guest : ℕ) → P (whats.Range host size guest)) → ((irq : ℕ) → P (whats.Irq irq))
      → ((id : List ℕ) (host : Option ℕ) (guest size : ℕ) (owner : Bool) → P (whats.Shared id host guest size owner)) → ((port peer peer_port : ℕ) → P (whats.Port port peer peer_port))
      → All (λ (item : Described). P item.what) (rest_items root number node partial)
  rest_says root number node partial list static module_ whole device range irq shared port =
      each_of_rest (λ (item : Described). P item.what) root number node partial (own_says node list static module_) (partial_says root number partial whole device range irq) (shared_says node shared) (ports_say root node port)

-- no item says that the guest is mapped directly
none_direct : (items : List Described) → All (λ (item : Described). says_direct item.what ≡ false) items → list_any says_direct (whats_in items) ≡ false
none_direct [] all = refl
none_direct (item ∷ items) all =
    ap (λ (b : Bool). b || list_any says_direct (whats_in items)) (All-head (λ (one : Described). says_direct one.what ≡ false) item items all)
    ∙ none_direct items (All-tail (λ (one : Described). says_direct one.what ≡ false) item items all)

-- no item is a static range
none_static : (items : List Described) → All (λ (item : Described). static_pages item.what ≡ 0) items → sum_by static_pages (whats_in items) ≡ 0
none_static [] all = refl
none_static (item ∷ items) all =
    let sum = sum_by-cons static_pages item.what (whats_in items) in
    let here : static_pages item.what ≡ 0 = All-head (λ (one : Described). static_pages one.what ≡ 0) item items all in
    let later : sum_by static_pages (whats_in items) ≡ 0 = none_static items (All-tail (λ (one : Described). static_pages one.what ≡ 0) item items all) in
    omega (arith, sum, here, later)

module _ (root : Tree) (number : ℕ) (node : Node) (partial : Option Tree) (free : head_reason number node ≡ None) where
  head_is : (head_item number node).what ≡ head_what node
  head_is = what-described (item_of parts.Head node 0) (head_reason number node) (head_what node) free

  -- a guest that draws memory has no static memory
  draws_alone : 0 < heap_pages node → is_static node ≡ false
  draws_alone some = by (is_static node) some
    where
      by : (static : Bool) → 0 < (if static then 0 else unwrap_or (memory_of node) 0 / 4) → static ≡ false
      by true some = absurd (omega arith)
      by false some = refl

  not_direct : is_static node ≡ false → is_direct node ≡ false
  not_direct plain = by (is_direct node) (is_static node) plain (head_is_covered number node free)
    where
      by : (direct static : Bool) → static ≡ false → (direct && not static) ≡ false → direct ≡ false
      by true true plain covered = absurd (cc)
      by true false plain covered = absurd (cc)
      by false static plain covered = refl

  no_statics : is_static node ≡ false → sum_by static_pages (whats_in ((head_item number node) ∷ rest_items root number node partial)) ≡ 0
  no_statics plain =
      let sum = sum_by-cons static_pages (head_item number node).what (whats_in (rest_items root number node partial)) in
      let head : static_pages (head_item number node).what ≡ 0 = ap static_pages head_is in
      let rest : sum_by static_pages (whats_in (rest_items root number node partial)) ≡ 0 =
      none_static (rest_items root number node partial)
      (rest_says (λ (what : What). static_pages what ≡ 0) refl root number node partial (λ is list. refl) (λ is at. not_both is plain) (λ kind at. refl) (λ gic. refl) refl (λ host size guest. refl) (λ irq. refl)
      (λ id host guest size owner. refl) (λ port peer peer_port. refl)) in
      omega (arith, sum, head, rest)
    where
      not_both : {A : Type 0} {b : Bool} → b ≡ true → b ≡ false → A
      not_both is is_not = absurd (cc)

  -- a guest has one kind of memory
  pub one_kind : HasOneKindOfMemory (full root number node partial)
  one_kind = record {
    drawn_alone = λ some.
        let pages : said_pages (head_item number node).what ≡ heap_pages node = ap said_pages head_is in
        let plain = draws_alone (subst (λ n. 0 < n) pages some) in
        (no_statics plain, ap said_direct head_is ∙ not_direct plain);
    head_alone =
        none_direct (rest_items root number node partial)
        (rest_says (λ (what : What). says_direct what ≡ false) refl root number node partial (λ is list. refl) (λ is at. refl) (λ kind at. refl) (λ gic. refl) refl (λ host size guest. refl) (λ irq. refl)
        (λ id host guest size owner. refl) (λ port peer peer_port. refl));
  }
