-- What holds of each kind of item holds of all items of a guest.
use Rattle.std.proofs.Common.{◌≡◌, refl, ℕ, ◌+◌, Bool, true, false, List, [], ◌∷◌, ◌++◌, All, Option, Some, None, map, flat_map}
use Rattle.std.specs.Prelude.{if◌then◌else◌}
use Rattle.std.proofs.lemmas.List.Elements.{All-append, All-nil, All-cons}
use Rattle.described.specs.declared.item.Described.{Described}
use Rattle.described.specs.declared.item.Part.TheVariants as parts
use Rattle.described.specs.declared.item.What.TheVariants as whats
use Rattle.texts.specs.declared.ranges.BaseSize.{BaseSize}
use Rattle.described.specs.Reasons.{described}
use Rattle.fdt_tree.specs.Tree.{Bytes, Tree}
use Rattle.fdt_nodes.specs.Nodes.{Node, shown}
use Rattle.fdt_nodes.specs.declared.entries.Window.{Window}
use Rattle.domain_bindings.specs.Heads.{is_static}
use Rattle.domain_bindings.specs.Modules.{module_item, module_items, modules_of}
use Rattle.domain_bindings.specs.Statics.{list_item, static_item, range_items, static_items, statics_of}
use Rattle.passthrough_dtb.specs.declared.interrupts.Interrupt.{Interrupt}
use Rattle.passthrough_dtb.specs.Devices.{devices, device_item, host_node, properties_of}
use Rattle.passthrough_dtb.specs.Whole.{item_in, partial_item}
use Rattle.passthrough_dtb.specs.Interrupts.{interrupt_reason, interrupts_from, interrupts_of, irq_items}
use Rattle.passthrough_dtb.specs.Items as partials
use Rattle.passthrough_dtb.specs.Ranges as ranges
use Rattle.static_links.specs.Channels.{event_channel}
use Rattle.static_links.specs.Ports.{port_item, port_items, ports_after}
use Rattle.static_links.specs.Shared.{children_with, shared_from, shared_item, shared_items, shared_memory}
use Rattle.item_checks.specs.Entries.{partial_items}
use Rattle.domain_plan.specs.Descriptions.{partial_state}

-- an interrupt of a partial tree as an item
abbrev pub irq_item : ℕ → Bytes → List Interrupt → ℕ → Interrupt → Described
irq_item guest path held number interrupt = described (item_in parts.Irq guest path number) (interrupt_reason held interrupt) (whats.Irq interrupt.number)

-- the items of a guest's node behind its head
abbrev pub own_rest : Node → List Described
own_rest node = static_items node ++ module_items [] (modules_of node)

-- the items of a guest behind its head
abbrev pub rest_items : Tree → ℕ → Node → Option Tree → List Described
rest_items root number node partial = ((own_rest node ++ partial_items (partial_state root number partial)) ++ shared_items node) ++ port_items root node

module _ (P : Described → Type 0) where
  all_ranges : (node : Node) (number : ℕ) (entries : List BaseSize) → ((k : ℕ) (range : BaseSize) → P (static_item node k range)) → All P (range_items node number entries)
  all_ranges node number [] static = All-nil P
  all_ranges node number (range ∷ entries) static = All-cons P (static_item node number range) (range_items node (number + 1) entries) (static number range) (all_ranges node (number + 1) entries static)

  all_modules : (earlier nodes : List Node) → ((before : List Node) (node : Node) → P (module_item before node)) → All P (module_items earlier nodes)
  all_modules earlier [] module_ = All-nil P
  all_modules earlier (node ∷ nodes) module_ = All-cons P (module_item earlier node) (module_items (earlier ++ node ∷ []) nodes) (module_ earlier node) (all_modules (earlier ++ node ∷ []) nodes module_)

  all_statics : (static : Bool) (node : Node) → (static ≡ true → P (list_item node)) → (static ≡ true → (k : ℕ) (range : BaseSize) → P (static_item node k range))
      → All P (if static then list_item node ∷ range_items node 0 (statics_of node) else [])
  all_statics true node list entries = All-cons P (list_item node) (range_items node 0 (statics_of node)) (list refl) (all_ranges node 0 (statics_of node) (entries refl))
  all_statics false node list entries = All-nil P

  -- of a guest's node, but for its head
  pub each_of_own : (node : Node) → (is_static node ≡ true → P (list_item node)) → (is_static node ≡ true → (k : ℕ) (range : BaseSize) → P (static_item node k range))
      → ((before : List Node) (one : Node) → P (module_item before one)) → All P (own_rest node)
  each_of_own node list entries module_ =
      All-append P (static_items node) (module_items [] (modules_of node)) (all_statics (is_static node) node list entries) (all_modules [] (modules_of node) module_)

  all_devices : (root : Tree) (number : ℕ) (nodes : List Node) → ((device : Node) → P (device_item root number device)) → All P (map (device_item root number) nodes)
  all_devices root number [] device = All-nil P
  all_devices root number (node ∷ nodes) device = All-cons P (device_item root number node) (map (device_item root number) nodes) (device node) (all_devices root number nodes device)

  all_windows : (before : List Window) (entries : List ranges.Entry) → ((before : List Window) (entry : ranges.Entry) → P (ranges.range_item before entry)) → All P (ranges.ranges_after before entries)
  all_windows before [] window = All-nil P
  all_windows before (entry ∷ rest) window =
      All-cons P (ranges.range_item before entry) (ranges.ranges_after (ranges.and_range before entry.range) rest) (window before entry) (all_windows (ranges.and_range before entry.range) rest window)

  all_interrupts : (guest : ℕ) (path : Bytes) (held : List Interrupt) (number : ℕ) (interrupts : List Interrupt)
      → ((guest : ℕ) (path : Bytes) (held : List Interrupt) (number : ℕ) (interrupt : Interrupt) → P (irq_item guest path held number interrupt)) → All P (interrupts_from guest path held number interrupts)
  all_interrupts guest path held number [] irq = All-nil P
  all_interrupts guest path held number (interrupt ∷ rest) irq =
      All-cons P (irq_item guest path held number interrupt) (interrupts_from guest path held (number + 1) rest) (irq guest path held number interrupt) (all_interrupts guest path held (number + 1) rest irq)

  all_irqs : (root : Tree) (guest : ℕ) (nodes : List Node) → ((guest : ℕ) (path : Bytes) (held : List Interrupt) (number : ℕ) (interrupt : Interrupt) → P (irq_item guest path held number interrupt))
      → All P (flat_map (irq_items root guest) nodes)
  all_irqs root guest [] irq = All-nil P
  all_irqs root guest (node ∷ nodes) irq =
      All-append P (irq_items root guest node) (flat_map (irq_items root guest) nodes)
      (all_interrupts guest (shown node.path) (interrupts_of (properties_of (host_node root node.properties))) 0 (interrupts_of node.properties) irq) (all_irqs root guest nodes irq)

  read_items : (partial root : Tree) (number : ℕ) → P (partial_item partial number) → ((device : Node) → P (device_item root number device)) → ((before : List Window) (entry : ranges.Entry) → P (ranges.range_item before entry))
      → ((guest : ℕ) (path : Bytes) (held : List Interrupt) (number : ℕ) (interrupt : Interrupt) → P (irq_item guest path held number interrupt)) → All P (partials.partial_items partial root number)
  unfolding partials.partial_items
  read_items partial root number whole device window irq =
      All-append P ((partial_item partial number ∷ map (device_item root number) (devices partial)) ++ ranges.range_items partial number) (flat_map (irq_items root number) (devices partial))
      (All-append P (partial_item partial number ∷ map (device_item root number) (devices partial)) (ranges.range_items partial number)
      (All-cons P (partial_item partial number) (map (device_item root number) (devices partial)) whole (all_devices root number (devices partial) device))
      (all_windows [] (flat_map (ranges.entries_of number) (devices partial)) window))
      (all_irqs root number (devices partial) irq)

  -- of a guest's partial tree, if it was read
  pub each_of_partial : (root : Tree) (number : ℕ) (partial : Option Tree) → ((partial : Tree) → P (partial_item partial number)) → ((device : Node) → P (device_item root number device))
      → ((before : List Window) (entry : ranges.Entry) → P (ranges.range_item before entry)) → ((guest : ℕ) (path : Bytes) (held : List Interrupt) (number : ℕ) (interrupt : Interrupt) → P (irq_item guest path held number interrupt))
      → All P (partial_items (partial_state root number partial))
  each_of_partial root number None whole device window irq = All-nil P
  each_of_partial root number (Some partial) whole device window irq = read_items partial root number (whole partial) device window irq

  all_shared : (number : ℕ) (nodes : List Node) → ((number : ℕ) (node : Node) → P (shared_item number node)) → All P (shared_from number nodes)
  all_shared number [] shared = All-nil P
  all_shared number (node ∷ nodes) shared = All-cons P (shared_item number node) (shared_from (number + 1) nodes) (shared number node) (all_shared (number + 1) nodes shared)

  -- of its shared regions
  pub each_of_shared : (node : Node) → ((number : ℕ) (one : Node) → P (shared_item number one)) → All P (shared_items node)
  unfolding shared_items
  each_of_shared node shared = all_shared 0 (children_with shared_memory node) shared

  all_ports : (root : Tree) (before : List Described) (nodes : List Node) → ((before : List Described) (node : Node) → P (port_item root before node)) → All P (ports_after root before nodes)
  all_ports root before [] port = All-nil P
  all_ports root before (node ∷ nodes) port =
      All-cons P (port_item root before node) (ports_after root (before ++ port_item root before node ∷ []) nodes) (port before node) (all_ports root (before ++ port_item root before node ∷ []) nodes port)

  -- of its ports
  pub each_of_ports : (root : Tree) (node : Node) → ((before : List Described) (one : Node) → P (port_item root before one)) → All P (port_items root node)
  unfolding port_items
  each_of_ports root node port = all_ports root [] (children_with event_channel node) port

  -- of all but its head
  pub each_of_rest : (root : Tree) (number : ℕ) (node : Node) (partial : Option Tree) → All P (own_rest node) → All P (partial_items (partial_state root number partial)) → All P (shared_items node) → All P (port_items root node)
      → All P (rest_items root number node partial)
  each_of_rest root number node partial own read shared ports =
      All-append P ((own_rest node ++ partial_items (partial_state root number partial)) ++ shared_items node) (port_items root node)
      (All-append P (own_rest node ++ partial_items (partial_state root number partial)) (shared_items node) (All-append P (own_rest node) (partial_items (partial_state root number partial)) own read) shared) ports
