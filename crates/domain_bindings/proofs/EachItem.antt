-- What holds of each kind of item holds of all items.
use Rattle.std.proofs.Common.{◌≡◌, ap, refl, ℕ, ◌+◌, List, [], ◌∷◌, ◌++◌, All, Bool, true, false, map}
use Rattle.std.proofs.lemmas.List.Elements.{All-append, All-nil, All-cons}
use Rattle.described.specs.declared.item.Described.{Described}
use Rattle.texts.specs.declared.ranges.BaseSize.{BaseSize}
use Rattle.fdt_tree.specs.Tree.{Tree}
use Rattle.fdt_tree.specs.declared.reserve.Reserve.{Reserve}
use Rattle.fdt_tree.specs.Document.{Document}
use Rattle.fdt_nodes.specs.Nodes.{Node}
use Rattle.fdt_nodes.specs.Held.{node_of}
use Rattle.domain_bindings.specs.Heads.{head_item, is_static}
use Rattle.domain_bindings.specs.Statics.{bytes_in, list_item, static_item, range_items, static_items, statics_of}
use Rattle.domain_bindings.specs.Modules.{module_item, module_items, modules_of}
use Rattle.domain_bindings.specs.Domains.{domain_items}
use Rattle.domain_bindings.specs.PrivateItems.{items_from}
use Rattle.domain_bindings.specs.Hosts.{reg_of, host_item, memory_item, memory_items, reserved_item, reserved_nodes, reserve_item, reserve_items, memory_nodes, items_behind, host_items, dom0_items}
use Rattle.domain_bindings.specs.Results.{domains_at}
use Rattle.domain_bindings.specs.declared.domain.Domain.{Domain}

module _ (P : Described → Type 0) where
  all_ranges : (node : Node) (number : ℕ) (ranges : List BaseSize) → ((k : ℕ) (range : BaseSize) → P (static_item node k range)) → All P (range_items node number ranges)
  all_ranges node number [] static = All-nil P
  all_ranges node number (range ∷ ranges) static = All-cons P (static_item node number range) (range_items node (number + 1) ranges) (static number range) (all_ranges node (number + 1) ranges static)

  all_modules : (earlier nodes : List Node) → ((before : List Node) (node : Node) → P (module_item before node)) → All P (module_items earlier nodes)
  all_modules earlier [] module_ = All-nil P
  all_modules earlier (node ∷ nodes) module_ = All-cons P (module_item earlier node) (module_items (earlier ++ node ∷ []) nodes) (module_ earlier node) (all_modules (earlier ++ node ∷ []) nodes module_)

  all_statics : (static : Bool) (node : Node) → P (list_item node) → ((k : ℕ) (range : BaseSize) → P (static_item node k range)) → is_static node ≡ static → All P (static_items node)
  all_statics true node list ranges is = rw is (All-cons P (list_item node) (range_items node 0 (statics_of node)) list (all_ranges node 0 (statics_of node) ranges))
  all_statics false node list ranges is = rw is (All-nil P)

  -- of a guest
  pub each_of_domain : (number : ℕ) (node : Node) → P (head_item number node) → P (list_item node) → ((k : ℕ) (range : BaseSize) → P (static_item node k range))
      → ((before : List Node) (one : Node) → P (module_item before one)) → All P (domain_items number node)
  each_of_domain number node head list ranges module_ =
      All-cons P (head_item number node) (static_items node ++ module_items [] (modules_of node)) head
      (All-append P (static_items node) (module_items [] (modules_of node)) (all_statics (is_static node) node list ranges refl) (all_modules [] (modules_of node) module_))

  all_memory : (before : ℕ) (nodes : List Node) → ((total : ℕ) (node : Node) → P (memory_item total node)) → All P (memory_items before nodes)
  all_memory before [] memory = All-nil P
  all_memory before (node ∷ nodes) memory =
      All-cons P (memory_item before node) (memory_items (before + bytes_in (reg_of node)) nodes) (memory before node) (all_memory (before + bytes_in (reg_of node)) nodes memory)

  all_reserves : (number : ℕ) (reserves : List Reserve) → ((k : ℕ) (reserve : Reserve) → P (reserve_item k reserve)) → All P (reserve_items number reserves)
  all_reserves number [] reserve = All-nil P
  all_reserves number (first ∷ reserves) reserve = All-cons P (reserve_item number first) (reserve_items (number + 1) reserves) (reserve number first) (all_reserves (number + 1) reserves reserve)

  all_mapped : {A : Type 0} (make : A → Described) (nodes : List A) → ((node : A) → P (make node)) → All P (map make nodes)
  all_mapped make [] each = All-nil P
  all_mapped make (node ∷ nodes) each = All-cons P (make node) (map make nodes) (each node) (all_mapped make nodes each)

  -- of the host
  pub each_of_host : (whole : Tree) (reserves : List Reserve) → P (host_item whole) → ((total : ℕ) (node : Node) → P (memory_item total node)) → ((node : Node) → P (reserved_item node))
      → ((k : ℕ) (reserve : Reserve) → P (reserve_item k reserve)) → All P (host_items whole reserves)
  each_of_host whole reserves host memory reserved reserve =
      All-cons P (host_item whole) (items_behind whole reserves) host
      (All-append P (memory_items 0 (memory_nodes whole) ++ map reserved_item (reserved_nodes whole)) (reserve_items 0 reserves)
      (All-append P (memory_items 0 (memory_nodes whole)) (map reserved_item (reserved_nodes whole)) (all_memory 0 (memory_nodes whole) memory) (all_mapped reserved_item (reserved_nodes whole) reserved))
      (all_reserves 0 reserves reserve))

  -- of the modules of dom0
  pub each_of_dom0 : (whole : Tree) → ((node : Node) → P (module_item [] node)) → All P (dom0_items whole)
  each_of_dom0 whole module_ = all_mapped (module_item []) _ module_

-- the items of guests, guest by guest, are those of their nodes
pub items_of-domains : (document : Document) (number : ℕ) (nodes : List ℕ) → map (λ (domain : Domain). domain.items) (domains_at document number nodes) ≡ items_from number (map (node_of document) nodes)
items_of-domains document number [] = refl
items_of-domains document number (node ∷ nodes) = ap (λ items. domain_items number (node_of document node) ∷ items) (items_of-domains document (number + 1) nodes)
