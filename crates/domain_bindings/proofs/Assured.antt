-- Of every guest that is read: its items are sound, the first is its head, and its static ranges are those of its list.
use Rattle.std.proofs.Common.{◌≡◌, ap, refl, ℕ, ◌+◌, ◌^◌, ◌≤◌, ◌||◌, ◌&&◌, Bool, true, false, List, [], ◌∷◌, ◌++◌, map, Some, None, All, arith}
use Rattle.std.specs.Prelude.{Option, is_some, sum_by}
use Rattle.std.specs.List.{AllZip}
use Rattle.std.proofs.lemmas.List.Elements.{All-nil, All-cons, All-head, All-tail, filter-append}
use Rattle.std.proofs.lemmas.List.Sums.{sum_by-append, sum_by-cons}
use Rattle.std.proofs.lemmas.List.{append-nil}
use Rattle.std.proofs.lemmas.Grind.{flat_map-append}
use Rattle.described.specs.declared.item.Described.{Described}
use Rattle.described.specs.declared.item.Item.{Item}
use Rattle.described.specs.declared.item.Part.TheVariants as parts
use Rattle.described.specs.declared.item.What.{What}
use Rattle.described.specs.declared.item.What.TheVariants as whats
use Rattle.texts.specs.declared.ranges.BaseSize.{BaseSize}
use Rattle.described.specs.declared.why.Why.{Why}
use Rattle.described.specs.Reasons.{described}
use Rattle.described.specs.Sound.{IsSound, SoundUnless, AreSound}
use Rattle.fdt_tree.specs.Tree.{Tree}
use Rattle.fdt_tree.specs.Document.{Document}
use Rattle.fdt_tree.specs.declared.reserve.Reserve.{Reserve}
use Rattle.fdt_nodes.specs.Nodes.{Node}
use Rattle.fdt_nodes.specs.Held.{node_of}
use Rattle.fdt_nodes.specs.NodeItems.{item_of}
use Rattle.domain_bindings.specs.Heads.{head_item, head_reason, head_what, is_static}
use Rattle.domain_bindings.specs.Statics.{bytes_in, list_item, list_reason, static_item, static_reason, range_items, static_items, statics_of}
use Rattle.domain_bindings.specs.Modules.{module_item, module_items, module_reason, module_what, module_name, modules_of}
use Rattle.domain_bindings.specs.Domains.{domain_items}
use Rattle.domain_bindings.specs.Hosts.{reg_of, host_items, host_reason, memory_reason, reserved_reason, dom0_items}
use Rattle.domain_bindings.specs.Results.{domain_at, domains_at, AreDomains}
use Rattle.domain_bindings.specs.Assured.{IsHeadOf, HasHead, is_static_list, is_static_range, static_ranges, has_faulty_list, entries_of, listed_entries, IsRangeOf, HasListedRanges, static_bytes, HasStaticLimit}
use Rattle.domain_bindings.specs.declared.domain.Domain.{Domain}
use Rattle.domain_bindings.proofs.Sound.{static-sound, list-sound, head-sound}
use Rattle.domain_bindings.proofs.EachItem.{each_of_domain, each_of_host, each_of_dom0}

-- the numbers of an item without a reason of its own are sound
abbrev IsSoundItem : Described → Type 0
IsSoundItem item = item.own ≡ None → IsSound item.what

sound_from_all : (items : List Described) → All IsSoundItem items → AreSound items
sound_from_all [] all = tt
sound_from_all (item ∷ items) all = by_own item.own item.what (All-head IsSoundItem item items all) (sound_from_all items (All-tail IsSoundItem item items all))
  where
    by_own : (own : Option Why) (what : What) → (own ≡ None → IsSound what) → AreSound items → SoundUnless own what (AreSound items)
    by_own None what sound later = (sound refl, later)
    by_own (Some why) what sound later = tt

sound_described : (item : Item) (own : Option Why) (what : What) → (own ≡ None → IsSound what) → IsSoundItem (described item own what)
sound_described item None what sound none = sound refl
sound_described item (Some why) what sound none = absurd (cc)

-- the items of the host say no number that a plan rests on
pub host-sound : (whole : Tree) (reserves : List Reserve) → AreSound (host_items whole reserves)
host-sound whole reserves =
    sound_from_all (host_items whole reserves) (each_of_host IsSoundItem whole reserves
    (sound_described _ (host_reason whole) whats.Host (λ none. tt))
    (λ total node. sound_described _ (memory_reason total node) (whats.Memory (reg_of node)) (λ none. tt))
    (λ node. sound_described _ (reserved_reason node) (whats.Reserved (reg_of node)) (λ none. tt))
    (λ k reserve none. tt))

module_sound : (before : List Node) (node : Node) → IsSoundItem (module_item before node)
module_sound before node = sound_described (module_name node) (module_reason before node) (module_what node) (λ none. tt)

pub dom0-sound : (whole : Tree) → AreSound (dom0_items whole)
dom0-sound whole = sound_from_all (dom0_items whole) (each_of_dom0 IsSoundItem whole (λ node. module_sound [] node))

-- the items of a guest
pub domain-sound : (number : ℕ) (node : Node) → AreSound (domain_items number node)
domain-sound number node =
    sound_from_all (domain_items number node) (each_of_domain IsSoundItem number node
    (sound_described (item_of parts.Head node 0) (head_reason number node) (head_what node) (λ none. head-sound number node none))
    (sound_described (item_of parts.StaticList node 0) (list_reason node) (whats.StaticList (statics_of node)) (λ none. tt))
    (λ k range. sound_described (item_of parts.Static node k) (static_reason range) (whats.Static range) (λ none. static-sound range none))
    module_sound)

-- the head of a guest
head_told : (domain : Domain) (item : Item) (own : Option Why) (what : What) → item.part ≡ parts.Head → item.path ≡ domain.path
    → (own ≡ None → what ≡ whats.Head domain.cpus domain.pages domain.spis domain.direct domain.console) → IsHeadOf domain (described item own what)
head_told domain item None what part path says = record { part = part; path = path; numbers = says }
head_told domain item (Some why) what part path says = record { part = part; path = path; numbers = (λ none. absurd (cc)) }

pub domain-head : (document : Document) (number held : ℕ) → HasHead (domain_at document number held)
domain-head document number held =
    head_told (domain_at document number held) (item_of parts.Head (node_of document held) 0) (head_reason number (node_of document held)) (head_what (node_of document held)) refl refl
    (λ none. rw none refl)

-- an item says nothing of static memory
record IsOther (item : Described) : Type 0 where
  no_list : is_static_list item ≡ false
  no_range : is_static_range item ≡ false
  no_entries : entries_of item ≡ []
  no_bytes : static_bytes item ≡ 0

-- an item as it is, where it has no reason of its own
abbrev unfaulted : Item → What → Described
unfaulted item what = record { item = item; own = None; what = what }

other_described : (item : Item) (own : Option Why) (what : What) → IsOther (unfaulted item what) → IsOther (described item own what)
other_described item None what other = other
other_described item (Some why) what other = record { no_list = other.no_list; no_range = other.no_range; no_entries = refl; no_bytes = refl }

head_other : (number : ℕ) (node : Node) → IsOther (head_item number node)
head_other number node = other_described (item_of parts.Head node 0) (head_reason number node) (head_what node) (record { no_list = refl; no_range = refl; no_entries = refl; no_bytes = refl })

module_other : (before : List Node) (node : Node) → IsOther (module_item before node)
module_other before node = other_described (module_name node) (module_reason before node) (module_what node) (record { no_list = refl; no_range = refl; no_entries = refl; no_bytes = refl })

-- items that say nothing of static memory
record AreOthers (items : List Described) : Type 0 where
  no_ranges : static_ranges items ≡ []
  no_entries : listed_entries items ≡ []
  no_bytes : sum_by static_bytes items ≡ 0

others_cons : (item : Described) (items : List Described) → IsOther item → AreOthers items → AreOthers (item ∷ items)
others_cons item items other others = record {
  no_ranges = rw other.no_range others.no_ranges;
  no_entries = rw (other.no_entries, others.no_entries) refl;
  no_bytes = rw (other.no_bytes, others.no_bytes) refl;
}

modules_others : (earlier nodes : List Node) → AreOthers (module_items earlier nodes)
modules_others earlier [] = record { no_ranges = refl; no_entries = refl; no_bytes = refl }
modules_others earlier (node ∷ nodes) = others_cons (module_item earlier node) (module_items (earlier ++ node ∷ []) nodes) (module_other earlier node) (modules_others (earlier ++ node ∷ []) nodes)

-- a static range, as it is described
record IsRange (range : BaseSize) (item : Described) : Type 0 where
  is_range : is_static_range item ≡ true
  no_entries : entries_of item ≡ []
  says : IsRangeOf range item
  bytes : static_bytes item ≤ range.size

range_described : (node : Node) (number : ℕ) (range : BaseSize) (own : Option Why) → IsRange range (described (item_of parts.Static node number) own (whats.Static range))
range_described node number range None = record { is_range = refl; no_entries = refl; says = (λ none. refl); bytes = omega arith }
range_described node number range (Some why) = record { is_range = refl; no_entries = refl; says = (λ none. absurd (cc)); bytes = omega arith }

-- the static ranges of a list
record AreRanges (ranges : List BaseSize) (items : List Described) : Type 0 where
  all_ranges : static_ranges items ≡ items
  no_entries : listed_entries items ≡ []
  say : AllZip IsRangeOf ranges items
  bytes : sum_by static_bytes items ≤ bytes_in ranges

ranges_cons : (range : BaseSize) (item : Described) (ranges : List BaseSize) (items : List Described) → IsRange range item → AreRanges ranges items → AreRanges (range ∷ ranges) (item ∷ items)
ranges_cons range item ranges items is are = record {
  all_ranges = rw is.is_range (ap (λ (rest : List Described). item ∷ rest) are.all_ranges);
  no_entries = rw (is.no_entries, are.no_entries) refl;
  say = (is.says, are.say);
  bytes = rw (sum_by-cons static_bytes item items, sum_by-cons (λ (range : BaseSize). range.size) range ranges) (let one = is.bytes in let more = are.bytes in omega arith);
}

ranges_of : (node : Node) (number : ℕ) (ranges : List BaseSize) → AreRanges ranges (range_items node number ranges)
ranges_of node number [] = record { all_ranges = refl; no_entries = refl; say = tt; bytes = omega arith }
ranges_of node number (range ∷ ranges) =
    ranges_cons range (static_item node number range) ranges (range_items node (number + 1) ranges) (range_described node number range (static_reason range)) (ranges_of node (number + 1) ranges)

-- what a guest's items say of its static memory
record SaysStatics (entries : List BaseSize) (items : List Described) : Type 0 where
  zip : AllZip IsRangeOf (listed_entries items) (static_ranges items)
  bytes : sum_by static_bytes items ≤ bytes_in entries

-- before and after other items
among_others : (entries : List BaseSize) (head : Described) (statics modules : List Described) → IsOther head → AreOthers modules → SaysStatics entries statics → SaysStatics entries (head ∷ (statics ++ modules))
among_others entries head statics modules one others says = record {
  zip = rw (one.no_range, one.no_entries, filter-append is_static_range statics modules, flat_map-append entries_of statics modules, others.no_ranges, others.no_entries, append-nil (static_ranges statics), append-nil (listed_entries statics)) says.zip;
  bytes = rw (sum_by-cons static_bytes head (statics ++ modules), sum_by-append static_bytes statics modules, one.no_bytes, others.no_bytes) (let less = says.bytes in omega arith);
}

-- a list without a reason of its own, and its ranges
with_list : (node : Node) → list_reason node ≡ None → SaysStatics (statics_of node) (list_item node ∷ range_items node 0 (statics_of node))
with_list node none =
    let are = ranges_of node 0 (statics_of node) in
    record {
      zip = rw (none, are.all_ranges, are.no_entries, append-nil (statics_of node)) are.say;
      bytes = rw none (are.bytes);
    }

not_true : true ≡ false → ⊥
not_true is = cc

left_false : (a b : Bool) → (a || b) ≡ false → a ≡ false
left_false true b is = absurd (not_true is)
left_false false b is = refl

right_false : (a b : Bool) → (a || b) ≡ false → b ≡ false
right_false true b is = absurd (not_true is)
right_false false b is = is

-- where a guest with static memory has no faulty list, its list has no reason
no_fault : (node : Node) (rest : List Described) → has_faulty_list (list_item node ∷ rest) ≡ false → list_reason node ≡ None
no_fault node rest fine = by_own (list_reason node) (left_false (is_static_list (list_item node) && is_some (list_item node).own) (has_faulty_list rest) fine)
  where
    by_own : (own : Option Why) → (is_static_list (described (item_of parts.StaticList node 0) own (whats.StaticList (statics_of node))) && is_some (described (item_of parts.StaticList node 0) own (whats.StaticList (statics_of node))).own) ≡ false → own ≡ None
    by_own None is = refl
    by_own (Some why) is = absurd (not_true is)

statics_said : (node : Node) (static : Bool) → is_static node ≡ static → (number : ℕ) → has_faulty_list (domain_items number node) ≡ false
    → AllZip IsRangeOf (listed_entries (domain_items number node)) (static_ranges (domain_items number node)) × (sum_by static_bytes (domain_items number node) ≤ 2 ^ 34)
statics_said node true is number fine =
    let modules = module_items [] (modules_of node) in
    let behind : has_faulty_list (static_items node ++ modules) ≡ false = right_false _ (has_faulty_list (static_items node ++ modules)) fine in
    let with : has_faulty_list (list_item node ∷ (range_items node 0 (statics_of node) ++ modules)) ≡ false = rw is at behind in
    let none = no_fault node (range_items node 0 (statics_of node) ++ modules) with in
    let says : SaysStatics (statics_of node) (static_items node) = rw is (with_list node none) in
    let all = among_others (statics_of node) (head_item number node) (static_items node) modules (head_other number node) (modules_others [] (modules_of node)) says in
    let few = (list-sound node none).2 in
    let less = all.bytes in
    (all.zip, omega arith)
statics_said node false is number fine =
    let modules = module_items [] (modules_of node) in
    let says : SaysStatics [] (static_items node) = rw is (record { zip = tt; bytes = omega arith }) in
    let all = among_others [] (head_item number node) (static_items node) modules (head_other number node) (modules_others [] (modules_of node)) says in
    let less = all.bytes in
    (all.zip, omega arith)

pub domain-ranges : (document : Document) (number held : ℕ) → HasListedRanges (domain_at document number held)
domain-ranges document number held fine = (statics_said (node_of document held) (is_static (node_of document held)) refl number fine).0

pub domain-limit : (document : Document) (number held : ℕ) → HasStaticLimit (domain_at document number held)
domain-limit document number held fine = (statics_said (node_of document held) (is_static (node_of document held)) refl number fine).1

-- what holds of every guest by its number and node holds of all that are read
each_domain : (P : Domain → Type 0) → ((document : Document) (number held : ℕ) → P (domain_at document number held)) → (document : Document) (number : ℕ) (nodes : List ℕ) → All P (domains_at document number nodes)
each_domain P each document number [] = All-nil P
each_domain P each document number (node ∷ nodes) =
    All-cons P (domain_at document number node) (domains_at document (number + 1) nodes) (each document number node) (each_domain P each document (number + 1) nodes)

pub domains-each : (P : Domain → Type 0) → ((document : Document) (number held : ℕ) → P (domain_at document number held)) → (document : Document) (domains : List Domain) → AreDomains document domains → All P domains
domains-each P each document domains are = rw are.values (each_domain P each document 0 (map (λ (domain : Domain). domain.node) domains))
