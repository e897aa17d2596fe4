-- The interrupts of a partial tree's items, where none has a fault, are those that a reader finds in the tree.
use Rattle.std.proofs.Common.{◌≡◌, ◌<◌, ◌≤◌, ◌+◌, ◌⊎◌, inl, inr, ℕ, Bool, true, false, not, cond, List, [], ◌∷◌, ◌++◌, Option, Some, None, map, filter, flat_map, codes, refl, sym, ap, ◌∙◌, subst, arith}
use Rattle.std.specs.Prelude.{◌==◌, ◌&&◌, ◌||◌, option_map, option_and_then, nat_lt, is_some, is_none}
use Rattle.std.specs.Option.{option_map_or}
use Rattle.std.specs.List.{list_all, list_any}
use Rattle.std.proofs.lemmas.Grind.{flat_map-append}
use Rattle.std.proofs.lemmas.Bool.Decides.{nat_tests, eqb_tells}
use Rattle.texts.specs.Consecutive.{numbers}
use Rattle.described.specs.declared.item.Described.{Described}
use Rattle.described.specs.declared.item.Item.{Item}
use Rattle.described.specs.declared.item.What.{What}
use Rattle.described.specs.declared.item.Part.TheVariants as parts
use Rattle.described.specs.declared.item.What.TheVariants as whats
use Rattle.described.specs.declared.why.Why.{Why}
use Rattle.described.specs.declared.why.Why.TheVariants as whys
use Rattle.fdt_tree.specs.Tree.{Bytes, Property, Trees, none, tree, Tree, Place, at, find_place, property_of}
use Rattle.fdt_nodes.specs.Nodes as nodes
use Rattle.fdt_nodes.specs.Values as values
use Rattle.fdt_nodes.specs.Entries.{is_whole, split_entries}
use Rattle.described.specs.Reasons.{described}
use Rattle.passthrough_dtb.specs.Whole.{passed_nodes, partial_item, partial_reason, item_in}
use Rattle.passthrough_dtb.specs.Devices.{is_device, devices, device_item, device_reason, host_node, lacks_path, has_bad_path, has_bad_cells, lacks_host, lacks_iommu, is_extended, has_bad_reg, has_bad_interrupts, has_bad_length, properties_of}
use Rattle.fdt_nodes.specs.declared.entries.Window.{Window}
use Rattle.passthrough_dtb.specs.Ranges.{Entry, entries_of, ranges_after, range_items, range_reason, and_range}
use Rattle.passthrough_dtb.specs.Interrupts as theirs
use Rattle.passthrough_dtb.specs.Items.{partial_items}
use Rattle.passthrough_dtb.specs.declared.interrupts.Interrupt.{Interrupt}
use Rattle.domain_plan.specs.PrivateGiving.{irq_of}
use Rattle.tree_parts.specs.Nodes.{on_some}
use Rattle.guest_fdt.specs.Entries.{triple, triples}
use Rattle.guest_fdt.specs.Listed.{devices_below, devices_in, interrupts_of, interrupts_in, in_order}
use Rattle.guest_fdt.specs.Described.{partial_devices}
use Rattle.guest_fdt.proofs.PartialLemmas.{passed, or-false}
use Rattle.guest_fdt.proofs.OrderLemmas.{in_order-filter}

abbrev Pair : Type 0
Pair = ℕ × ℕ

abbrev pair_of : ℕ × ℕ × ℕ → Pair
pair_of t = (t.0, t.1)

abbrev said : Interrupt → Pair
said i = (i.kind, i.number)

-- pieces of three cells, read in both ways
same-pairs : (parts : List Bytes) → map pair_of (map triple parts) ≡ map said (map theirs.interrupt_in parts)
same-pairs [] = refl
same-pairs (part ∷ parts) = ap (λ z. pair_of (triple part) ∷ z) (same-pairs parts)

-- a whole value, read in both ways
whole-threes : (value : Bytes) → is_whole 3 value ≡ true → map pair_of (triples value) ≡ map said (theirs.interrupts_in value)
whole-threes value whole = same-pairs (split_entries 3 value) ∙ ap (λ b. map said (cond b (map theirs.interrupt_in (split_entries 3 value)) [])) (sym whole)

-- the numbers of the interrupts among items
abbrev pub irq_numbers : List Described → List ℕ
irq_numbers items = flat_map (λ (d : Described). irq_of d.what) items

-- none of the items has a fault of its own
abbrev pub are_sound : List Described → Bool
are_sound items = list_all (λ (d : Described). is_none d.own) items

pub sound-parts : (xs ys : List Described) → are_sound (xs ++ ys) ≡ true → (are_sound xs ≡ true) × (are_sound ys ≡ true)
sound-parts [] ys h = (refl, h)
sound-parts (x ∷ xs) ys h = by (is_none x.own) h (sound-parts xs ys)
  where
    by : (b : Bool) → (b && are_sound (xs ++ ys)) ≡ true → (are_sound (xs ++ ys) ≡ true → (are_sound xs ≡ true) × (are_sound ys ≡ true)) → ((b && are_sound xs) ≡ true) × (are_sound ys ≡ true)
    by true h rest = rest h
    by false h rest = absurd (cc)

sound-first : (x : Described) (xs : List Described) → are_sound (x ∷ xs) ≡ true → (is_none x.own ≡ true) × (are_sound xs ≡ true)
sound-first x xs h = by (is_none x.own) h
  where
    by : (b : Bool) → (b && are_sound xs) ≡ true → (b ≡ true) × (are_sound xs ≡ true)
    by true h = (refl, h)
    by false h = absurd (cc)

sound-reason : (item : Item) (why : Option Why) (what : What) → is_none (described item why what).own ≡ true → why ≡ None
sound-reason item None what h = refl
sound-reason item (Some why) what h = absurd (cc)

-- interrupts without a fault are shared ones, and their numbers are below 988
abbrev shared_numbers : List Pair → List ℕ
shared_numbers pairs = map (λ (p : Pair). p.1) (filter (λ (p : Pair). p.0 == 0) pairs)

abbrev low-numbers : List ℕ → Type 0
low-numbers xs = (z : ℕ) → list_any (λ other. other == z) xs ≡ true → z < 988

irqs-read : (guest : ℕ) (path : Bytes) (held : List Interrupt) (number : ℕ) (is : List Interrupt) → are_sound (theirs.interrupts_from guest path held number is) ≡ true → irq_numbers (theirs.interrupts_from guest path held number is) ≡ shared_numbers (map said is)
irqs-read guest path held number [] sound = refl
irqs-read guest path held number (i ∷ is) sound =
    let item : Item = item_in parts.Irq guest path number in
    let first : Described = described item (theirs.interrupt_reason held i) (whats.Irq i.number) in
    let later : List Described = theirs.interrupts_from guest path held (number + 1) is in
    let both = sound-first first later sound in
    let fine : theirs.interrupt_reason held i ≡ None = sound-reason item (theirs.interrupt_reason held i) (whats.Irq i.number) both.0 in
    let shared = (passed whys.BadValue (theirs.is_no_spi i) _ fine).0 in
    let kind : (i.kind == 0) ≡ true = is-zero (i.kind == 0) (or-false (not (i.kind == 0)) (nat_lt 987 i.number) shared).0 in
    let rest = irqs-read guest path held (number + 1) is both.1 in
    rw (fine, kind) (ap (λ z. i.number ∷ z) rest)
  where
    is-zero : (b : Bool) → not b ≡ false → b ≡ true
    is-zero true h = refl
    is-zero false h = absurd (cc)

list-any-parts : (xs ys : List ℕ) (z : ℕ) → list_any (λ other. other == z) (xs ++ ys) ≡ true → (list_any (λ other. other == z) xs ≡ true) ⊎ (list_any (λ other. other == z) ys ≡ true)
list-any-parts [] ys z h = inr h
list-any-parts (x ∷ xs) ys z h = by (x == z) h (list-any-parts xs ys z)
  where
    by : (b : Bool) → (b || list_any (λ other. other == z) (xs ++ ys)) ≡ true → (list_any (λ other. other == z) (xs ++ ys) ≡ true → (list_any (λ other. other == z) xs ≡ true) ⊎ (list_any (λ other. other == z) ys ≡ true)) → ((b || list_any (λ other. other == z) xs) ≡ true) ⊎ (list_any (λ other. other == z) ys ≡ true)
    by true h rest = inl refl
    by false h rest = rest h

low-parts : (xs ys : List ℕ) → low-numbers xs → low-numbers ys → low-numbers (xs ++ ys)
low-parts xs ys one other z h = by (list-any-parts xs ys z h)
  where
    by : (list_any (λ o. o == z) xs ≡ true) ⊎ (list_any (λ o. o == z) ys ≡ true) → z < 988
    by (inl h) = one z h
    by (inr h) = other z h

low-one : (n : ℕ) → nat_lt 987 n ≡ false → low-numbers (n ∷ [])
low-one n low z h = by (eqb_tells n z) h
  where
    by : (((n == z) ≡ true) × (n ≡ z)) ⊎ (((n == z) ≡ false) × (n ≡ z → ⊥)) → ((n == z) || false) ≡ true → z < 988
    by (inl is) h = let e : n ≡ z = is.1 in let small : n ≤ 987 = grind (arith, nat_tests) in omega arith
    by (inr is) h = let e : ((n == z) || false) ≡ false = ap (λ b. b || false) is.0 in absurd (cc)

irqs-low : (guest : ℕ) (path : Bytes) (held : List Interrupt) (number : ℕ) (is : List Interrupt) → are_sound (theirs.interrupts_from guest path held number is) ≡ true → low-numbers (irq_numbers (theirs.interrupts_from guest path held number is))
irqs-low guest path held number [] sound = λ z h. absurd (cc)
irqs-low guest path held number (i ∷ is) sound =
    let item : Item = item_in parts.Irq guest path number in
    let first : Described = described item (theirs.interrupt_reason held i) (whats.Irq i.number) in
    let later : List Described = theirs.interrupts_from guest path held (number + 1) is in
    let both = sound-first first later sound in
    let fine : theirs.interrupt_reason held i ≡ None = sound-reason item (theirs.interrupt_reason held i) (whats.Irq i.number) both.0 in
    let low = (or-false (not (i.kind == 0)) (nat_lt 987 i.number) (passed whys.BadValue (theirs.is_no_spi i) _ fine).0).1 in
    rw fine (low-parts (i.number ∷ []) (irq_numbers later) (low-one i.number low) (irqs-low guest path held (number + 1) is both.1))

-- the shared interrupts that some properties name
abbrev pub numbers_named : List Property → List ℕ
numbers_named ps = interrupts_of ([], ps)

projected : (ts : List (ℕ × ℕ × ℕ)) → shared_numbers (map pair_of ts) ≡ map (λ (t : ℕ × ℕ × ℕ). t.1) (filter (λ (t : ℕ × ℕ × ℕ). t.0 == 0) ts)
projected [] = refl
projected (t ∷ ts) = by (t.0 == 0) (projected ts)
  where
    by : (b : Bool) → shared_numbers (map pair_of ts) ≡ map (λ (t : ℕ × ℕ × ℕ). t.1) (filter (λ (t : ℕ × ℕ × ℕ). t.0 == 0) ts) → map (λ (p : Pair). p.1) (cond b (pair_of t ∷ filter (λ (p : Pair). p.0 == 0) (map pair_of ts)) (filter (λ (p : Pair). p.0 == 0) (map pair_of ts))) ≡ map (λ (t : ℕ × ℕ × ℕ). t.1) (cond b (t ∷ filter (λ (t : ℕ × ℕ × ℕ). t.0 == 0) ts) (filter (λ (t : ℕ × ℕ × ℕ). t.0 == 0) ts))
    by true rest = ap (λ z. t.1 ∷ z) rest
    by false rest = rest

module _ (host : Tree) (guest : ℕ) where
  -- the device's `interrupts` is whole threes where the device has no fault
  whole-list : (n : nodes.Node) → is_none (device_item host guest n).own ≡ true → has_bad_interrupts n.properties ≡ false
  whole-list n fine =
      let found = host_node host n.properties in
      let none = sound-reason _ (device_reason host n) whats.Device fine in
      let a = passed whys.Missing (lacks_path n.properties) _ none in
      let b = passed whys.BadValue (has_bad_path n.properties || has_bad_cells n) _ a.1 in
      let c = passed whys.NoHostNode (lacks_host n.properties found) _ b.1 in
      let d = passed whys.NoIommu (lacks_iommu n.properties found) _ c.1 in
      let e = passed whys.ExtendedInterrupts (is_extended n.properties found) _ d.1 in
      let f = passed whys.BadLength (has_bad_length n found) _ e.1 in
      (or-false (has_bad_reg n) (has_bad_interrupts n.properties) (or-false (has_bad_reg n || has_bad_interrupts n.properties) (has_bad_interrupts (properties_of found)) f.0).0).1

  device-numbers : (n : nodes.Node) → is_none (device_item host guest n).own ≡ true → are_sound (theirs.irq_items host guest n) ≡ true → irq_numbers (theirs.irq_items host guest n) ≡ numbers_named n.properties
  device-numbers n fine sound =
      irqs-read guest (nodes.shown n.path) (theirs.interrupts_of (properties_of (host_node host n.properties))) 0 (theirs.interrupts_of n.properties) sound ∙ by (property_of n.properties (codes "interrupts")) (whole-list n fine)
    where
      true-of : (b : Bool) → not b ≡ false → b ≡ true
      true-of true h = refl
      true-of false h = absurd (cc)

      by : (o : Option Bytes) → values.passes (λ value. not (is_whole 3 value)) o ≡ false → shared_numbers (map said (option_map_or theirs.interrupts_in o [])) ≡ map (λ (t : ℕ × ℕ × ℕ). t.1) (filter (λ (t : ℕ × ℕ × ℕ). t.0 == 0) (on_some o triples))
      by None h = refl
      by (Some value) h = ap shared_numbers (sym (whole-threes value (true-of (is_whole 3 value) h))) ∙ projected (triples value)

  not-device : (n : nodes.Node) → is_device n ≡ false → numbers_named n.properties ≡ []
  not-device n other =
      by (property_of n.properties (codes "interrupts")) (or-false (values.has n.properties (codes "xen,reg") || values.has n.properties (codes "xen,path")) (values.has n.properties (codes "interrupts")) (or-false (values.has n.properties (codes "xen,reg") || values.has n.properties (codes "xen,path") || values.has n.properties (codes "interrupts")) (values.has n.properties (codes "interrupts-extended")) other).0).1
    where
      by : (o : Option Bytes) → is_some o ≡ false → map (λ (t : ℕ × ℕ × ℕ). t.1) (filter (λ (t : ℕ × ℕ × ℕ). t.0 == 0) (on_some o triples)) ≡ []
      by None h = refl
      by (Some value) h = absurd (cc)

  irq-parts : (xs ys : List Described) → irq_numbers (xs ++ ys) ≡ irq_numbers xs ++ irq_numbers ys
  irq-parts xs ys = flat_map-append (λ (d : Described). irq_of d.what) xs ys

  all-numbers : (ns : List nodes.Node) → are_sound (map (device_item host guest) (filter is_device ns)) ≡ true → are_sound (flat_map (theirs.irq_items host guest) (filter is_device ns)) ≡ true → irq_numbers (flat_map (theirs.irq_items host guest) (filter is_device ns)) ≡ flat_map (λ (n : nodes.Node). numbers_named n.properties) ns
  all-numbers [] fine sound = refl
  all-numbers (n ∷ ns) fine sound = by (is_device n) refl (all-numbers ns) fine sound
    where
      by : (b : Bool) → is_device n ≡ b → (are_sound (map (device_item host guest) (filter is_device ns)) ≡ true → are_sound (flat_map (theirs.irq_items host guest) (filter is_device ns)) ≡ true → irq_numbers (flat_map (theirs.irq_items host guest) (filter is_device ns)) ≡ flat_map (λ (n : nodes.Node). numbers_named n.properties) ns) → are_sound (map (device_item host guest) (cond b (n ∷ filter is_device ns) (filter is_device ns))) ≡ true → are_sound (flat_map (theirs.irq_items host guest) (cond b (n ∷ filter is_device ns) (filter is_device ns))) ≡ true → irq_numbers (flat_map (theirs.irq_items host guest) (cond b (n ∷ filter is_device ns) (filter is_device ns))) ≡ numbers_named n.properties ++ flat_map (λ (n : nodes.Node). numbers_named n.properties) ns
      by true is rest fine sound =
          let d = sound-first (device_item host guest n) (map (device_item host guest) (filter is_device ns)) fine in
          let s = sound-parts (theirs.irq_items host guest n) (flat_map (theirs.irq_items host guest) (filter is_device ns)) sound in
          irq-parts (theirs.irq_items host guest n) (flat_map (theirs.irq_items host guest) (filter is_device ns)) ∙ (ap (λ z. z ++ irq_numbers (flat_map (theirs.irq_items host guest) (filter is_device ns))) (device-numbers n d.0 s.0) ∙ ap (λ z. numbers_named n.properties ++ z) (rest d.1 s.1))
      by false is rest fine sound = rest fine sound ∙ ap (λ z. z ++ flat_map (λ (n : nodes.Node). numbers_named n.properties) ns) (sym (not-device n is))

  all-low : (ns : List nodes.Node) → are_sound (flat_map (theirs.irq_items host guest) ns) ≡ true → low-numbers (irq_numbers (flat_map (theirs.irq_items host guest) ns))
  all-low [] sound = λ z h. absurd (cc)
  all-low (n ∷ ns) sound =
      let s = sound-parts (theirs.irq_items host guest n) (flat_map (theirs.irq_items host guest) ns) sound in
      subst low-numbers (sym (irq-parts (theirs.irq_items host guest n) (flat_map (theirs.irq_items host guest) ns))) (low-parts _ _ (irqs-low guest (nodes.shown n.path) _ 0 (theirs.interrupts_of n.properties) s.0) (all-low ns s.1))

-- the nodes below a node, as a reader finds them and with their places
below-numbers : (path : Bytes) (above : nodes.Node) (number : ℕ) (ts : Trees) → flat_map interrupts_of (devices_below path ts) ≡ flat_map (λ (n : nodes.Node). numbers_named n.properties) (nodes.nodes_from above number ts)
below-numbers path above number none = refl
below-numbers path above number (tree name properties children rest) =
    let here : Bytes = path ++ 47 ∷ name in
    let node : nodes.Node = nodes.child above number name properties children in
    let inner = below-numbers here node 0 children in
    let later = below-numbers path above (number + 1) rest in
    ap (λ z. numbers_named properties ++ z) (flat_map-append interrupts_of (devices_below here children) (devices_below path rest) ∙ (ap (λ z. z ++ flat_map interrupts_of (devices_below path rest)) inner ∙ (ap (λ z. flat_map (λ (n : nodes.Node). numbers_named n.properties) (nodes.nodes_from node 0 children) ++ z) later ∙ sym (flat_map-append (λ (n : nodes.Node). numbers_named n.properties) (nodes.nodes_from node 0 children) (nodes.nodes_from above (number + 1) rest)))))

-- the nodes below `/passthrough`
passed-numbers : (partial : Tree) → flat_map interrupts_of (devices_in partial) ≡ flat_map (λ (n : nodes.Node). numbers_named n.properties) (passed_nodes partial)
unfolding devices_in
passed-numbers partial = by (find_place partial (codes "/passthrough"))
  where
    here : (above : nodes.Node) (o : Option Tree) → flat_map interrupts_of (on_some o (λ (node : Tree). devices_below (codes "/passthrough") node.children)) ≡ flat_map (λ (n : nodes.Node). numbers_named n.properties) (nodes.nodes_from above 0 (option_map_or (λ (t : Tree). t.children) o none))
    here above None = refl
    here above (Some t) = below-numbers (codes "/passthrough") above 0 t.children

    by : (o : Option Place) → flat_map interrupts_of (on_some (option_and_then (at partial) o) (λ (node : Tree). devices_below (codes "/passthrough") node.children)) ≡ flat_map (λ (n : nodes.Node). numbers_named n.properties) (option_map_or nodes.descendants (option_map (nodes.node_at partial) o) [])
    by None = refl
    by (Some p) = here (nodes.node_at partial p) (at partial p)

-- the other items name no interrupt
tree-none : (item : Item) (why : Option Why) (gic : ℕ) → irq_of (described item why (whats.Partial gic)).what ≡ []
tree-none item None gic = refl
tree-none item (Some why) gic = refl

devices-none : (host : Tree) (guest : ℕ) (ns : List nodes.Node) → irq_numbers (map (device_item host guest) ns) ≡ []
devices-none host guest [] = refl
devices-none host guest (n ∷ ns) = by (device_reason host n) (devices-none host guest ns)
  where
    by : (why : Option Why) → irq_numbers (map (device_item host guest) ns) ≡ [] → irq_of (described (item_in parts.Device guest (nodes.shown n.path) 0) why whats.Device).what ++ irq_numbers (map (device_item host guest) ns) ≡ []
    by None rest = rest
    by (Some why) rest = rest

ranges-none : (before : List Window) (entries : List Entry) → irq_numbers (ranges_after before entries) ≡ []
ranges-none before [] = refl
ranges-none before (entry ∷ entries) = by (range_reason before entry.range) (ranges-none (and_range before entry.range) entries)
  where
    by : (why : Option Why) → irq_numbers (ranges_after (and_range before entry.range) entries) ≡ [] → irq_of (described entry.item why (whats.Range entry.range.host entry.range.size entry.range.guest)).what ++ irq_numbers (ranges_after (and_range before entry.range) entries) ≡ []
    by None rest = rest
    by (Some why) rest = rest

abbrev first_items : Tree → Tree → ℕ → List Described
first_items partial host guest = partial_item partial guest ∷ map (device_item host guest) (devices partial)

abbrev last_items : Tree → Tree → ℕ → List Described
last_items partial host guest = flat_map (theirs.irq_items host guest) (devices partial)

first-none : (partial host : Tree) (guest : ℕ) → irq_numbers (first_items partial host guest ++ range_items partial guest) ≡ []
first-none partial host guest =
    irq-parts host guest (first_items partial host guest) (range_items partial guest) ∙ (ap (λ z. z ++ irq_numbers (range_items partial guest)) (ap (λ z. z ++ irq_numbers (map (device_item host guest) (devices partial))) (tree-none _ _ _) ∙ devices-none host guest (devices partial)) ∙ ranges-none [] (flat_map (entries_of guest) (devices partial)))

-- a partial tree whose items have no fault has none
pub whole-sound : (partial host : Tree) (guest : ℕ) → are_sound (partial_items partial host guest) ≡ true → partial_reason partial ≡ None
unfolding partial_items
whole-sound partial host guest sound =
    let before : List Described = first_items partial host guest ++ range_items partial guest in
    let outer = sound-parts before (last_items partial host guest) sound in
    let inner = sound-parts (first_items partial host guest) (range_items partial guest) outer.0 in
    sound-reason _ (partial_reason partial) _ (sound-first (partial_item partial guest) (map (device_item host guest) (devices partial)) inner.0).0

-- The interrupts of a partial tree whose items have no fault: those of its items, in order, are those that a reader finds.
pub interrupts-of-items : (partial host : Tree) (guest : ℕ) → are_sound (partial_items partial host guest) ≡ true → filter (λ number. list_any (λ other. other == number) (irq_numbers (partial_items partial host guest))) (numbers 0 988) ≡ interrupts_in (partial_devices (Some partial))
unfolding partial_items interrupts_in
interrupts-of-items partial host guest sound =
    let before : List Described = first_items partial host guest ++ range_items partial guest in
    let last : List Described = last_items partial host guest in
    let items : List Described = before ++ last in
    let outer = sound-parts before last sound in
    let inner = sound-parts (first_items partial host guest) (range_items partial guest) outer.0 in
    let fine = sound-first (partial_item partial guest) (map (device_item host guest) (devices partial)) inner.0 in
    let only : irq_numbers items ≡ irq_numbers last = irq-parts host guest before last ∙ ap (λ z. z ++ irq_numbers last) (first-none partial host guest) in
    let found : irq_numbers items ≡ flat_map interrupts_of (devices_in partial) = only ∙ (all-numbers host guest (passed_nodes partial) fine.1 outer.1 ∙ sym (passed-numbers partial)) in
    let low : low-numbers (irq_numbers items) = subst low-numbers (sym only) (all-low host guest (devices partial) outer.1) in
    sym (in_order-filter 988 (irq_numbers items) low) ∙ ap in_order found
