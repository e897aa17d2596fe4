-- Items are sound up to the first one with a reason of its own.
use Rattle.std.proofs.Common.{◌≡◌, ◌∙◌, ap, sym, subst, refl, ℕ, ◌+◌, ◌%◌, ◌^◌, ◌≤◌, List, [], ◌∷◌, ◌++◌, Some, None, true, false, Bool, length, arith}
use Rattle.std.specs.Prelude.{Option, map, flat_map, ◌==◌, ◌||◌, ◌&&◌, not, nat_lt, nat_le}
use Rattle.std.specs.List.{list_any}
use Rattle.described.specs.declared.item.Described.{Described}
use Rattle.described.specs.declared.item.Part.TheVariants as parts
use Rattle.described.specs.declared.item.What.{What}
use Rattle.described.specs.declared.item.What.TheVariants as whats
use Rattle.described.specs.declared.why.Why.{Why}
use Rattle.described.specs.declared.why.Why.TheVariants.{TooMany, NotPage, TooHigh, TooLarge, BadValue, IrqNotHost}
use Rattle.fdt_tree.specs.Tree.{Bytes, Tree}
use Rattle.fdt_nodes.specs.declared.entries.Window.{Window}
use Rattle.fdt_nodes.specs.Nodes.{Node, shown}
use Rattle.passthrough_dtb.specs.declared.interrupts.Interrupt.{Interrupt}
use Rattle.described.specs.Reasons.{where_so, first_reason, is_not_page, is_too_high, is_too_large}
use Rattle.passthrough_dtb.specs.Whole.{item_in, partial_reason}
use Rattle.passthrough_dtb.specs.Devices.{devices, device_item, device_reason, host_node, properties_of}
use Rattle.passthrough_dtb.specs.Ranges.{Entry, same_range, is_among, and_range, new_range_reason, range_reason, ranges_after, range_items, entries_of}
use Rattle.passthrough_dtb.specs.Interrupts.{interrupts_of, is_no_spi, same_interrupt, interrupt_reason, interrupts_from, irq_items}
use Rattle.passthrough_dtb.specs.Items.{partial_items}
use Rattle.described.specs.Sound.{AreWholePages, SoundUnless, AreSound}
use Rattle.described.proofs.Soundness.{sound-item, neither, holds, to_eq, to_le, to_some}

-- what an item says is kept where what follows is weakened
unless-then : (own : Option Why) (what : What) (A B : Type 0) → (A → B) → SoundUnless own what A → SoundUnless own what B
unless-then None what A B weaker both = (both.0, weaker both.1)
unless-then (Some why) what A B weaker both = tt

pub sound-append : (one other : List Described) → AreSound one → AreSound other → AreSound (one ++ other)
sound-append [] other sound later = later
sound-append (item ∷ one) other sound later =
    unless-then item.own item.what (AreSound one) (AreSound (one ++ other)) (λ rest. sound-append one other rest later) sound

pub sound-flat : {A : Type 0} (f : A → List Described) → ((a : A) → AreSound (f a)) → (xs : List A) → AreSound (flat_map f xs)
sound-flat f each [] = tt
sound-flat f each (x ∷ xs) = sound-append (f x) (flat_map f xs) (each x) (sound-flat f each xs)

-- two addresses and a size that pass both tests
pub pages : (one other size : ℕ) → is_not_page (one ∷ other ∷ []) size ≡ false → is_too_high (one ∷ other ∷ []) size ≡ false → AreWholePages one size × AreWholePages other size
pages one other size whole low =
    let not_one = not (one % 4096 == 0) in
    let not_other = not (other % 4096 == 0) in
    let not_size = not (size % 4096 == 0) in
    let outer = neither ((not_one || (not_other || false)) || not_size) (size == 0) whole in
    let middle = neither (not_one || (not_other || false)) not_size outer.0 in
    let inner = neither not_one (not_other || false) middle.0 in
    let second = neither not_other false inner.1 in
    let ends = neither (nat_lt (2 ^ 40) (one + size)) (nat_lt (2 ^ 40) (other + size) || false) low in
    let last = neither (nat_lt (2 ^ 40) (other + size)) false ends.1 in
    let size_is : size % 4096 ≡ 0 = to_eq _ _ (holds (size % 4096 == 0) middle.1) in (
      record { base_whole = to_eq _ _ (holds (one % 4096 == 0) inner.0); size_whole = size_is; some = to_some size outer.1; low = to_le (2 ^ 40) (one + size) ends.0 },
      record { base_whole = to_eq _ _ (holds (other % 4096 == 0) second.0); size_whole = size_is; some = to_some size outer.1; low = to_le (2 ^ 40) (other + size) last.0 },
    )

-- the numbers of a range
abbrev IsSoundRange : Window → Type 0
IsSoundRange range = AreWholePages range.host range.size × AreWholePages range.guest range.size

abbrev AllSoundRanges : List Window → Type 0
AllSoundRanges [] = Unit {0}
AllSoundRanges (range ∷ ranges) = IsSoundRange range × AllSoundRanges ranges

same_sound : (one other : Window) → same_range one other ≡ true → IsSoundRange other → IsSoundRange one
same_sound one other same sound =
    let outer = both ((one.host == other.host) && (one.guest == other.guest)) (one.size == other.size) same in
    let inner = both (one.host == other.host) (one.guest == other.guest) outer.0 in
    let host : other.host ≡ one.host = sym (to_eq _ _ inner.0) in
    let guest : other.guest ≡ one.guest = sym (to_eq _ _ inner.1) in
    let size : other.size ≡ one.size = sym (to_eq _ _ outer.1) in (
      subst (λ (h : ℕ). AreWholePages h one.size) host (subst (λ (s : ℕ). AreWholePages other.host s) size sound.0),
      subst (λ (g : ℕ). AreWholePages g one.size) guest (subst (λ (s : ℕ). AreWholePages other.guest s) size sound.1),
    )
  where
    both : (a b : Bool) → (a && b) ≡ true → (a ≡ true) × (b ≡ true)
    both true b is = (refl, is)
    both false b is = absurd (cc)

among_sound : (before : List Window) (range : Window) → AllSoundRanges before → is_among before range ≡ true → IsSoundRange range
among_sound [] range sound is = absurd (cc)
among_sound (first ∷ before) range sound is = by (same_range range first) refl is (among_sound before range sound.1)
  where
    by : (b : Bool) → same_range range first ≡ b → is_among (first ∷ before) range ≡ true → (is_among before range ≡ true → IsSoundRange range) → IsSoundRange range
    by true same found later = same_sound range first same sound.0
    by false same found later = later (sym (ap (λ (b : Bool). b || is_among before range) same) ∙ found)

no_reason : (a b c d : Bool) → first_reason (where_so a TooMany ∷ where_so b NotPage ∷ where_so c TooHigh ∷ where_so d TooLarge ∷ []) ≡ None → (b ≡ false) × (c ≡ false)
no_reason true b c d is = absurd (cc)
no_reason false true c d is = absurd (cc)
no_reason false false true d is = absurd (cc)
no_reason false false false d is = (refl, refl)

new_sound : (before : List Window) (range : Window) → new_range_reason before range ≡ None → IsSoundRange range
new_sound before range none =
    let tests = no_reason (nat_le 64 (length before)) (is_not_page (range.host ∷ range.guest ∷ []) range.size) (is_too_high (range.host ∷ range.guest ∷ []) range.size) (is_too_large range.size) none in
    pages range.host range.guest range.size tests.0 tests.1

all-last : (before : List Window) (range : Window) → AllSoundRanges before → IsSoundRange range → AllSoundRanges (before ++ range ∷ [])
all-last [] range sound one = (one, tt)
all-last (first ∷ before) range sound one = (sound.0, all-last before range sound.1 one)

-- a range without a reason is sound, and so are those before it and it
range_sound : (before : List Window) (range : Window) → AllSoundRanges before → range_reason before range ≡ None → IsSoundRange range × AllSoundRanges (and_range before range)
range_sound before range sound none = by (is_among before range) refl
  where
    by : (b : Bool) → is_among before range ≡ b → IsSoundRange range × AllSoundRanges (and_range before range)
    by true is = (among_sound before range sound is, rw is sound)
    by false is =
        let fresh : new_range_reason before range ≡ None = rw is at none in
        let one = new_sound before range fresh in
        (one, rw is (all-last before range sound one))

sound_ranges : (before : List Window) (entries : List Entry) → AllSoundRanges before → AreSound (ranges_after before entries)
sound_ranges before [] sound = tt
sound_ranges before (entry ∷ rest) sound =
    sound-item entry.item (range_reason before entry.range) (whats.Range entry.range.host entry.range.size entry.range.guest) (AreSound (ranges_after (and_range before entry.range) rest))
    (λ none. let both = range_sound before entry.range sound none in (both.0, sound_ranges (and_range before entry.range) rest both.1))

-- an interrupt without a reason has a number below 988
no_fault : (a b : Bool) → first_reason (where_so a BadValue ∷ where_so b IrqNotHost ∷ []) ≡ None → a ≡ false
no_fault true b is = absurd (cc)
no_fault false b is = refl

sound_interrupts : (guest : ℕ) (path : Bytes) (held : List Interrupt) (number : ℕ) (interrupts : List Interrupt) → AreSound (interrupts_from guest path held number interrupts)
sound_interrupts guest path held number [] = tt
sound_interrupts guest path held number (interrupt ∷ rest) =
    sound-item (item_in parts.Irq guest path number) (interrupt_reason held interrupt) (whats.Irq interrupt.number) (AreSound (interrupts_from guest path held (number + 1) rest))
    (λ none.
    let spi = no_fault (is_no_spi interrupt) (not (list_any (same_interrupt interrupt) held)) none in
    let few = (neither (not (interrupt.kind == 0)) (nat_lt 987 interrupt.number) spi).1 in
    let low : interrupt.number ≤ 987 = to_le 987 interrupt.number few in
    (omega (arith, low), sound_interrupts guest path held (number + 1) rest))

sound_devices : (host : Tree) (guest : ℕ) (nodes : List Node) → AreSound (map (device_item host guest) nodes)
sound_devices host guest [] = tt
sound_devices host guest (node ∷ nodes) =
    sound-item (item_in parts.Device guest _ 0) (device_reason host node) whats.Device (AreSound (map (device_item host guest) nodes)) (λ none. (tt, sound_devices host guest nodes))

sound_irqs : (host : Tree) (guest : ℕ) (node : Node) → AreSound (irq_items host guest node)
sound_irqs host guest node =
    sound_interrupts guest (shown node.path) (interrupts_of (properties_of (host_node host node.properties))) 0 (interrupts_of node.properties)

-- all items of a partial tree
pub sound_items : (partial host : Tree) (guest : ℕ) → AreSound (partial_items partial host guest)
unfolding partial_items
sound_items partial host guest =
    let irqs = flat_map (irq_items host guest) (devices partial) in
    let rest = map (device_item host guest) (devices partial) ++ range_items partial guest ++ irqs in
    sound-item (item_in parts.Partial guest _ 0) (partial_reason partial) (whats.Partial _) (AreSound rest)
    (λ none. (
      tt,
      sound-append (map (device_item host guest) (devices partial) ++ range_items partial guest) irqs
          (sound-append (map (device_item host guest) (devices partial)) (range_items partial guest) (sound_devices host guest (devices partial)) (sound_ranges [] (flat_map (entries_of guest) (devices partial)) tt))
          (sound-flat (irq_items host guest) (sound_irqs host guest) (devices partial)),
    ))
