-- What a guest is mapped to is apart.
use Rattle.std.proofs.Common.{◌≡◌, ℕ, ◌/◌, ◌<◌, ◌≤◌, ◌⊎◌, Bool, true, false, cond, List, [], ◌∷◌, Option, Some, None, Ok, refl, sym, ap, subst, ◌∙◌, arith, inl, inr}
use Rattle.std.specs.Prelude.{slice_get, option_map, ◌==◌, flat_map}
use Rattle.std.proofs.lemmas.Option.{same_Some, none-some, slice_get-map, slice_get_within, get_or_from_slice_get}
use Rattle.std.proofs.lemmas.Bool.Decides.{eqb_tells}
use Rattle.described.specs.Maps.{Target, target_of}
use Rattle.texts.specs.declared.ranges.FrameRange.{FrameRange}
use Rattle.texts.specs.declared.ranges.BaseSize.{BaseSize}
use Rattle.described.specs.declared.map_range.Kind.TheVariants.{Ram, Device, Shared}
use Rattle.described.specs.declared.item.What.{What}
use Rattle.described.specs.declared.item.What.TheVariants as whats
use Rattle.item_checks.specs.declared.guests.Guest.{Guest}
use Rattle.domain_bindings.specs.declared.host.Host.{Host}
use Rattle.described.specs.declared.loaded.Loaded.{Loaded}
use Rattle.frame_alloc.specs.Ranges.{holds, touched}
use Rattle.item_checks.specs.Entries.{Entry, joined}
use Rattle.item_checks.specs.Taken.{Passed, what_of, belongs_to, is_direct, is_repeated, pages_before, bank_pages, pages_of, all_passed, passed_of}
use Rattle.item_checks.specs.Refusals.{first_refused}
use Rattle.domain_plan.specs.Draws.{Heaps, heaps}
use Rattle.domain_plan.specs.GuestMaps.{laid, maps_of, guest_ranges}
use Rattle.domain_plan.specs.Arguments.{AreRead, IsSoundGuest, head_of}
use Rattle.frame_alloc.proofs.CommonFrames.{not_both}
use Rattle.domain_plan.proofs.ClearLemmas.{IsClear, all_clear, is_mapping, pages_apart}
use Rattle.domain_plan.proofs.MapLemmas.{item_tells, total, item_ranges, items_tell}
use Rattle.domain_plan.proofs.FunctionLemmas.{AreApart, ArePagesApart, apart_append, apart_onto, one_page_range, apart_banks, laid_pages, apart_laid, AreItemsApart, apart_items}
use Rattle.domain_plan.proofs.HeadLemmas.{heaps_total, entries_passed, head_joined, no_own}

-- the guest of an item that belongs to one
pub belongs_tells : (number : ℕ) (p : Passed) → belongs_to (Some number) p ≡ true → p.entry.guest ≡ Some number
belongs_tells number p h = by_guest p.entry.guest refl
  where
    by_guest : (g : Option ℕ) → p.entry.guest ≡ g → p.entry.guest ≡ Some number
    by_guest None is = not_both false (sym (ap (λ (guest : Option ℕ). elim guest as (λ _. Bool) [ None ↦ false | Some other ↦ other == number ]) is) ∙ h) refl
    by_guest (Some other) is = by_number (sym (ap (λ (guest : Option ℕ). elim guest as (λ _. Bool) [ None ↦ false | Some n ↦ n == number ]) is) ∙ h) (eqb_tells other number)
      where
        by_number : (other == number) ≡ true → (((other == number) ≡ true) × (other ≡ number)) ⊎ (((other == number) ≡ false) × (other ≡ number → ⊥)) → p.entry.guest ≡ Some number
        by_number e (inl k) = is ∙ ap Some k.1
        by_number e (inr k) = not_both _ e k.0

pub guest_belongs : (number : ℕ) (p : Passed) → p.entry.guest ≡ Some number → belongs_to (Some number) p ≡ true
guest_belongs number p is = ap (λ (guest : Option ℕ). elim guest as (λ _. Bool) [ None ↦ false | Some n ↦ n == number ]) is ∙ by_number (eqb_tells number number)
  where
    by_number : (((number == number) ≡ true) × (number ≡ number)) ⊎ (((number == number) ≡ false) × (number ≡ number → ⊥)) → (number == number) ≡ true
    by_number (inl k) = k.0
    by_number (inr k) = absurd (k.1 refl)

-- the ranges of one item are apart
own_apart : (front : List Passed) (mine : Passed) → mine.pages ≡ pages_of front mine.entry → AreApart (maps_of mine)
own_apart front mine pages = by_what (what_of mine) refl
  where
    by_direct : (at : BaseSize) (b : Bool) (k : ℕ) → mine.pages ≡ cond b (touched at ∷ []) (bank_pages k (touched at).count) → ArePagesApart mine.pages
    by_direct at true k is = subst ArePagesApart (sym is) (one_page_range (touched at))
    by_direct at false k is = subst ArePagesApart (sym is) (apart_banks k (touched at).count)

    by_repeat : (range : FrameRange) (b : Bool) → mine.pages ≡ cond b [] (range ∷ []) → ArePagesApart mine.pages
    by_repeat range true is = subst ArePagesApart (sym is) tt
    by_repeat range false is = subst ArePagesApart (sym is) (one_page_range range)

    by_what : (what : What) → what_of mine ≡ what → AreApart (maps_of mine)
    by_what (whats.Static at) w =
        let own : mine.pages ≡ cond (is_direct front mine.entry.guest) (touched at ∷ []) (bank_pages (pages_before front mine.entry.guest) (touched at).count) = rw w at pages in
        rw w (apart_onto Ram (at.base / 4096) mine.pages (by_direct at (is_direct front mine.entry.guest) (pages_before front mine.entry.guest) own))
    by_what (whats.Range host size guest) w =
        let own : mine.pages ≡ cond (is_repeated front mine.entry.guest host size guest) [] (touched (record { base = guest; size = size }) ∷ []) = rw w at pages in
        rw w (apart_onto Device (host / 4096) mine.pages (by_repeat (touched (record { base = guest; size = size })) (is_repeated front mine.entry.guest host size guest) own))
    by_what (whats.Shared id None guest size owner) w = rw w tt
    by_what (whats.Shared id (Some host) guest size owner) w =
        let own : mine.pages ≡ touched (record { base = guest; size = size }) ∷ [] = rw w at pages in
        rw w (apart_onto Shared (host / 4096) mine.pages (subst ArePagesApart (sym own) (one_page_range (touched (record { base = guest; size = size })))))
    by_what _ w = rw w tt

head_pages : (front : List Passed) (p : Passed) (guest : Guest) → p.pages ≡ pages_of front p.entry → what_of p ≡ head_of guest.domain → p.pages ≡ bank_pages 0 guest.domain.pages
head_pages front p guest pages says = rw says at pages

pub sound_guest : (host : Host) (loads : List Loaded) (guests : List Guest) → AreRead host loads guests → first_refused host [] (joined host loads guests) ≡ None → (number : ℕ) (guest : Guest) → slice_get guests number ≡ Some guest → IsSoundGuest guest
sound_guest host loads guests read none number guest at =
    let all = read.guests_sound (no_own host [] (joined host loads guests) none) in
    subst IsSoundGuest (get_or_from_slice_get guests number guest guest at) (all number guest (slice_get_within guests number guest at))

-- an entry that was passed, at its place
pub passed_at : (entries : List Entry) (k : ℕ) (entry : Entry) → slice_get entries k ≡ Some entry → (p : Passed) × (slice_get (all_passed [] entries) k ≡ Some p) × (p.entry ≡ entry)
passed_at entries k entry at = by_found (slice_get (all_passed [] entries) k) refl told
  where
    told : option_map (λ (one : Passed). one.entry) (slice_get (all_passed [] entries) k) ≡ Some entry
    told = sym (slice_get-map (λ (one : Passed). one.entry) (all_passed [] entries) k) ∙ ap (λ (xs : List Entry). slice_get xs k) (entries_passed [] entries) ∙ at

    by_found : (o : Option Passed) → slice_get (all_passed [] entries) k ≡ o → option_map (λ (one : Passed). one.entry) o ≡ Some entry → (p : Passed) × (slice_get (all_passed [] entries) k ≡ Some p) × (p.entry ≡ entry)
    by_found None is e = absurd (none-some _ e)
    by_found (Some p) is e = (p, is, same_Some p.entry entry e)

entry_at : (entries : List Entry) (k : ℕ) (p : Passed) → slice_get (all_passed [] entries) k ≡ Some p → slice_get entries k ≡ Some p.entry
entry_at entries k p at =
    ap (λ (xs : List Entry). slice_get xs k) (sym (entries_passed [] entries)) ∙ slice_get-map (λ (one : Passed). one.entry) (all_passed [] entries) k ∙ ap (option_map (λ (one : Passed). one.entry)) at

pub guests_apart : (host : Host) (loads : List Loaded) (guests : List Guest) (all : Heaps) → AreRead host loads guests → first_refused host [] (joined host loads guests) ≡ None → (free : List ℕ) → heaps guests free ≡ Ok all →
    (number : ℕ) (drawn : List FrameRange) → slice_get all.drawn number ≡ Some drawn → AreApart (guest_ranges (passed_of host loads guests) number drawn)
unfolding guest_ranges
guests_apart host loads guests all read none free drew number drawn at =
    apart_append (laid 0 drawn) (flat_map (item_ranges number) passed) (apart_laid 0 drawn) (apart_items number passed each items) cross
  where
    passed : List Passed
    passed = passed_of host loads guests

    clear : (k : ℕ) (p : Passed) → slice_get (passed_of host loads guests) k ≡ Some p → (front : List Passed) × IsClear host (passed_of host loads guests) k p front
    clear k p there = all_clear host [] (joined host loads guests) none read.items k p (omega arith) there

    each : (k : ℕ) (p : Passed) → slice_get (passed_of host loads guests) k ≡ Some p → AreApart (maps_of p)
    each k p there = let c = clear k p there in own_apart c.0 p (ap (λ (one : Passed). one.pages) c.1.made)

    items : AreItemsApart number (passed_of host loads guests)
    items j k page one other p q low p_at q_at p_of q_of p_maps q_maps =
        let a = clear j p p_at in
        let b = clear k q q_at in
        let m = item_tells host (passed_of host loads guests) j p a.0 page one a.1 p_maps in
        let n = item_tells host (passed_of host loads guests) k q b.0 page other b.1 q_maps in
        pages_apart host (passed_of host loads guests) j k number p q b.0 page low p_at b.1 n.mapping (belongs_tells number q q_of) p_of m.filled n.filled

    before_it : (j k : ℕ) (p q : Passed) (guest : Guest) (page : ℕ) (front : List Passed) → j ≤ k → slice_get (passed_of host loads guests) j ≡ Some p → slice_get (passed_of host loads guests) k ≡ Some q → IsClear host (passed_of host loads guests) k q front →
        is_mapping (what_of q) ≡ true → what_of p ≡ head_of guest.domain → q.entry.guest ≡ Some number → belongs_to (Some number) p ≡ true → holds p.pages page ≡ true → holds q.pages page ≡ true → ⊥
    before_it j k p q guest page front low p_at q_at q_clear mapping says of_guest belongs one other = by_order (order j k low)
      where
        order : (j k : ℕ) → j ≤ k → (j < k) ⊎ (j ≡ k)
        order j k low = grind arith

        by_order : (j < k) ⊎ (j ≡ k) → ⊥
        by_order (inl less) = pages_apart host (passed_of host loads guests) j k number p q front page less p_at q_clear mapping of_guest belongs one other
        by_order (inr at_same) =
            let same : p ≡ q = same_Some p q (sym p_at ∙ ap (slice_get (passed_of host loads guests)) at_same ∙ q_at) in
            let head : what_of q ≡ head_of guest.domain = ap what_of (sym same) ∙ says in
            not_both (is_mapping (what_of q)) mapping (ap is_mapping head)

    cross : (page : ℕ) (one other : Target) → target_of (laid 0 drawn) page ≡ Some one → target_of (flat_map (item_ranges number) (passed_of host loads guests)) page ≡ Some other → ⊥
    cross page one other e f =
        let found = items_tell (passed_of host loads guests) number page other f in
        let c = clear found.place found.mine found.at in
        let n = item_tells host (passed_of host loads guests) found.place found.mine c.0 page other c.1 found.mapped in
        let of_guest = belongs_tells number found.mine found.belongs in
        let head = head_joined host loads guests found.place number found.mine.entry (entry_at (joined host loads guests) found.place found.mine found.at) of_guest in
        let own = passed_at (joined host loads guests) head.at head.head head.there in
        let amount = heaps_total guests free all number drawn drew at in
        let sound = sound_guest host loads guests read none number head.guest head.at_guest in
        let same : amount.0 ≡ head.guest = same_Some amount.0 head.guest (sym amount.1 ∙ head.at_guest) in
        let pages : total drawn ≡ head.guest.domain.pages = amount.2 ∙ ap (λ (guest : Guest). guest.domain.pages) same in
        let says : what_of own.0 ≡ head_of head.guest.domain = ap (λ (entry : Entry). entry.described.what) own.2 ∙ head.says sound in
        let guest : own.0.entry.guest ≡ Some number = ap (λ (entry : Entry). entry.guest) own.2 ∙ head.belongs in
        let own_clear = clear head.at own.0 own.1 in
        let fills : own.0.pages ≡ bank_pages 0 head.guest.domain.pages = head_pages own_clear.0 own.0 head.guest (ap (λ (one : Passed). one.pages) own_clear.1.made) says in
        let held : holds own.0.pages page ≡ true = ap (λ (ranges : List FrameRange). holds ranges page) fills ∙ ap (λ (count : ℕ). holds (bank_pages 0 count) page) (sym pages) ∙ laid_pages 0 drawn page one e in
        before_it head.at found.place own.0 found.mine head.guest page c.0 head.before own.1 found.at c.1 n.mapping says of_guest (guest_belongs number own.0 guest) held n.filled
