-- A guest's head stands before its other items, and its pages are those that are drawn.
use Rattle.std.proofs.Common.{◌≡◌, ℕ, zero, suc, ◌+◌, ◌-◌, ◌*◌, ◌/◌, ◌%◌, ◌≤◌, ◌⊎◌, ◌&&◌, Bool, true, false, List, [], ◌∷◌, ◌++◌, length, map, Option, Some, None, Result, Ok, Err, refl, sym, ap, ◌∙◌, arith, inl, inr, append_assoc}
use Rattle.std.specs.Prelude.{slice_get, is_none}
use Rattle.std.proofs.lemmas.Option.{same_Some, none-some}
use Rattle.std.proofs.lemmas.List.{map-append}
use Rattle.texts.specs.declared.ranges.FrameRange.{FrameRange}
use Rattle.described.specs.declared.item.Described.{Described}
use Rattle.described.specs.declared.item.What.{What}
use Rattle.described.specs.declared.why.Why.TheVariants.{NoRam}
use Rattle.frame_alloc.specs.Frames.{lowest_frame, lowest_chunk, without}
use Rattle.item_checks.specs.declared.guests.Guest.{Guest}
use Rattle.item_checks.specs.Entries.{Entry, of_host, of_guest, guest_entries, joined, load_item, items_of, is_read}
use Rattle.item_checks.specs.Taken.{Passed, passing, all_passed}
use Rattle.item_checks.specs.Refusals.{Refusal, or_later, first_refused, first_there, cross_reasons}
use Rattle.domain_plan.specs.Draws.{Drawn, Heaps, ◌>>=◌, groups_drawn, drawn, heaps, and_drawn, heap_item}
use Rattle.domain_plan.specs.Arguments.{IsSoundGuest, head_of, has_no_fault}
use Rattle.std.specs.Option.{option_or}
use Rattle.described.specs.declared.why.Why.{Why}
use Rattle.domain_bindings.specs.declared.host.Host.{Host}
use Rattle.described.specs.declared.loaded.Loaded.{Loaded}
use Rattle.domain_plan.proofs.MapLemmas.{total}

total-append : (xs ys : List FrameRange) → total (xs ++ ys) ≡ total xs + total ys
total-append [] ys = omega arith
total-append (x ∷ xs) ys = let rest = total-append xs ys in omega arith

groups_total : (lowest : List ℕ → Option ℕ) (size count : ℕ) (free : List ℕ) (d : Drawn) → groups_drawn lowest size count free ≡ Some d → total d.frames ≡ count * size
unfolding groups_drawn
groups_total lowest size zero free d is =
    let given : Drawn = record { frames = []; left = free } in
    let same : given ≡ d = same_Some given d is in
    let none : total d.frames ≡ 0 = ap (λ (one : Drawn). total one.frames) (sym same) in
    omega arith
groups_total lowest size (suc count) free d is = by_first (lowest free) (λ more e one. groups_total lowest size count more e one) is
  where
    by_rest : (first : ℕ) (o : Option Drawn) → ((e : Drawn) → o ≡ Some e → total e.frames ≡ count * size) →
        (o >>= λ (rest : Drawn). Some (record { frames = record { first = first; count = size } ∷ rest.frames; left = rest.left })) ≡ Some d → total d.frames ≡ suc count * size
    by_rest first None later e = absurd (none-some _ e)
    by_rest first (Some rest) later e =
        let given : Drawn = record { frames = record { first = first; count = size } ∷ rest.frames; left = rest.left } in
        let same : given ≡ d = same_Some given d e in
        let sum : total d.frames ≡ size + total rest.frames = ap (λ (one : Drawn). total one.frames) (sym same) in
        let more : total rest.frames ≡ count * size = later rest refl in
        let product : suc count * size ≡ size + count * size = grind arith in
        sum ∙ ap (λ (n : ℕ). size + n) more ∙ sym product

    by_first : (o : Option ℕ) → ((more : List ℕ) (e : Drawn) → groups_drawn lowest size count more ≡ Some e → total e.frames ≡ count * size) →
        (o >>= λ (first : ℕ). groups_drawn lowest size count (without first size free) >>= λ (rest : Drawn). Some (record { frames = record { first = first; count = size } ∷ rest.frames; left = rest.left })) ≡ Some d → total d.frames ≡ suc count * size
    by_first None later e = absurd (none-some _ e)
    by_first (Some first) later e = by_rest first (groups_drawn lowest size count (without first size free)) (λ one is. later (without first size free) one is) e

-- as many frames are drawn as were asked for
pub drawn_total : (count : ℕ) (free : List ℕ) (d : Drawn) → drawn count free ≡ Some d → total d.frames ≡ count
unfolding drawn
drawn_total count free d is = by_chunks (groups_drawn lowest_chunk 512 (count / 512) free) refl is
  where
    by_singles : (chunks : Drawn) → groups_drawn lowest_chunk 512 (count / 512) free ≡ Some chunks → (o : Option Drawn) → groups_drawn lowest_frame 1 (count % 512) chunks.left ≡ o →
        (o >>= λ (singles : Drawn). Some (record { frames = chunks.frames ++ singles.frames; left = singles.left })) ≡ Some d → total d.frames ≡ count
    by_singles chunks took None found e = absurd (none-some _ e)
    by_singles chunks took (Some singles) found e =
        let given : Drawn = record { frames = chunks.frames ++ singles.frames; left = singles.left } in
        let same : given ≡ d = same_Some given d e in
        let sum : total d.frames ≡ total chunks.frames + total singles.frames = ap (λ (one : Drawn). total one.frames) (sym same) ∙ total-append chunks.frames singles.frames in
        let one : total chunks.frames ≡ count / 512 * 512 = groups_total lowest_chunk 512 (count / 512) free chunks took in
        let other : total singles.frames ≡ count % 512 * 1 = groups_total lowest_frame 1 (count % 512) chunks.left singles found in
        omega arith

    by_chunks : (o : Option Drawn) → groups_drawn lowest_chunk 512 (count / 512) free ≡ o →
        (o >>= λ (chunks : Drawn). groups_drawn lowest_frame 1 (count % 512) chunks.left >>= λ (singles : Drawn). Some (record { frames = chunks.frames ++ singles.frames; left = singles.left })) ≡ Some d → total d.frames ≡ count
    by_chunks None found e = absurd (none-some _ e)
    by_chunks (Some chunks) found e = by_singles chunks found (groups_drawn lowest_frame 1 (count % 512) chunks.left) refl e

-- the guest that drew at a place, and how much
pub heaps_total : (guests : List Guest) (free : List ℕ) (all : Heaps) (k : ℕ) (frames : List FrameRange) → heaps guests free ≡ Ok all → slice_get all.drawn k ≡ Some frames →
    (guest : Guest) × (slice_get guests k ≡ Some guest) × (total frames ≡ guest.domain.pages)
unfolding heaps
heaps_total [] free all k frames is at =
    let given : Heaps = record { drawn = []; left = free } in
    let same : given ≡ all = cc in
    absurd (none-some _ (ap (λ (one : Heaps). slice_get one.drawn k) same ∙ at))
heaps_total (guest ∷ guests) free all k frames is at = by_first (drawn guest.domain.pages free) refl (λ more later j e. heaps_total guests more later j frames e) is
  where
    by_later : (one : Drawn) → drawn guest.domain.pages free ≡ Some one → (o : Result Heaps Refusal) → ((later : Heaps) (j : ℕ) → o ≡ Ok later → slice_get later.drawn j ≡ Some frames → (g : Guest) × (slice_get guests j ≡ Some g) × (total frames ≡ g.domain.pages)) →
        and_drawn one.frames o ≡ Ok all → (k : ℕ) → slice_get all.drawn k ≡ Some frames → (g : Guest) × (slice_get (guest ∷ guests) k ≡ Some g) × (total frames ≡ g.domain.pages)
    by_later one found (Err refusal) told e k at = absurd cc
    by_later one found (Ok later) told e zero at =
        let given : Heaps = record { drawn = one.frames ∷ later.drawn; left = later.left } in
        let same : given ≡ all = cc in
        let own : one.frames ≡ frames = same_Some one.frames frames (ap (λ (h : Heaps). slice_get h.drawn 0) same ∙ at) in
        (guest, refl, ap total (sym own) ∙ drawn_total guest.domain.pages free one found)
    by_later one found (Ok later) told e (suc j) at =
        let given : Heaps = record { drawn = one.frames ∷ later.drawn; left = later.left } in
        let same : given ≡ all = cc in
        told later j refl (ap (λ (h : Heaps). slice_get h.drawn (suc j)) same ∙ at)

    by_first : (o : Option Drawn) → drawn guest.domain.pages free ≡ o → ((more : List ℕ) (later : Heaps) (j : ℕ) → heaps guests more ≡ Ok later → slice_get later.drawn j ≡ Some frames → (g : Guest) × (slice_get guests j ≡ Some g) × (total frames ≡ g.domain.pages)) →
        (elim o as (λ _. Result Heaps Refusal) [ None ↦ Err (heap_item guest, NoRam guest.domain.pages (length free)) | Some one ↦ and_drawn one.frames (heaps guests one.left) ]) ≡ Ok all →
        (g : Guest) × (slice_get (guest ∷ guests) k ≡ Some g) × (total frames ≡ g.domain.pages)
    by_first None found told e = absurd cc
    by_first (Some one) found told e = by_later one found (heaps guests one.left) (λ later j is there. told one.left later j is there) e k at

-- the entries that were passed
pub entries_passed : (before : List Passed) (entries : List Entry) → map (λ (one : Passed). one.entry) (all_passed before entries) ≡ map (λ (one : Passed). one.entry) before ++ entries
unfolding all_passed
entries_passed before [] = sym (append_nil_of (map (λ (one : Passed). one.entry) before))
  where
    append_nil_of : (xs : List Entry) → xs ++ [] ≡ xs
    append_nil_of [] = refl
    append_nil_of (x ∷ xs) = ap (λ (more : List Entry). x ∷ more) (append_nil_of xs)
entries_passed before (entry ∷ entries) =
    entries_passed (before ++ passing before entry ∷ []) entries
    ∙ ap (λ (front : List Entry). front ++ entries) (map-append (λ (one : Passed). one.entry) before (passing before entry ∷ []))
    ∙ append_assoc (map (λ (one : Passed). one.entry) before) (entry ∷ []) entries

-- the head of the guest to which an entry belongs
pub record HasHead (entries : List Entry) (guests : List Guest) (number index place : ℕ) : Type 0 where
  pub guest : Guest
  pub at_guest : slice_get guests index ≡ Some guest
  pub at : ℕ
  pub head : Entry
  pub before : at ≤ place
  pub there : slice_get entries at ≡ Some head
  pub belongs : head.guest ≡ Some number
  pub says : IsSoundGuest guest → head.described.what ≡ head_of guest.domain

split_get : {X : Type 0} (xs ys : List X) (k : ℕ) (x : X) → slice_get (xs ++ ys) k ≡ Some x → (slice_get xs k ≡ Some x) ⊎ ((length xs ≤ k) × (slice_get ys (k - length xs) ≡ Some x))
split_get [] ys k x at = inr (omega arith, ap (slice_get ys) (let e : k - 0 ≡ k = omega arith in e) ∙ at)
split_get (y ∷ xs) ys zero x at = inl at
split_get (y ∷ xs) ys (suc k) x at = by_part (split_get xs ys k x at)
  where
    by_part : (slice_get xs k ≡ Some x) ⊎ ((length xs ≤ k) × (slice_get ys (k - length xs) ≡ Some x)) → (slice_get xs k ≡ Some x) ⊎ ((suc (length xs) ≤ suc k) × (slice_get ys (suc k - suc (length xs)) ≡ Some x))
    by_part (inl here) = inl here
    by_part (inr later) = inr (let a : length xs ≤ k = later.0 in omega arith, ap (slice_get ys) (let e : suc k - suc (length xs) ≡ k - length xs = omega arith in e) ∙ later.1)

right_get : {X : Type 0} (xs ys : List X) (k : ℕ) (x : X) → slice_get ys k ≡ Some x → slice_get (xs ++ ys) (length xs + k) ≡ Some x
right_get [] ys k x at = ap (slice_get ys) (let e : 0 + k ≡ k = omega arith in e) ∙ at
right_get (y ∷ xs) ys k x at = ap (slice_get (y ∷ (xs ++ ys))) (let e : suc (length xs) + k ≡ suc (length xs + k) = omega arith in e) ∙ right_get xs ys k x at

left_get : {X : Type 0} (xs ys : List X) (k : ℕ) (x : X) → slice_get xs k ≡ Some x → slice_get (xs ++ ys) k ≡ Some x
left_get [] ys k x at = absurd (none-some _ at)
left_get (y ∷ xs) ys zero x at = at
left_get (y ∷ xs) ys (suc k) x at = left_get xs ys k x at

in_block : (number : ℕ) (read : Bool) (items : List Described) (k : ℕ) (entry : Entry) → slice_get (of_guest number read items) k ≡ Some entry → entry.guest ≡ Some number
in_block number read [] k entry at = absurd (none-some _ at)
in_block number read (d ∷ ds) zero entry at =
    let first : Entry = record { guest = Some number; partial_read = read; described = d } in
    let same : first ≡ entry = same_Some first entry at in
    ap (λ (one : Entry). one.guest) (sym same)
in_block number read (d ∷ ds) (suc k) entry at = in_block number read ds k entry at

in_host : (items : List Described) (k : ℕ) (entry : Entry) → slice_get (of_host items) k ≡ Some entry → entry.guest ≡ None
in_host [] k entry at = absurd (none-some _ at)
in_host (d ∷ ds) zero entry at =
    let first : Entry = record { guest = None; partial_read = false; described = d } in
    let same : first ≡ entry = same_Some first entry at in
    ap (λ (one : Entry). one.guest) (sym same)
in_host (d ∷ ds) (suc k) entry at = in_host ds k entry at

-- the first entry of a block says what the first item does
first_says : (number : ℕ) (read : Bool) (items : List Described) (k : ℕ) (entry : Entry) → slice_get (of_guest number read items) k ≡ Some entry →
    (head : Entry) × (slice_get (of_guest number read items) 0 ≡ Some head) × (head.guest ≡ Some number) × ((what : What) → slice_get (map (λ (one : Described). one.what) items) 0 ≡ Some what → head.described.what ≡ what)
first_says number read [] k entry at = absurd (none-some _ at)
first_says number read (d ∷ ds) k entry at = (record { guest = Some number; partial_read = read; described = d }, refl, refl, λ what is. same_Some d.what what is)

pub head_in : (number : ℕ) (guests : List Guest) (k m : ℕ) (entry : Entry) → slice_get (guest_entries number guests) k ≡ Some entry → entry.guest ≡ Some m → (number ≤ m) × HasHead (guest_entries number guests) guests m (m - number) k
head_in number [] k m entry at is = absurd (none-some _ at)
head_in number (guest ∷ guests) k m entry at is =
    by_part (split_get (of_guest number (is_read guest.partial) (items_of guest)) (guest_entries (number + 1) guests) k entry at) (λ j there. head_in (number + 1) guests j m entry there is)
  where
    block : List Entry
    block = of_guest number (is_read guest.partial) (items_of guest)

    by_part : (slice_get (of_guest number (is_read guest.partial) (items_of guest)) k ≡ Some entry) ⊎ ((length (of_guest number (is_read guest.partial) (items_of guest)) ≤ k) × (slice_get (guest_entries (number + 1) guests) (k - length (of_guest number (is_read guest.partial) (items_of guest))) ≡ Some entry)) →
        ((j : ℕ) → slice_get (guest_entries (number + 1) guests) j ≡ Some entry → (number + 1 ≤ m) × HasHead (guest_entries (number + 1) guests) guests m (m - (number + 1)) j) →
        (number ≤ m) × HasHead (of_guest number (is_read guest.partial) (items_of guest) ++ guest_entries (number + 1) guests) (guest ∷ guests) m (m - number) k
    by_part (inl here) later =
        let first = first_says number (is_read guest.partial) (items_of guest) k entry here in
        let same : number ≡ m = same_Some number m (sym (in_block number (is_read guest.partial) (items_of guest) k entry here) ∙ is) in
        let index : m - number ≡ 0 = omega arith in (
          omega arith,
          record {
            guest = guest;
            at_guest = ap (slice_get (guest ∷ guests)) index;
            at = 0;
            head = first.0;
            before = omega arith;
            there = left_get block (guest_entries (number + 1) guests) 0 first.0 first.1;
            belongs = first.2 ∙ ap Some same;
            says = λ sound. first.3 (head_of guest.domain) sound.head;
          },
        )
    by_part (inr there) later =
        let found = later (k - length block) there.1 in
        let more : number + 1 ≤ m = found.0 in
        let index : m - number ≡ suc (m - (number + 1)) = omega arith in
        let low : length block ≤ k = there.0 in (
          omega arith,
          record {
            guest = found.1.guest;
            at_guest = ap (slice_get (guest ∷ guests)) index ∙ found.1.at_guest;
            at = length block + found.1.at;
            head = found.1.head;
            before = omega (arith, found.1.before);
            there = right_get block (guest_entries (number + 1) guests) found.1.at found.1.head found.1.there;
            belongs = found.1.belongs;
            says = found.1.says;
          },
        )

-- the head of a guest's item among all entries
pub head_joined : (host : Host) (loads : List Loaded) (guests : List Guest) (k m : ℕ) (entry : Entry) → slice_get (joined host loads guests) k ≡ Some entry → entry.guest ≡ Some m → HasHead (joined host loads guests) guests m m k
head_joined host loads guests k m entry at is = by_part (split_get front (guest_entries 0 guests) k entry at)
  where
    front : List Entry
    front = of_host host.items ++ of_host (map load_item loads) ++ of_host host.modules

    no_guest : {A : Type 0} → entry.guest ≡ None → A
    no_guest none = absurd (none-some m (sym none ∙ is))

    by_part : (slice_get (of_host host.items ++ of_host (map load_item loads) ++ of_host host.modules) k ≡ Some entry) ⊎ ((length (of_host host.items ++ of_host (map load_item loads) ++ of_host host.modules) ≤ k) × (slice_get (guest_entries 0 guests) (k - length (of_host host.items ++ of_host (map load_item loads) ++ of_host host.modules)) ≡ Some entry))
        → HasHead (joined host loads guests) guests m m k
    by_part (inl here) = in_front (split_get (of_host host.items ++ of_host (map load_item loads)) (of_host host.modules) k entry here)
      where
        in_items : (slice_get (of_host host.items) k ≡ Some entry) ⊎ ((length (of_host host.items) ≤ k) × (slice_get (of_host (map load_item loads)) (k - length (of_host host.items)) ≡ Some entry)) → HasHead (joined host loads guests) guests m m k
        in_items (inl it) = no_guest (in_host host.items k entry it)
        in_items (inr it) = no_guest (in_host (map load_item loads) (k - length (of_host host.items)) entry it.1)

        in_front : (slice_get (of_host host.items ++ of_host (map load_item loads)) k ≡ Some entry) ⊎ ((length (of_host host.items ++ of_host (map load_item loads)) ≤ k) × (slice_get (of_host host.modules) (k - length (of_host host.items ++ of_host (map load_item loads))) ≡ Some entry)) → HasHead (joined host loads guests) guests m m k
        in_front (inr it) = no_guest (in_host host.modules (k - length (of_host host.items ++ of_host (map load_item loads))) entry it.1)
        in_front (inl it) = in_items (split_get (of_host host.items) (of_host (map load_item loads)) k entry it)
    by_part (inr there) =
        let found = (head_in 0 guests (k - length front) m entry there.1 is).1 in
        let low : length front ≤ k = there.0 in
        record {
          guest = found.guest;
          at_guest = ap (slice_get guests) (let e : m ≡ m - 0 = omega arith in e) ∙ found.at_guest;
          at = length front + found.at;
          head = found.head;
          before = omega (arith, found.before);
          there = right_get front (guest_entries 0 guests) found.at found.head found.there;
          belongs = found.belongs;
          says = found.says;
        }

-- no item that is not refused has a reason of its own
pub no_own : (host : Host) (before : List Passed) (entries : List Entry) → first_refused host before entries ≡ None → has_no_fault entries ≡ true
unfolding first_refused
no_own host before [] none = refl
no_own host before (entry ∷ entries) none = by_why entry.described.own (first_there (cross_reasons host before (passing before entry))) none (λ later. no_own host (before ++ passing before entry ∷ []) entries later)
  where
    by_why : (own cross : Option Why) → or_later entry.described.item (option_or own cross) (first_refused host (before ++ passing before entry ∷ []) entries) ≡ None →
        (first_refused host (before ++ passing before entry ∷ []) entries ≡ None → has_no_fault entries ≡ true) → (is_none own && has_no_fault entries) ≡ true
    by_why None None e later = later e
    by_why None (Some reason) e later = absurd cc
    by_why (Some reason) cross e later = absurd cc
