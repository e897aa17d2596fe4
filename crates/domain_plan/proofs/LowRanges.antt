-- Every page and frame of a guest's ranges is low.
use Rattle.std.proofs.Common.{◌≡◌, ℕ, zero, suc, ◌+◌, ◌-◌, ◌/◌, ◌^◌, ◌<◌, ◌≤◌, min, Bool, true, false, cond, List, [], ◌∷◌, ◌++◌, map, Option, Some, None, Ok, refl, sym, ap, subst, ◌∙◌, arith}
use Rattle.std.specs.Prelude.{slice_get, flat_map, sum_by, is_none, ◌&&◌, ◌==◌}
use Rattle.std.proofs.lemmas.Grind.{flat_map-append}
use Rattle.std.proofs.lemmas.List.Sums.{sum_by-append, sum_by-cons}
use Rattle.std.proofs.lemmas.Option.{same_Some, none-some}
use Rattle.texts.specs.Consecutive.{is_in}
use Rattle.texts.specs.declared.ranges.BaseSize.{BaseSize}
use Rattle.texts.specs.declared.ranges.FrameRange.{FrameRange}
use Rattle.described.specs.declared.map_range.MapRange.{MapRange}
use Rattle.described.specs.declared.map_range.Kind.{Kind}
use Rattle.described.specs.declared.map_range.Kind.TheVariants.{Ram, Device, Shared}
use Rattle.described.specs.declared.item.Described.{Described}
use Rattle.described.specs.declared.item.What.{What}
use Rattle.described.specs.declared.item.What.TheVariants as whats
use Rattle.described.specs.declared.why.Why.{Why}
use Rattle.frame_alloc.specs.Frames.{AreFrames, is_within}
use Rattle.frame_alloc.proofs.FreeFrames.{AreFramesFrom-member}
use Rattle.frame_alloc.proofs.Without.{is_within-in}
use Rattle.item_checks.specs.declared.guests.Guest.{Guest}
use Rattle.domain_bindings.specs.declared.host.Host.{Host}
use Rattle.described.specs.declared.loaded.Loaded.{Loaded}
use Rattle.frame_alloc.specs.Ranges.{holds, touched, cut, between}
use Rattle.item_checks.specs.Entries.{Entry, of_host, of_guest, guest_entries, joined, load_item, is_read, items_of}
use Rattle.item_checks.specs.Taken.{Passed, what_of, belongs_to, static_pages, is_direct, pages_before, is_repeated, bank_pages, bank_size, pages_of, passing, all_passed, total}
use Rattle.domain_plan.specs.Draws.{Heaps, heaps}
use Rattle.domain_plan.specs.GuestMaps.{onto, laid, maps_of, guest_ranges}
use Rattle.domain_plan.specs.PrivateLaying.{AreLowFrames, maps_by}
use Rattle.described.specs.Sound.{AreWholePages, IsSound, SoundUnless}
use Rattle.domain_plan.specs.Arguments.{AreSound, IsSoundGuest, has_no_fault, whats_of, head_of}
use Rattle.frame_alloc.proofs.CommonFrames.{or_left, or_right}
use Rattle.domain_plan.proofs.DrawLemmas.{heaps_tell}
use Rattle.domain_plan.proofs.MapLemmas.{total-banks, item_ranges, touched_whole}
use Rattle.domain_plan.proofs.MapResult.{AreLowRanges}
use Rattle.domain_plan.proofs.OwnItems.{own_entries, own_passed, pages_with}
use Rattle.domain_plan.proofs.GuestsLaw.{guest_belongs}

pub low_append : (xs ys : List MapRange) → AreLowRanges xs → AreLowRanges ys → AreLowRanges (xs ++ ys)
low_append [] ys one other = other
low_append (x ∷ xs) ys one other = (one.0, low_append xs ys one.1 other)

-- the pages of both banks are low, where they are few
low_banks : (kind : Kind) (k count frame : ℕ) → k + count ≤ 2 ^ 23 → (0 < count → frame + count ≤ 2 ^ 28) → AreLowRanges (onto kind frame (bank_pages k count))
low_banks kind k count frame few low = (λ some. first some, (λ some. second some, tt))
  where
    first : 0 < min count (bank_size - k) → (0x40000 + k + min count (bank_size - k) ≤ 2 ^ 28) × (frame + min count (bank_size - k) ≤ 2 ^ 28)
    first some = let f : frame + count ≤ 2 ^ 28 = low (omega arith) in (omega arith, omega arith)

    second : 0 < count - min count (bank_size - k) → (0x200000 + (k + min count (bank_size - k) - bank_size) + (count - min count (bank_size - k)) ≤ 2 ^ 28) × (frame + min count (bank_size - k) + (count - min count (bank_size - k)) ≤ 2 ^ 28)
    second some = let f : frame + count ≤ 2 ^ 28 = low (omega arith) in (omega arith, omega arith)

pub low_laid : (k : ℕ) (drawn : List FrameRange) → k + total drawn ≤ 2 ^ 23 → AreLowFrames drawn → AreLowRanges (laid k drawn)
low_laid k [] few low = tt
low_laid k (range ∷ more) few low =
    low_append (onto Ram range.first (bank_pages k range.count)) (laid (k + range.count) more) (low_banks Ram k range.count range.first (omega arith) low.0) (low_laid (k + range.count) more (omega arith) low.1)

-- whole pages are as many from their first frame on
whole_frames : (base size : ℕ) → AreWholePages base size → (base / 4096 + size / 4096 ≤ 2 ^ 28)
whole_frames base size whole = let a : base + size ≤ 2 ^ 40 = whole.low in omega arith

-- a range of whole pages that goes to as many frames
low_touched : (kind : Kind) (host guest size : ℕ) → AreWholePages host size → AreWholePages guest size → AreLowRanges (onto kind (host / 4096) (touched (record { base = guest; size = size }) ∷ []))
low_touched kind host guest size host_whole guest_whole =
    subst (λ (range : FrameRange). AreLowRanges (onto kind (host / 4096) (range ∷ []))) (sym (touched_whole guest size guest_whole)) (λ some. (whole_frames guest size guest_whole, whole_frames host size host_whole), tt)

-- what one item maps is low
low_item : (before : List Passed) (entry : Entry) → IsSound entry.described.what → pages_before before entry.guest + static_pages entry.described.what ≤ 2 ^ 23 → AreLowRanges (maps_of (passing before entry))
low_item before entry sound few = by_what entry.described.what sound few
  where
    by_direct : (at : BaseSize) (b : Bool) → AreWholePages at.base at.size → pages_before before entry.guest + (touched at).count ≤ 2 ^ 23 → AreLowRanges (onto Ram (at.base / 4096) (cond b (touched at ∷ []) (bank_pages (pages_before before entry.guest) (touched at).count)))
    by_direct at true whole small = low_touched Ram at.base at.base at.size whole whole
    by_direct at false whole small =
        let count : (touched at).count ≡ at.size / 4096 = ap (λ (range : FrameRange). range.count) (touched_whole at.base at.size whole) in
        let ends : at.base / 4096 + at.size / 4096 ≤ 2 ^ 28 = whole_frames at.base at.size whole in
        low_banks Ram (pages_before before entry.guest) (touched at).count (at.base / 4096) small (λ some. omega arith)

    by_repeat : (host size guest : ℕ) (b : Bool) → AreWholePages host size → AreWholePages guest size → AreLowRanges (onto Device (host / 4096) (cond b [] (touched (record { base = guest; size = size }) ∷ [])))
    by_repeat host size guest true host_whole guest_whole = tt
    by_repeat host size guest false host_whole guest_whole = low_touched Device host guest size host_whole guest_whole

    by_what : (what : What) → IsSound what → pages_before before entry.guest + static_pages what ≤ 2 ^ 23 → AreLowRanges (maps_by what (pages_with before entry.guest what))
    by_what (whats.Static at) whole small = by_direct at (is_direct before entry.guest) whole small
    by_what (whats.Range host size guest) whole small = by_repeat host size guest (is_repeated before entry.guest host size guest) whole.0 whole.1
    by_what (whats.Shared id None guest size owner) whole small = tt
    by_what (whats.Shared id (Some host) guest size owner) whole small = low_touched Shared host guest size whole.0 whole.1
    by_what _ whole small = tt

-- entries that are sound, without a reason of their own
abbrev pub AllSound : List Entry → Type 0
AllSound [] = Unit {0}
AllSound (entry ∷ entries) = IsSound entry.described.what × AllSound entries

sound_all : (entries : List Entry) → has_no_fault entries ≡ true → AreSound entries → AllSound entries
sound_all [] none sound = tt
sound_all (entry ∷ entries) none sound = by_own entry.described.own none sound (λ rest ok. sound_all entries rest ok)
  where
    by_own : (own : Option Why) → (is_none own && has_no_fault entries) ≡ true → SoundUnless own entry.described.what (AreSound entries) → (has_no_fault entries ≡ true → AreSound entries → AllSound entries) → IsSound entry.described.what × AllSound entries
    by_own None rest ok later = (ok.0, later rest ok.1)
    by_own (Some reason) rest ok later = absurd cc

sound_left : (xs ys : List Entry) → AllSound (xs ++ ys) → AllSound xs
sound_left [] ys sound = tt
sound_left (x ∷ xs) ys sound = (sound.0, sound_left xs ys sound.1)

sound_right : (xs ys : List Entry) → AllSound (xs ++ ys) → AllSound ys
sound_right [] ys sound = sound
sound_right (x ∷ xs) ys sound = sound_right xs ys sound.1

sound_among : (first k number : ℕ) (guests : List Guest) (guest : Guest) → first + k ≡ number → slice_get guests k ≡ Some guest → AllSound (guest_entries first guests) → AllSound (own_entries number guest)
sound_among first k number [] guest is at sound = absurd (none-some _ at)
sound_among first zero number (g ∷ gs) guest is at sound =
    let e : first ≡ number = omega arith in
    subst (λ (n : ℕ). AllSound (own_entries n guest)) e (subst (λ (one : Guest). AllSound (own_entries first one)) (same_Some g guest at) (sound_left (own_entries first g) (guest_entries (first + 1) gs) sound))
sound_among first (suc k) number (g ∷ gs) guest is at sound = sound_among (first + 1) k number gs guest (omega arith) at (sound_right (own_entries first g) (guest_entries (first + 1) gs) sound)

-- the items of a guest are sound
pub own_sound : (host : Host) (loads : List Loaded) (guests : List Guest) (number : ℕ) (guest : Guest) → has_no_fault (joined host loads guests) ≡ true → AreSound (joined host loads guests) → slice_get guests number ≡ Some guest → AllSound (own_entries number guest)
own_sound host loads guests number guest none sound at =
    sound_among 0 number number guests guest (omega arith) at (sound_right (of_host host.items ++ of_host (map load_item loads) ++ of_host host.modules) (guest_entries 0 guests) (sound_all (joined host loads guests) none sound))

-- a guest has at most 2^22 pages
pub few_pages : (number : ℕ) (guest : Guest) → AllSound (own_entries number guest) → IsSoundGuest guest → guest.domain.pages ≤ 2 ^ 22
few_pages number guest sound own = by_items (items_of guest) sound own.head
  where
    by_items : (items : List Described) → AllSound (of_guest number (is_read guest.partial) items) → slice_get (map (λ (one : Described). one.what) items) 0 ≡ Some (head_of guest.domain) → guest.domain.pages ≤ 2 ^ 22
    by_items [] ok at = absurd (none-some _ at)
    by_items (item ∷ items) ok at = subst IsSound (same_Some item.what (head_of guest.domain) at) ok.0

-- what the items of a guest map is low
low_items : (number : ℕ) (read : Bool) (items : List Described) (before : List Passed) → AllSound (of_guest number read items) →
    sum_by (λ (passed : Passed). cond (belongs_to (Some number) passed) (static_pages (what_of passed)) 0) before + sum_by static_pages (map (λ (one : Described). one.what) items) ≤ 2 ^ 22 →
    AreLowRanges (flat_map (item_ranges number) before) → AreLowRanges (flat_map (item_ranges number) (all_passed before (of_guest number read items)))
unfolding all_passed
low_items number read [] before sound few low = low
low_items number read (item ∷ items) before sound few low =
    low_items number read items (before ++ passing before entry ∷ []) sound.1 fewer
    (subst AreLowRanges (sym (flat_map-append (item_ranges number) before (mine ∷ []))) (low_append (flat_map (item_ranges number) before) (item_ranges number mine ++ []) low (low_append (item_ranges number mine) [] (by_belongs (belongs_to (Some number) mine)) tt)))
  where
    entry : Entry
    entry = record { guest = Some number; partial_read = read; described = item }

    mine : Passed
    mine = passing before (record { guest = Some number; partial_read = read; described = item })

    more : sum_by static_pages (map (λ (one : Described). one.what) (item ∷ items)) ≡ static_pages item.what + sum_by static_pages (map (λ (one : Described). one.what) items)
    more = sum_by-cons static_pages item.what (map (λ (one : Described). one.what) items)

    own : sum_by (λ (passed : Passed). cond (belongs_to (Some number) passed) (static_pages (what_of passed)) 0) (passing before (record { guest = Some number; partial_read = read; described = item }) ∷ []) ≡ static_pages item.what
    own =
        let last : (n : ℕ) → n + 0 ≡ n = λ n. omega arith in
        sum_by-cons (λ (passed : Passed). cond (belongs_to (Some number) passed) (static_pages (what_of passed)) 0) mine []
        ∙ ap (λ (b : Bool). cond b (static_pages item.what) 0 + 0) (guest_belongs number mine refl) ∙ last (static_pages item.what)

    fewer : sum_by (λ (passed : Passed). cond (belongs_to (Some number) passed) (static_pages (what_of passed)) 0) (before ++ passing before (record { guest = Some number; partial_read = read; described = item }) ∷ []) + sum_by static_pages (map (λ (one : Described). one.what) items) ≤ 2 ^ 22
    fewer =
        let sum = sum_by-append (λ (passed : Passed). cond (belongs_to (Some number) passed) (static_pages (what_of passed)) 0) before (mine ∷ []) in
        omega (arith, sum, own, more, few)

    by_belongs : (b : Bool) → AreLowRanges (cond b (maps_of mine) [])
    by_belongs true = low_item before entry sound.0 (omega (arith, more, few))
    by_belongs false = tt

-- frames that were free are low
low_frames : (free : List ℕ) (frames : List FrameRange) → AreFrames free → ((frame : ℕ) → holds frames frame ≡ true → is_in free frame ≡ true) → AreLowFrames frames
low_frames free [] ok inside = tt
low_frames free (range ∷ ranges) ok inside = (first, low_frames free ranges ok (λ frame h. inside frame (or_right (is_within range.first range.count frame) _ h)))
  where
    first : 0 < range.count → range.first + range.count ≤ 2 ^ 28
    first some =
        let last : ℕ = range.first + range.count - 1 in
        let bounds = AreFramesFrom-member free 0 (range.first + range.count - 1) ok (inside (range.first + range.count - 1) (or_left _ (holds ranges (range.first + range.count - 1)) (is_within-in range.first range.count (range.first + range.count - 1) (omega arith) (omega arith)))) in
        let below : range.first + range.count - 1 < 2 ^ 28 = bounds.1 in
        omega arith

pub drawn_low : (guests : List Guest) (free : List ℕ) (all : Heaps) (number : ℕ) (frames : List FrameRange) → AreFrames free → heaps guests free ≡ Ok all → slice_get all.drawn number ≡ Some frames → AreLowFrames frames
drawn_low guests free all number frames ok drew at = low_frames free frames ok (λ frame h. (heaps_tell guests free all drew).was_free number frame frames at h)

-- all that a guest is mapped to is low
pub guest_low : (number : ℕ) (guest : Guest) (drawn : List FrameRange) → AllSound (own_entries number guest) → IsSoundGuest guest → total drawn ≤ 2 ^ 22 → AreLowFrames drawn → AreLowRanges (guest_ranges (own_passed number guest) number drawn)
unfolding guest_ranges
guest_low number guest drawn sound own few low =
    let statics : sum_by static_pages (whats_of guest) ≤ 2 ^ 22 = own.statics in
    low_append (laid 0 drawn) (flat_map (item_ranges number) (own_passed number guest)) (low_laid 0 drawn (omega arith) low)
    (low_items number (is_read guest.partial) (items_of guest) [] sound (omega arith) tt)

-- an item that is sound fills at most 2^28 pages
pub pages_few : (before : List Passed) (entry : Entry) → IsSound entry.described.what → total (pages_of before entry) ≤ 2 ^ 28
pages_few before entry sound = by_what entry.described.what sound
  where
    touched_few : (at : BaseSize) → (touched at).count ≤ 2 ^ 28
    touched_few at = by_size (at.size == 0)
      where
        by_size : (b : Bool) → (cond b (between 0 0) (between (cut (at.base / 4096)) (cut ((at.base + at.size + 4095) / 4096)))).count ≤ 2 ^ 28
        by_size true = omega arith
        by_size false = omega arith

    one_few : (at : BaseSize) → total (touched at ∷ []) ≤ 2 ^ 28
    one_few at = let few : (touched at).count ≤ 2 ^ 28 = touched_few at in omega arith

    by_direct : (at : BaseSize) (b : Bool) (k : ℕ) → total (cond b (touched at ∷ []) (bank_pages k (touched at).count)) ≤ 2 ^ 28
    by_direct at true k = one_few at
    by_direct at false k = omega (arith, total-banks k (touched at).count, touched_few at)

    by_repeat : (at : BaseSize) (b : Bool) → total (cond b [] (touched at ∷ [])) ≤ 2 ^ 28
    by_repeat at true = omega arith
    by_repeat at false = one_few at

    by_what : (what : What) → IsSound what → total (pages_with before entry.guest what) ≤ 2 ^ 28
    by_what (whats.Head cpus pages spis direct console) few = let small : pages ≤ 2 ^ 22 = few in omega (arith, total-banks 0 pages, small)
    by_what (whats.Static at) ok = by_direct at (is_direct before entry.guest) (pages_before before entry.guest)
    by_what (whats.Range host size guest) ok = by_repeat (record { base = guest; size = size }) (is_repeated before entry.guest host size guest)
    by_what (whats.Shared id host guest size owner) ok = one_few (record { base = guest; size = size })
    by_what _ ok = omega arith
