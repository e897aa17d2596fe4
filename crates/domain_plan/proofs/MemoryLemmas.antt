-- The pages of a guest's memory: those that are listed, and those that are mapped as such.
use Rattle.std.proofs.Common.{◌≡◌, ℕ, ◌+◌, ◌-◌, ◌/◌, ◌^◌, ◌<◌, ◌≤◌, ◌⊎◌, ◌&&◌, ◌||◌, min, Bool, true, false, leb, cond, List, [], ◌∷◌, ◌++◌, map, Some, None, refl, sym, ap, ◌∙◌, arith, inl, inr, append-nil, append_assoc}
use Rattle.std.specs.Prelude.{flat_map, filter, sum_by, nat_lt}
use Rattle.std.specs.List.{list_any}
use Rattle.std.proofs.lemmas.Grind.{flat_map-append}
use Rattle.std.proofs.lemmas.List.Folds.{list_any-append}
use Rattle.std.proofs.lemmas.List.Sums.{sum_by-append, sum_by-cons}
use Rattle.std.proofs.lemmas.Bool.Decides.{leb_tells}
use Rattle.texts.specs.Consecutive.{numbers}
use Rattle.described.specs.Maps.{target_of, holds_page}
use Rattle.texts.specs.declared.ranges.FrameRange.{FrameRange}
use Rattle.described.specs.declared.map_range.MapRange.{MapRange}
use Rattle.described.specs.declared.map_range.Kind.{Kind}
use Rattle.described.specs.declared.map_range.Kind.TheVariants.{Ram, Device, Shared}
use Rattle.described.specs.declared.item.Described.{Described}
use Rattle.described.specs.declared.item.What.{What}
use Rattle.described.specs.declared.item.What.TheVariants as whats
use Rattle.frame_alloc.specs.Frames.{is_within}
use Rattle.frame_alloc.proofs.FreeFrames.{is_in_nil, is_in-append, is_in-numbers}
use Rattle.frame_alloc.specs.Ranges.{touched, holds}
use Rattle.frame_alloc.proofs.CommonFrames.{true_or_false, same_test, or_tells, or_left, or_right, within_tells}
use Rattle.item_checks.specs.Entries.{of_guest}
use Rattle.item_checks.specs.Taken.{Passed, what_of, belongs_to, says_direct, is_direct, static_pages, pages_before, bank_pages, bank_size, passing, all_passed, total}
use Rattle.domain_plan.specs.GuestMaps.{onto, laid, maps_of}
use Rattle.domain_plan.specs.PrivateLaying.{maps_by, AreApart}
use Rattle.domain_plan.specs.Memories.{is_ram_kind, is_ram_target, is_ram, is_listed}
use Rattle.domain_plan.specs.Plans.{said_by, as_pair, static_memory}
use Rattle.domain_plan.proofs.FunctionLemmas.{banks_tell, banks_low, banks_high, banks_within}
use Rattle.domain_plan.proofs.GuestsLaw.{guest_belongs}
use Rattle.domain_plan.proofs.MapLemmas.{item_ranges}
use Rattle.domain_plan.proofs.OwnItems.{pages_with}

and-false : (b : Bool) → (b && false) ≡ false
and-false true = refl
and-false false = refl

or-false : (b : Bool) → (b || false) ≡ b
or-false true = refl
or-false false = refl

or-assoc : (a b c : Bool) → ((a || b) || c) ≡ (a || (b || c))
or-assoc true b c = refl
or-assoc false b c = refl

-- one of the ranges is memory of the guest alone and holds the page
abbrev pub ram_at : ℕ → List MapRange → Bool
ram_at page ranges = list_any (λ (range : MapRange). is_ram_kind range.kind && holds_page range page) ranges

pub ram_append : (page : ℕ) (xs ys : List MapRange) → ram_at page (xs ++ ys) ≡ (ram_at page xs || ram_at page ys)
ram_append page xs ys = list_any-append (λ (range : MapRange). is_ram_kind range.kind && holds_page range page) xs ys

-- of ranges that are apart, one that holds the page says where it goes
pub is_ram-apart : (ranges : List MapRange) (page : ℕ) → AreApart ranges → is_ram ranges page ≡ ram_at page ranges
is_ram-apart [] page apart = refl
is_ram-apart (range ∷ ranges) page apart = by_test (holds_page range page) refl (is_ram-apart ranges page apart.1)
  where
    by_kind : (k : Bool) → k ≡ ((k && true) || false)
    by_kind true = refl
    by_kind false = refl

    by_test : (b : Bool) → holds_page range page ≡ b → is_ram ranges page ≡ ram_at page ranges
        → is_ram_target (cond b (Some (record { frame = range.first + (page - range.page); kind = range.kind })) (target_of ranges page)) ≡ ((is_ram_kind range.kind && b) || ram_at page ranges)
    by_test true h later = let none : ram_at page ranges ≡ false = sym later ∙ ap is_ram_target (apart.0 page h) in rw none (by_kind (is_ram_kind range.kind))
    by_test false h later = later ∙ ap (λ b. b || ram_at page ranges) (sym (and-false (is_ram_kind range.kind)))

-- pages that go to consecutive frames
ram_onto : (page : ℕ) (kind : Kind) (frame : ℕ) (pages : List FrameRange) → ram_at page (onto kind frame pages) ≡ (is_ram_kind kind && holds pages page)
ram_onto page kind frame [] = sym (and-false (is_ram_kind kind))
ram_onto page kind frame (range ∷ more) =
    ap (λ b. (is_ram_kind kind && is_within range.first range.count page) || b) (ram_onto page kind (frame + range.count) more)
    ∙ by_kind (is_ram_kind kind) (is_within range.first range.count page) (holds more page)
  where
    by_kind : (k a b : Bool) → ((k && a) || (k && b)) ≡ (k && (a || b))
    by_kind true a b = refl
    by_kind false a b = refl

-- no page of a guest's memory
pub banks_none : (k page : ℕ) → holds (bank_pages k 0) page ≡ false
banks_none k page = by_test (true_or_false (holds (bank_pages k 0) page))
  where
    by_bank : ((0x40000 + k ≤ page) × (page < 0x40000 + k + min 0 (bank_size - k))) ⊎ ((0x200000 + (k + min 0 (bank_size - k) - bank_size) ≤ page) × (page < 0x200000 + (k + min 0 (bank_size - k) - bank_size) + (0 - min 0 (bank_size - k)))) → ⊥
    by_bank (inl a) = omega (arith, a.0, a.1)
    by_bank (inr a) = omega (arith, a.0, a.1)

    by_test : (holds (bank_pages k 0) page ≡ true) ⊎ (holds (bank_pages k 0) page ≡ false) → holds (bank_pages k 0) page ≡ false
    by_test (inl h) = absurd (by_bank (banks_tell k 0 page h))
    by_test (inr h) = h

-- some pages of a guest's memory, and those that follow
banks_join : (k count more page : ℕ) → (holds (bank_pages k count) page || holds (bank_pages (k + count) more) page) ≡ holds (bank_pages k (count + more)) page
banks_join k count more page = same_test _ _ there back
  where
    there : (holds (bank_pages k count) page || holds (bank_pages (k + count) more) page) ≡ true → holds (bank_pages k (count + more)) page ≡ true
    there h = by_part (or_tells (holds (bank_pages k count) page) (holds (bank_pages (k + count) more) page) h)
      where
        by_part : (holds (bank_pages k count) page ≡ true) ⊎ (holds (bank_pages (k + count) more) page ≡ true) → holds (bank_pages k (count + more)) page ≡ true
        by_part (inl one) = banks_within k (count + more) k count page (omega arith) (omega arith) one
        by_part (inr other) = banks_within k (count + more) (k + count) more page (omega arith) (omega arith) other

    back : holds (bank_pages k (count + more)) page ≡ true → (holds (bank_pages k count) page || holds (bank_pages (k + count) more) page) ≡ true
    back h = by_bank (banks_tell k (count + more) page h)
      where
        in_low : 0x40000 + k ≤ page → page < 0x40000 + k + min (count + more) (bank_size - k) → ((leb (0x40000 + k + count) page ≡ true) × (0x40000 + k + count ≤ page)) ⊎ ((leb (0x40000 + k + count) page ≡ false) × (page < 0x40000 + k + count))
            → (holds (bank_pages k count) page || holds (bank_pages (k + count) more) page) ≡ true
        in_low low high (inl later) = or_right _ _ (banks_low (k + count) more page (omega (arith, later.1)) (omega arith))
        in_low low high (inr earlier) = or_left _ _ (banks_low k count page low (omega (arith, earlier.1)))

        in_high : 0x200000 + (k + min (count + more) (bank_size - k) - bank_size) ≤ page → page < 0x200000 + (k + min (count + more) (bank_size - k) - bank_size) + (count + more - min (count + more) (bank_size - k))
            → ((leb (0x200000 + k + count) (page + bank_size) ≡ true) × (0x200000 + k + count ≤ page + bank_size)) ⊎ ((leb (0x200000 + k + count) (page + bank_size) ≡ false) × (page + bank_size < 0x200000 + k + count))
            → (holds (bank_pages k count) page || holds (bank_pages (k + count) more) page) ≡ true
        in_high low high (inl later) = or_right _ _ (banks_high (k + count) more page (omega (arith, later.1)) (omega (arith, later.1)))
        in_high low high (inr earlier) = or_left _ _ (banks_high k count page (omega (arith, earlier.1)) (omega (arith, earlier.1)))

        by_bank : ((0x40000 + k ≤ page) × (page < 0x40000 + k + min (count + more) (bank_size - k))) ⊎ ((0x200000 + (k + min (count + more) (bank_size - k) - bank_size) ≤ page) × (page < 0x200000 + (k + min (count + more) (bank_size - k) - bank_size) + (count + more - min (count + more) (bank_size - k))))
            → (holds (bank_pages k count) page || holds (bank_pages (k + count) more) page) ≡ true
        by_bank (inl a) = in_low a.0 a.1 (leb_tells (0x40000 + k + count) page)
        by_bank (inr a) = in_high a.0 a.1 (leb_tells (0x200000 + k + count) (page + bank_size))

-- what a guest drew
pub ram_laid : (k : ℕ) (drawn : List FrameRange) (page : ℕ) → ram_at page (laid k drawn) ≡ holds (bank_pages k (total drawn)) page
ram_laid k [] page = sym (banks_none k page)
ram_laid k (range ∷ more) page =
    ram_append page (onto Ram range.first (bank_pages k range.count)) (laid (k + range.count) more)
    ∙ ap (λ b. b || ram_at page (laid (k + range.count) more)) (ram_onto page Ram range.first (bank_pages k range.count))
    ∙ ap (λ b. holds (bank_pages k range.count) page || b) (ram_laid (k + range.count) more page)
    ∙ banks_join k range.count (total more) page

-- the pages of static memory at its own addresses
abbrev pub static_ranges : What → List FrameRange
static_ranges (whats.Static at) = touched at ∷ []
static_ranges _ = []

-- what one item maps, where the guest is not direct-mapped, and where it is
what_ram : (before : List Passed) (number page : ℕ) (what : What) → is_direct before (Some number) ≡ false →
    ram_at page (maps_by what (pages_with before (Some number) what)) ≡ holds (bank_pages (pages_before before (Some number)) (static_pages what)) page
what_ram before number page (whats.Static at) indirect =
    ram_onto page Ram (at.base / 4096) (pages_with before (Some number) (whats.Static at))
    ∙ ap (λ (b : Bool). holds (cond b (touched at ∷ []) (bank_pages (pages_before before (Some number)) (touched at).count)) page) indirect
what_ram before number page (whats.Range host size guest) indirect =
    ram_onto page Device (host / 4096) (pages_with before (Some number) (whats.Range host size guest)) ∙ sym (banks_none (pages_before before (Some number)) page)
what_ram before number page (whats.Shared id None guest size owner) indirect = sym (banks_none (pages_before before (Some number)) page)
what_ram before number page (whats.Shared id (Some host) guest size owner) indirect =
    ram_onto page Shared (host / 4096) (pages_with before (Some number) (whats.Shared id (Some host) guest size owner)) ∙ sym (banks_none (pages_before before (Some number)) page)
what_ram before number page _ indirect = sym (banks_none (pages_before before (Some number)) page)

what_direct : (before : List Passed) (number page : ℕ) (what : What) → is_direct before (Some number) ≡ true → ram_at page (maps_by what (pages_with before (Some number) what)) ≡ holds (static_ranges what) page
what_direct before number page (whats.Static at) direct =
    ram_onto page Ram (at.base / 4096) (pages_with before (Some number) (whats.Static at))
    ∙ ap (λ (b : Bool). holds (cond b (touched at ∷ []) (bank_pages (pages_before before (Some number)) (touched at).count)) page) direct
what_direct before number page (whats.Range host size guest) direct = ram_onto page Device (host / 4096) (pages_with before (Some number) (whats.Range host size guest))
what_direct before number page (whats.Shared id None guest size owner) direct = refl
what_direct before number page (whats.Shared id (Some host) guest size owner) direct = ram_onto page Shared (host / 4096) (pages_with before (Some number) (whats.Shared id (Some host) guest size owner))
what_direct before number page _ direct = refl

-- how many static pages the items of a guest have
abbrev pub statics_in : ℕ → List Passed → ℕ
statics_in number passed = sum_by (λ (one : Passed). cond (belongs_to (Some number) one) (static_pages (what_of one)) 0) passed

abbrev pub whats_in : List Described → List What
whats_in items = map (λ (one : Described). one.what) items

-- one item of the guest after others
module _ (number : ℕ) (read : Bool) (item : Described) (before : List Passed) where
  abbrev pub mine : Passed
  mine = passing before (record { guest = Some number; partial_read = read; described = item })

  belongs : belongs_to (Some number) mine ≡ true
  belongs = guest_belongs number mine refl

  statics_more : statics_in number (before ++ mine ∷ []) ≡ statics_in number before + static_pages item.what
  statics_more =
      let last : (n : ℕ) → n + 0 ≡ n = λ n. omega arith in
      sum_by-append (λ (one : Passed). cond (belongs_to (Some number) one) (static_pages (what_of one)) 0) before (mine ∷ [])
      ∙ ap (λ n. statics_in number before + n)
      (sum_by-cons (λ (one : Passed). cond (belongs_to (Some number) one) (static_pages (what_of one)) 0) mine [] ∙ ap (λ (b : Bool). cond b (static_pages item.what) 0 + 0) belongs ∙ last (static_pages item.what))

  pub direct_more : is_direct (before ++ mine ∷ []) (Some number) ≡ (is_direct before (Some number) || says_direct item.what)
  direct_more =
      list_any-append (λ (one : Passed). belongs_to (Some number) one && says_direct (what_of one)) before (mine ∷ [])
      ∙ ap (λ b. is_direct before (Some number) || b) (ap (λ b. (b && says_direct item.what) || false) belongs ∙ or-false (says_direct item.what))

  pub ram_more : (page : ℕ) → ram_at page (flat_map (item_ranges number) (before ++ mine ∷ [])) ≡ (ram_at page (flat_map (item_ranges number) before) || ram_at page (maps_of mine))
  ram_more page =
      ap (ram_at page) (flat_map-append (item_ranges number) before (mine ∷ []))
      ∙ ram_append page (flat_map (item_ranges number) before) (item_ranges number mine ++ [])
      ∙ ap (λ b. ram_at page (flat_map (item_ranges number) before) || b)
      (ram_append page (item_ranges number mine) [] ∙ or-false (ram_at page (item_ranges number mine)) ∙ ap (λ (b : Bool). ram_at page (cond b (maps_of mine) [])) belongs)

  said_more : {A : Type 0} (says : What → List A) → said_by (before ++ mine ∷ []) number says ≡ said_by before number says ++ says item.what
  said_more says =
      flat_map-append (λ (one : Passed). cond (belongs_to (Some number) one) (says (what_of one)) []) before (mine ∷ [])
      ∙ ap (λ xs. said_by before number says ++ xs) (ap (λ (b : Bool). cond b (says item.what) [] ++ []) belongs ∙ append-nil (says item.what))

-- the guest's items in a row: their static pages, whether they say that it is direct-mapped, and what they say one by one
pub statics_all : (number : ℕ) (read : Bool) (items : List Described) (before : List Passed) → statics_in number (all_passed before (of_guest number read items)) ≡ statics_in number before + sum_by static_pages (whats_in items)
unfolding all_passed
statics_all number read [] before = let none : sum_by static_pages (whats_in []) ≡ 0 = refl in omega arith
statics_all number read (item ∷ items) before =
    let rest = statics_all number read items (before ++ mine number read item before ∷ []) in
    let one = statics_more number read item before in
    let sum : sum_by static_pages (whats_in (item ∷ items)) ≡ static_pages item.what + sum_by static_pages (whats_in items) = sum_by-cons static_pages item.what (whats_in items) in
    rest ∙ omega (arith, one, sum)

pub direct_all : (number : ℕ) (read : Bool) (items : List Described) (before : List Passed) → is_direct (all_passed before (of_guest number read items)) (Some number) ≡ (is_direct before (Some number) || list_any says_direct (whats_in items))
unfolding all_passed
direct_all number read [] before = sym (or-false (is_direct before (Some number)))
direct_all number read (item ∷ items) before =
    direct_all number read items (before ++ mine number read item before ∷ [])
    ∙ ap (λ b. b || list_any says_direct (whats_in items)) (direct_more number read item before)
    ∙ or-assoc (is_direct before (Some number)) (says_direct item.what) (list_any says_direct (whats_in items))

pub said_all : {A : Type 0} (says : What → List A) (number : ℕ) (read : Bool) (items : List Described) (before : List Passed) →
    said_by (all_passed before (of_guest number read items)) number says ≡ said_by before number says ++ flat_map says (whats_in items)
unfolding all_passed
said_all says number read [] before = sym (append-nil (said_by before number says))
said_all says number read (item ∷ items) before =
    said_all says number read items (before ++ mine number read item before ∷ [])
    ∙ ap (λ xs. xs ++ flat_map says (whats_in items)) (said_more number read item before says)
    ∙ append_assoc (said_by before number says) (says item.what) (flat_map says (whats_in items))

-- what they map, where none says that the guest is direct-mapped
pub indirect_ram : (number page : ℕ) (read : Bool) (items : List Described) (before : List Passed) → statics_in number before + sum_by static_pages (whats_in items) ≤ 2 ^ 22 →
    is_direct before (Some number) ≡ false → list_any says_direct (whats_in items) ≡ false →
    ram_at page (flat_map (item_ranges number) (all_passed before (of_guest number read items))) ≡ (ram_at page (flat_map (item_ranges number) before) || holds (bank_pages (pages_before before (Some number)) (sum_by static_pages (whats_in items))) page)
unfolding all_passed
indirect_ram number page read [] before few indirect none = sym (ap (λ b. ram_at page (flat_map (item_ranges number) before) || b) (banks_none (pages_before before (Some number)) page) ∙ or-false (ram_at page (flat_map (item_ranges number) before)))
indirect_ram number page read (item ∷ items) before few indirect none =
    let parts = or_none_of (says_direct item.what) (list_any says_direct (whats_in items)) none in
    let one = statics_more number read item before in
    let sum : sum_by static_pages (whats_in (item ∷ items)) ≡ static_pages item.what + sum_by static_pages (whats_in items) = sum_by-cons static_pages item.what (whats_in items) in
    let still : is_direct (before ++ mine number read item before ∷ []) (Some number) ≡ false = direct_more number read item before ∙ rw (indirect, parts.0) refl in
    let further : pages_before (before ++ mine number read item before ∷ []) (Some number) ≡ pages_before before (Some number) + static_pages item.what = omega (arith, one, sum, few) in
    indirect_ram number page read items (before ++ mine number read item before ∷ []) (omega (arith, one, sum, few)) still parts.1
    ∙ ap (λ b. b || holds (bank_pages (pages_before (before ++ mine number read item before ∷ []) (Some number)) (sum_by static_pages (whats_in items))) page)
    (ram_more number read item before page ∙ ap (λ b. ram_at page (flat_map (item_ranges number) before) || b) (what_ram before number page item.what indirect))
    ∙ ap (λ n. (ram_at page (flat_map (item_ranges number) before) || holds (bank_pages (pages_before before (Some number)) (static_pages item.what)) page) || holds (bank_pages n (sum_by static_pages (whats_in items))) page) further
    ∙ or-assoc (ram_at page (flat_map (item_ranges number) before)) (holds (bank_pages (pages_before before (Some number)) (static_pages item.what)) page) (holds (bank_pages (pages_before before (Some number) + static_pages item.what) (sum_by static_pages (whats_in items))) page)
    ∙ ap (λ b. ram_at page (flat_map (item_ranges number) before) || b)
    (banks_join (pages_before before (Some number)) (static_pages item.what) (sum_by static_pages (whats_in items)) page ∙ ap (λ n. holds (bank_pages (pages_before before (Some number)) n) page) (sym sum))
  where
    or_none_of : (a b : Bool) → (a || b) ≡ false → (a ≡ false) × (b ≡ false)
    or_none_of true b h = absurd cc
    or_none_of false b h = (refl, h)

-- and where the guest is
pub direct_ram : (number page : ℕ) (read : Bool) (items : List Described) (before : List Passed) → is_direct before (Some number) ≡ true →
    ram_at page (flat_map (item_ranges number) (all_passed before (of_guest number read items))) ≡ (ram_at page (flat_map (item_ranges number) before) || holds (flat_map static_ranges (whats_in items)) page)
unfolding all_passed
direct_ram number page read [] before direct = sym (or-false (ram_at page (flat_map (item_ranges number) before)))
direct_ram number page read (item ∷ items) before direct =
    let still : is_direct (before ++ mine number read item before ∷ []) (Some number) ≡ true = direct_more number read item before ∙ rw direct refl in
    direct_ram number page read items (before ++ mine number read item before ∷ []) still
    ∙ ap (λ b. b || holds (flat_map static_ranges (whats_in items)) page) (ram_more number read item before page ∙ ap (λ b. ram_at page (flat_map (item_ranges number) before) || b) (what_direct before number page item.what direct))
    ∙ or-assoc (ram_at page (flat_map (item_ranges number) before)) (holds (static_ranges item.what) page) (holds (flat_map static_ranges (whats_in items)) page)
    ∙ ap (λ b. ram_at page (flat_map (item_ranges number) before) || b) (sym (list_any-append (λ (range : FrameRange). is_within range.first range.count page) (static_ranges item.what) (flat_map static_ranges (whats_in items))))

-- the pages that are listed
listed_more : (pair : ℕ × ℕ) (more : List (ℕ × ℕ)) (page : ℕ) → is_listed (pair ∷ more) page ≡ (is_within pair.0 pair.1 page || is_listed more page)
listed_more pair more page = is_in-append (numbers pair.0 pair.1) (flat_map (λ (page, count). numbers page count) more) page ∙ ap (λ b. b || is_listed more page) (is_in-numbers pair.0 pair.1 page)

pub listed_statics : (page : ℕ) (ws : List What) → is_listed (flat_map static_memory ws) page ≡ holds (flat_map static_ranges ws) page
listed_statics page [] = is_in_nil page
listed_statics page (what ∷ ws) = by_what what (listed_statics page ws)
  where
    by_what : (what : What) → is_listed (flat_map static_memory ws) page ≡ holds (flat_map static_ranges ws) page → is_listed (static_memory what ++ flat_map static_memory ws) page ≡ holds (static_ranges what ++ flat_map static_ranges ws) page
    by_what (whats.Static at) later = listed_more (as_pair (touched at)) (flat_map static_memory ws) page ∙ ap (λ b. is_within (touched at).first (touched at).count page || b) later
    by_what _ later = later

pub listed_banks : (page : ℕ) (ranges : List FrameRange) → is_listed (map as_pair (filter (λ (range : FrameRange). nat_lt 0 range.count) ranges)) page ≡ holds ranges page
listed_banks page [] = is_in_nil page
listed_banks page (range ∷ ranges) = by_test (leb_tells 1 range.count) (listed_banks page ranges)
  where
    empty : range.count < 1 → is_within range.first range.count page ≡ false
    empty none = by_within (within_tells range.first range.count page)
      where
        by_within : ((is_within range.first range.count page ≡ true) × (range.first ≤ page) × (page < range.first + range.count)) ⊎ ((is_within range.first range.count page ≡ false) × ((page < range.first) ⊎ (range.first + range.count ≤ page))) → is_within range.first range.count page ≡ false
        by_within (inl h) = absurd (omega (arith, h.1, h.2))
        by_within (inr h) = h.0

    by_test : ((leb 1 range.count ≡ true) × (1 ≤ range.count)) ⊎ ((leb 1 range.count ≡ false) × (range.count < 1)) → is_listed (map as_pair (filter (λ (one : FrameRange). nat_lt 0 one.count) ranges)) page ≡ holds ranges page →
        is_listed (map as_pair (filter (λ (one : FrameRange). nat_lt 0 one.count) (range ∷ ranges))) page ≡ holds (range ∷ ranges) page
    by_test (inl some) later = rw some.0 (listed_more (as_pair range) (map as_pair (filter (λ (one : FrameRange). nat_lt 0 one.count) ranges)) page ∙ ap (λ b. is_within range.first range.count page || b) later)
    by_test (inr none) later = rw none.0 (later ∙ ap (λ b. b || holds ranges page) (sym (empty none.1)))
