-- The plan of a guest keeps to what its tree can hold.
use Rattle.std.proofs.Common.{◌≡◌, ◌∙◌, ap, sym, subst, refl, ℕ, ◌+◌, ◌-◌, ◌/◌, ◌^◌, ◌<◌, ◌≤◌, min, Bool, true, false, cond, List, [], ◌∷◌, filter, All, Option, Some, None, arith}
use Rattle.std.specs.Prelude.{IsTrue, flat_map, sum_by, nat_lt}
use Rattle.std.proofs.lemmas.List.Elements.{All-append, All-nil, All-cons, All-head, All-tail, All-map}
use Rattle.described.specs.Sound.{AreWholePages, IsSound, IsSoundRegion}
use Rattle.described.specs.declared.item.Described.{Described}
use Rattle.described.specs.declared.item.What.{What}
use Rattle.described.specs.declared.item.What.TheVariants as whats
use Rattle.texts.specs.declared.ranges.FrameRange.{FrameRange}
use Rattle.frame_alloc.specs.Ranges.{touched}
use Rattle.item_checks.specs.declared.guests.Guest.{Guest}
use Rattle.domain_plan.specs.Arguments.{IsSoundGuest, whats_of}
use Rattle.item_checks.specs.Entries.{items_of, is_read}
use Rattle.domain_plan.specs.Plans.{as_pair, banks_filled, memories_of, port_of, region_of, said_by, static_memory}
use Rattle.item_checks.specs.Taken.{Passed, bank_pages, is_direct, pages_before, static_pages}
use Rattle.domain_plan.proofs.MapLemmas.{touched_whole}
use Rattle.domain_plan.proofs.MemoryLemmas.{said_all, statics_all, statics_in, whats_in}
use Rattle.domain_plan.proofs.OwnItems.{own_of, own_passed, same_direct, same_said, same_static}
use Rattle.guest_fdt.specs.Laws.{is_text}
use Rattle.guest_fdt.proofs.GuestFits.{Fits}

-- what is said of each item that keeps to a fact
pub all_said : {A : Type 0} (P : A → Type 0) (Q : What → Type 0) (says : What → List A) → ((what : What) → Q what → All P (says what)) → (items : List Described) → All (λ (item : Described). Q item.what) items
    → All P (flat_map says (whats_in items))
all_said P Q says each [] all = All-nil P
all_said P Q says each (item ∷ items) all =
    All-append P (says item.what) (flat_map says (whats_in items)) (each item.what (All-head (λ (one : Described). Q one.what) item items all))
    (all_said P Q says each items (All-tail (λ (one : Described). Q one.what) item items all))

all_filter : {A : Type 0} (P : A → Type 0) (test : A → Bool) (xs : List A) → All P xs → All P (filter test xs)
all_filter P test [] all = All-nil P
all_filter P test (x ∷ xs) all = by (test x) (all_filter P test xs (All-tail P x xs all))
  where
    by : (b : Bool) → All P (filter test xs) → All P (cond b (x ∷ filter test xs) (filter test xs))
    by true later = All-cons P x (filter test xs) (All-head P x xs all) later
    by false later = later

-- ---- what a guest's own items say

pub said_own : {A : Type 0} (says : What → List A) (number : ℕ) (guest : Guest) (passed : List Passed) → own_of number passed ≡ own_of number (own_passed number guest) → said_by passed number says ≡ flat_map says (whats_in (items_of guest))
said_own says number guest passed same = same_said says number passed (own_passed number guest) same ∙ said_all says number (is_read guest.partial) (items_of guest) []

-- the memories of a guest are those of its own items
pub own_memories : (number : ℕ) (guest : Guest) (passed own : List Passed) → own_of number passed ≡ own_of number own → memories_of passed number guest ≡ memories_of own number guest
own_memories number guest passed own same =
    ap (λ (b : Bool). cond b (said_by passed number static_memory) (banks_filled (guest.domain.pages + pages_before passed (Some number)))) (same_direct number passed own same)
    ∙ ap (λ (xs : List (ℕ × ℕ)). cond (is_direct own (Some number)) xs (banks_filled (guest.domain.pages + pages_before passed (Some number)))) (same_said static_memory number passed own same)
    ∙ ap (λ (k : ℕ). cond (is_direct own (Some number)) (said_by own number static_memory) (banks_filled (guest.domain.pages + k))) (same_static number passed own same)

-- ---- memory

-- pages end at or below page 2^28
abbrev pub EndLow : ℕ × ℕ → Type 0
EndLow pair = pair.0 + pair.1 ≤ 2 ^ 28

pages_low : (base size : ℕ) → AreWholePages base size → base / 4096 + size / 4096 ≤ 2 ^ 28
pages_low base size whole =
    let low : base + size ≤ 2 ^ 40 = whole.low in
    omega arith

static_low : (what : What) → IsSound what → All EndLow (static_memory what)
static_low (whats.Static at) sound =
    let is : touched at ≡ record { first = at.base / 4096; count = at.size / 4096 } = touched_whole at.base at.size sound in
    let fits : EndLow (as_pair (record { first = at.base / 4096; count = at.size / 4096 })) = pages_low at.base at.size sound in
    All-cons EndLow (as_pair (touched at)) [] (subst (λ (range : FrameRange). EndLow (as_pair range)) (sym is) fits) (All-nil EndLow)
static_low _ sound = All-nil EndLow

-- so do the pages of a range
abbrev IsLow : FrameRange → Type 0
IsLow range = EndLow (as_pair range)

banks_low : (count : ℕ) → count ≤ 2 ^ 23 → All EndLow (banks_filled count)
banks_low count few =
    All-map EndLow as_pair (filter (λ (range : FrameRange). nat_lt 0 range.count) (bank_pages 0 count))
    (all_filter IsLow (λ (range : FrameRange). nat_lt 0 range.count) (bank_pages 0 count) (All-cons IsLow _ (_ ∷ []) (first count few) (All-cons IsLow _ [] (second count few) (All-nil IsLow))))
  where
    first : (count : ℕ) → count ≤ 2 ^ 23 → 0x40000 + 0 + min count (786432 - 0) ≤ 2 ^ 28
    first count few = omega arith

    second : (count : ℕ) → count ≤ 2 ^ 23 → 0x200000 + (0 + min count (786432 - 0) - 786432) + (count - min count (786432 - 0)) ≤ 2 ^ 28
    second count few = omega arith

own_memories_low : (number : ℕ) (guest : Guest) → IsSoundGuest guest → guest.domain.pages ≤ 2 ^ 22 → All (λ (item : Described). IsSound item.what) (items_of guest) → All EndLow (memories_of (own_passed number guest) number guest)
own_memories_low number guest own few sound = by (is_direct (own_passed number guest) (Some number))
  where
    statics : pages_before (own_passed number guest) (Some number) ≤ 2 ^ 22
    statics =
        let all = statics_all number (is_read guest.partial) (items_of guest) [] in
        let start : statics_in number [] ≡ 0 = refl in
        let limit : sum_by static_pages (whats_of guest) ≤ 2 ^ 22 = own.statics in
        omega (arith, all, start, limit)

    by : (direct : Bool) → All EndLow (cond direct (said_by (own_passed number guest) number static_memory) (banks_filled (guest.domain.pages + pages_before (own_passed number guest) (Some number))))
    by true =
        subst (All EndLow) (sym (said_all static_memory number (is_read guest.partial) (items_of guest) []))
        (all_said EndLow IsSound static_memory static_low (items_of guest) sound)
    by false = banks_low (guest.domain.pages + pages_before (own_passed number guest) (Some number)) (let k = statics in omega arith)

pub memories_low : (number : ℕ) (guest : Guest) (passed : List Passed) → own_of number passed ≡ own_of number (own_passed number guest) → IsSoundGuest guest → guest.domain.pages ≤ 2 ^ 22
    → All (λ (item : Described). IsSound item.what) (items_of guest) → All EndLow (memories_of passed number guest)
memories_low number guest passed same own few sound = subst (All EndLow) (sym (own_memories number guest passed (own_passed number guest) same)) (own_memories_low number guest own few sound)

-- ---- regions and ports

abbrev pub RegionLow : List ℕ × ℕ × ℕ → Type 0
RegionLow region = region.1 + region.2 ≤ 2 ^ 28

abbrev pub RegionText : List ℕ × ℕ × ℕ → Type 0
RegionText region = IsTrue (is_text region.0)

abbrev pub PortLow : ℕ × ℕ × ℕ → Type 0
PortLow port = (port.0 < 2 ^ 32) × (port.1 < 2 ^ 32) × (port.2 < 2 ^ 32)

guest_whole : (host : Option ℕ) (guest size : ℕ) → IsSoundRegion host guest size → AreWholePages guest size
guest_whole None guest size sound = sound
guest_whole (Some base) guest size sound = sound.1

region_low : (what : What) → IsSound what → All RegionLow (region_of what)
region_low (whats.Shared id host guest size owner) sound =
    let whole : AreWholePages guest size = guest_whole host guest size sound in
    let is : touched (record { base = guest; size = size }) ≡ record { first = guest / 4096; count = size / 4096 } = touched_whole guest size whole in
    let fits : guest / 4096 + size / 4096 ≤ 2 ^ 28 = pages_low guest size whole in
    All-cons RegionLow (id, (touched (record { base = guest; size = size })).first, (touched (record { base = guest; size = size })).count) []
    (subst (λ (range : FrameRange). range.first + range.count ≤ 2 ^ 28) (sym is) fits) (All-nil RegionLow)
region_low _ sound = All-nil RegionLow

region_text : (what : What) → Fits what → All RegionText (region_of what)
region_text (whats.Shared id host guest size owner) fits =
    All-cons RegionText (id, (touched (record { base = guest; size = size })).first, (touched (record { base = guest; size = size })).count) [] fits (All-nil RegionText)
region_text _ fits = All-nil RegionText

port_low : (what : What) → Fits what → All PortLow (port_of what)
port_low (whats.Port port peer peer_port) fits = All-cons PortLow (port, peer, peer_port) [] fits (All-nil PortLow)
port_low _ fits = All-nil PortLow

module _ (number : ℕ) (guest : Guest) (passed : List Passed) (same : own_of number passed ≡ own_of number (own_passed number guest)) where
  pub regions_low : All (λ (item : Described). IsSound item.what) (items_of guest) → All RegionLow (said_by passed number region_of)
  regions_low sound = subst (All RegionLow) (sym (said_own region_of number guest passed same)) (all_said RegionLow IsSound region_of region_low (items_of guest) sound)

  pub regions_text : All (λ (item : Described). Fits item.what) (items_of guest) → All RegionText (said_by passed number region_of)
  regions_text fits = subst (All RegionText) (sym (said_own region_of number guest passed same)) (all_said RegionText Fits region_of region_text (items_of guest) fits)

  pub ports_low : All (λ (item : Described). Fits item.what) (items_of guest) → All PortLow (said_by passed number port_of)
  ports_low fits = subst (All PortLow) (sym (said_own port_of number guest passed same)) (all_said PortLow Fits port_of port_low (items_of guest) fits)
