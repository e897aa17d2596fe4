-- A guest's listed memory is what its map gives it as its own.
use Rattle.std.proofs.Common.{◌≡◌, ℕ, ◌+◌, ◌^◌, ◌<◌, ◌≤◌, ◌⊎◌, ◌||◌, Bool, true, false, leb, cond, List, [], ◌∷◌, ◌++◌, drop, Some, None, Ok, refl, sym, ap, ◌∙◌, arith, inl, inr}
use Rattle.std.specs.Prelude.{slice_get, flat_map, sum_by}
use Rattle.std.specs.List.{list_any}
use Rattle.std.proofs.lemmas.Option.{same_Some, none-some}
use Rattle.std.proofs.lemmas.Bool.Decides.{leb_tells}
use Rattle.texts.specs.declared.ranges.FrameRange.{FrameRange}
use Rattle.described.specs.declared.map_range.MapRange.{MapRange}
use Rattle.described.specs.declared.item.Described.{Described}
use Rattle.described.specs.declared.item.What.{What}
use Rattle.domain_bindings.specs.declared.host.Host.{Host}
use Rattle.item_checks.specs.declared.guests.Guest.{Guest}
use Rattle.described.specs.declared.loaded.Loaded.{Loaded}
use Rattle.frame_alloc.specs.Ranges.{holds}
use Rattle.frame_alloc.proofs.CommonFrames.{true_or_false, not_both}
use Rattle.item_checks.specs.Entries.{joined, of_guest, is_read, items_of}
use Rattle.item_checks.specs.Taken.{Passed, says_direct, is_direct, static_pages, pages_before, bank_pages, all_passed, passed_of, total}
use Rattle.frame_alloc.specs.Frames.{AreFrames}
use Rattle.item_checks.specs.Refusals.{first_refused}
use Rattle.domain_plan.specs.Draws.{Heaps, heaps}
use Rattle.domain_plan.specs.GuestMaps.{laid, guest_ranges}
use Rattle.domain_plan.specs.PrivateLaying.{maps_by, AreApart}
use Rattle.domain_plan.specs.Arguments.{AreRead, IsSoundGuest, head_of}
use Rattle.domain_plan.specs.Plans.{said_by, static_memory, banks_filled, memories_of}
use Rattle.domain_plan.specs.Memories.{is_ram, is_listed, HasOneKindOfMemory}
use Rattle.domain_plan.proofs.GuestsLaw.{sound_guest}
use Rattle.domain_plan.proofs.HeadLemmas.{heaps_total}
use Rattle.domain_plan.proofs.MapLemmas.{item_ranges}
use Rattle.domain_plan.proofs.OwnItems.{pages_with, own_of, own_passed, own_items, same_ranges, same_direct, same_static, same_said}
use Rattle.domain_plan.proofs.ReadyLemmas.{ready}
use Rattle.domain_plan.proofs.MemoryLemmas.{ram_at, ram_append, is_ram-apart, banks_none, ram_laid, static_ranges, statics_in, whats_in, mine, ram_more, direct_more, statics_all, direct_all, said_all, indirect_ram, direct_ram, listed_statics, listed_banks}

or-false : (b : Bool) → (b || false) ≡ b
or-false true = refl
or-false false = refl

-- drawn pages and static pages, of which a guest has one kind
one_kind : (pages statics page : ℕ) → (0 < pages → statics ≡ 0) → holds (bank_pages 0 (pages + statics)) page ≡ (holds (bank_pages 0 pages) page || holds (bank_pages 0 statics) page)
one_kind pages statics page alone = by_test (leb_tells 1 pages)
  where
    by_test : ((leb 1 pages ≡ true) × (1 ≤ pages)) ⊎ ((leb 1 pages ≡ false) × (pages < 1)) → holds (bank_pages 0 (pages + statics)) page ≡ (holds (bank_pages 0 pages) page || holds (bank_pages 0 statics) page)
    by_test (inl some) =
        let none : statics ≡ 0 = alone some.1 in
        let sum : pages + statics ≡ pages = omega arith in
        ap (λ n. holds (bank_pages 0 n) page) sum ∙ sym (or-false (holds (bank_pages 0 pages) page)) ∙ ap (λ b. holds (bank_pages 0 pages) page || b) (sym (ap (λ n. holds (bank_pages 0 n) page) none ∙ banks_none 0 page))
    by_test (inr under) =
        let none : pages ≡ 0 = let low : pages < 1 = under.1 in omega arith in
        let sum : pages + statics ≡ statics = omega arith in
        ap (λ n. holds (bank_pages 0 n) page) sum ∙ ap (λ b. b || holds (bank_pages 0 statics) page) (sym (ap (λ n. holds (bank_pages 0 n) page) none ∙ banks_none 0 page))

module _ (number page : ℕ) (guest : Guest) (read : Bool) where
  -- a guest that is not direct-mapped
  indirect : (items : List Described) (drawn : List FrameRange) → list_any says_direct (whats_in items) ≡ false → sum_by static_pages (whats_in items) ≤ 2 ^ 22 → (0 < guest.domain.pages → sum_by static_pages (whats_in items) ≡ 0) → total drawn ≡ guest.domain.pages
      → is_listed (memories_of (all_passed [] (of_guest number read items)) number guest) page ≡ (ram_at page (laid 0 drawn) || ram_at page (flat_map (item_ranges number) (all_passed [] (of_guest number read items))))
  indirect items drawn none few alone amount =
      let own : List Passed = all_passed [] (of_guest number read items) in
      let not_direct : is_direct (all_passed [] (of_guest number read items)) (Some number) ≡ false = direct_all number read items [] ∙ none in
      let statics = statics_all number read items [] in
      let start : statics_in number [] ≡ 0 = refl in
      let before : pages_before (all_passed [] (of_guest number read items)) (Some number) ≡ sum_by static_pages (whats_in items) = omega (arith, statics, start, few) in
      ap (λ (b : Bool). is_listed (cond b (said_by (all_passed [] (of_guest number read items)) number static_memory) (banks_filled (guest.domain.pages + pages_before (all_passed [] (of_guest number read items)) (Some number)))) page) not_direct
      ∙ ap (λ n. is_listed (banks_filled (guest.domain.pages + n)) page) before
      ∙ listed_banks page (bank_pages 0 (guest.domain.pages + sum_by static_pages (whats_in items)))
      ∙ one_kind guest.domain.pages (sum_by static_pages (whats_in items)) page alone
      ∙ ap (λ b. b || holds (bank_pages 0 (sum_by static_pages (whats_in items))) page) (sym (ram_laid 0 drawn page ∙ ap (λ n. holds (bank_pages 0 n) page) amount))
      ∙ ap (λ b. ram_at page (laid 0 drawn) || b) (sym (indirect_ram number page read items [] (omega (arith, start, few)) refl none))

  -- and one that is
  direct : (item : Described) (rest : List Described) (drawn : List FrameRange) → item.what ≡ head_of guest.domain → guest.domain.direct ≡ true → guest.domain.pages ≡ 0 → total drawn ≡ guest.domain.pages
      → is_listed (memories_of (all_passed [] (of_guest number read (item ∷ rest))) number guest) page ≡ (ram_at page (laid 0 drawn) || ram_at page (flat_map (item_ranges number) (all_passed [] (of_guest number read (item ∷ rest)))))
  unfolding all_passed
  direct item rest drawn head flag no_pages amount =
      let says : says_direct item.what ≡ true = ap says_direct head ∙ flag in
      let is : is_direct (all_passed [] (of_guest number read (item ∷ rest))) (Some number) ≡ true = direct_all number read (item ∷ rest) [] ∙ ap (λ b. b || list_any says_direct (whats_in rest)) says in
      let own_says : is_direct ([] ++ mine number read item [] ∷ []) (Some number) ≡ true = direct_more number read item [] ∙ says in
      let head_maps : ram_at page (flat_map (item_ranges number) ([] ++ mine number read item [] ∷ [])) ≡ false =
      ram_more number read item [] page ∙ ap (λ (what : What). ram_at page (maps_by what (pages_with [] (Some number) what))) head in
      let none_drawn : ram_at page (laid 0 drawn) ≡ false = ram_laid 0 drawn page ∙ ap (λ n. holds (bank_pages 0 n) page) (amount ∙ no_pages) ∙ banks_none 0 page in
      ap (λ (b : Bool). is_listed (cond b (said_by (all_passed [] (of_guest number read (item ∷ rest))) number static_memory) (banks_filled (guest.domain.pages + pages_before (all_passed [] (of_guest number read (item ∷ rest))) (Some number)))) page) is
      ∙ ap (λ memories. is_listed memories page) (said_all static_memory number read (item ∷ rest) [] ∙ ap (λ (what : What). static_memory what ++ flat_map static_memory (whats_in rest)) head)
      ∙ listed_statics page (whats_in rest)
      ∙ ap (λ b. b || holds (flat_map static_ranges (whats_in rest)) page) (sym head_maps)
      ∙ sym (direct_ram number page read rest ([] ++ mine number read item [] ∷ []) own_says)
      ∙ ap (λ b. b || ram_at page (flat_map (item_ranges number) (all_passed [] (of_guest number read (item ∷ rest))))) (sym none_drawn)

  -- by the guest's items alone
  by_items : (items : List Described) (drawn : List FrameRange) → slice_get (whats_in items) 0 ≡ Some (head_of guest.domain) → list_any says_direct (drop 1 (whats_in items)) ≡ false → sum_by static_pages (whats_in items) ≤ 2 ^ 22
      → (0 < guest.domain.pages → (sum_by static_pages (whats_in items) ≡ 0) × (guest.domain.direct ≡ false)) → total drawn ≡ guest.domain.pages
      → is_listed (memories_of (all_passed [] (of_guest number read items)) number guest) page ≡ (ram_at page (laid 0 drawn) || ram_at page (flat_map (item_ranges number) (all_passed [] (of_guest number read items))))
  by_items [] drawn first later few alone amount = absurd (none-some _ first)
  by_items (item ∷ rest) drawn first later few alone amount = by_flag (true_or_false guest.domain.direct)
    where
      head : item.what ≡ head_of guest.domain
      head = same_Some item.what (head_of guest.domain) first

      by_flag : (guest.domain.direct ≡ true) ⊎ (guest.domain.direct ≡ false)
          → is_listed (memories_of (all_passed [] (of_guest number read (item ∷ rest))) number guest) page ≡ (ram_at page (laid 0 drawn) || ram_at page (flat_map (item_ranges number) (all_passed [] (of_guest number read (item ∷ rest)))))
      by_flag (inl flag) = direct item rest drawn head flag (by_pages (leb_tells 1 guest.domain.pages)) amount
        where
          by_pages : ((leb 1 guest.domain.pages ≡ true) × (1 ≤ guest.domain.pages)) ⊎ ((leb 1 guest.domain.pages ≡ false) × (guest.domain.pages < 1)) → guest.domain.pages ≡ 0
          by_pages (inl some) = not_both guest.domain.direct flag (alone some.1).1
          by_pages (inr none) = let low : guest.domain.pages < 1 = none.1 in omega arith
      by_flag (inr flag) =
          indirect (item ∷ rest) drawn (ap (λ b. b || list_any says_direct (whats_in rest)) (ap says_direct head ∙ flag) ∙ later) few (λ some. (alone some).0) amount

own_mapped : (number page : ℕ) (guest : Guest) (drawn : List FrameRange) → AreApart (guest_ranges (own_passed number guest) number drawn) → IsSoundGuest guest → HasOneKindOfMemory guest → total drawn ≡ guest.domain.pages
    → is_listed (memories_of (own_passed number guest) number guest) page ≡ is_ram (guest_ranges (own_passed number guest) number drawn) page
unfolding guest_ranges
own_mapped number page guest drawn apart sound kinds amount =
    by_items number page guest (is_read guest.partial) (items_of guest) drawn sound.head kinds.head_alone sound.statics kinds.drawn_alone amount
    ∙ sym (is_ram-apart (laid 0 drawn ++ flat_map (item_ranges number) (own_passed number guest)) page apart ∙ ram_append page (laid 0 drawn) (flat_map (item_ranges number) (own_passed number guest)))

same_memories : (number : ℕ) (guest : Guest) (passed own : List Passed) → own_of number passed ≡ own_of number own → memories_of passed number guest ≡ memories_of own number guest
same_memories number guest passed own same =
    ap (λ (b : Bool). cond b (said_by passed number static_memory) (banks_filled (guest.domain.pages + pages_before passed (Some number)))) (same_direct number passed own same)
    ∙ ap (λ (xs : List (ℕ × ℕ)). cond (is_direct own (Some number)) xs (banks_filled (guest.domain.pages + pages_before passed (Some number)))) (same_said static_memory number passed own same)
    ∙ ap (λ (k : ℕ). cond (is_direct own (Some number)) (said_by own number static_memory) (banks_filled (guest.domain.pages + k))) (same_static number passed own same)

-- a guest's listed memory is what its map gives it as its own
pub memory_mapped : (host : Host) (loads : List Loaded) (guests : List Guest) (all : Heaps) → AreRead host loads guests → first_refused host [] (joined host loads guests) ≡ None → (free : List ℕ) → AreFrames free → heaps guests free ≡ Ok all →
    (number : ℕ) (guest : Guest) (drawn : List FrameRange) → slice_get guests number ≡ Some guest → slice_get all.drawn number ≡ Some drawn → HasOneKindOfMemory guest →
    (page : ℕ) → is_listed (memories_of (passed_of host loads guests) number guest) page ≡ is_ram (guest_ranges (passed_of host loads guests) number drawn) page
memory_mapped host loads guests all read none free ascending drew number guest drawn at at_drawn kinds page =
    let own = own_items host loads guests number guest at in
    let made = ready host loads guests all read none free ascending drew number guest drawn at at_drawn in
    let amount = heaps_total guests free all number drawn drew at_drawn in
    let same : amount.0 ≡ guest = same_Some amount.0 guest (sym amount.1 ∙ at) in
    let pages : total drawn ≡ guest.domain.pages = amount.2 ∙ ap (λ (one : Guest). one.domain.pages) same in
    ap (λ memories. is_listed memories page) (same_memories number guest (passed_of host loads guests) (own_passed number guest) own)
    ∙ own_mapped number page guest drawn made.apart (sound_guest host loads guests read none number guest at) kinds pages
    ∙ ap (λ (ranges : List MapRange). is_ram ranges page) (sym (same_ranges number (passed_of host loads guests) (own_passed number guest) drawn own))
