-- A sweep's steps: a leaf, a table, and pages that are not mapped.
use Rattle.std.proofs.Common.{◌≡◌, ◌≢◌, ℕ, zero, suc, ◌+◌, ◌^◌, ◌<◌, ◌≤◌, ◌⊎◌, ◌||◌, Bool, true, false, not, List, Some, refl, sym, ap, subst, ◌∙◌, arith, inl, inr}
use Rattle.std.specs.Prelude.{slice_index}
use Rattle.std.specs.Option.{is_some, IsSome}
use Rattle.std.specs.List.{slice_get, list_any, range_with_len}
use Rattle.texts.specs.Consecutive.{numbers}
use Rattle.described.proofs.RegionLemmas.{both_true}
use Rattle.stage2_tables.proofs.TableOrder.{table_regular, tables_in_order, key_of}
use Rattle.std.proofs.lemmas.Option.{same_Some}
use Rattle.std.proofs.lemmas.Bool.{false≢true}
use Rattle.described.specs.Regions.{Map, Region, span, region_around, is_block, lies_in_block, pages_in, has_table, tables_of, table_count}
use Rattle.stage2_walk.specs.Pages.{Page, word_in, with_word}
use Rattle.stage2_walk.proofs.WordLemmas.{word_in-with_word_same, word_in-with_word_other}
use Rattle.stage2_tables.specs.Least.{region_word, part_of}
use Rattle.stage2_tables.specs.Sweeps.{IsIn, HasBefore, Begun, IsTable, IsCounted, IsWrittenTo, HasFrames}
use Rattle.stage2_tables.specs.declared.sweep.Sweep.{Sweep}
use Rattle.stage2_tables.proofs.SweepFacts.{table_zero, IsPlain, IsTop, inside, same_level, table_top, top_plain, part_plain, part_in, one_part, no_block_around, span_some, around_plain, around_in}

page_or_past : (a b : ℕ) → (a < b) ⊎ (b ≤ a)
page_or_past a b = grind arith

same_or_not : (a b : ℕ) → (a ≡ b) ⊎ (a ≢ b)
same_or_not a b = grind arith

-- an earlier page stays one
pub before_more : (mapping : Map) (region : Region) (page next : ℕ) → page ≤ next → HasBefore mapping region page → HasBefore mapping region next
before_more mapping region page next up is = record { at = is.at; inside = is.inside; before = (let h = is.before in omega arith); mapped = is.mapped }

-- a leaf at a page: a block of level 1 or 2, or a mapped page
pub record IsLeaf (mapping : Map) (leaf : Region) : Type 0 where
  pub plain : IsPlain leaf
  pub some : 1 ≤ leaf.level
  pub block : is_block mapping leaf ≡ true
  pub mapped : IsSome (mapping leaf.page)

pub leaf_in : (mapping : Map) (leaf : Region) → IsLeaf mapping leaf → IsIn leaf.page leaf
leaf_in mapping leaf is = let positive = span_some leaf.level is.plain.level in (omega arith, omega arith)

-- what a leaf begins: the regions that hold it, which were begun, and itself
begun_by_leaf : (mapping : Map) (leaf region : Region) → IsLeaf mapping leaf → IsPlain region → 1 ≤ region.level → Begun mapping region (leaf.page + span leaf.level) 1 →
    Begun mapping region leaf.page leaf.level ⊎ ((leaf.level ≤ region.level) × (page : ℕ) × IsIn page leaf × IsIn page region)
begun_by_leaf mapping leaf region is plain some (inr h) = absurd (let low = h.0 in omega arith)
begun_by_leaf mapping leaf region is plain some (inl h) = by_page (page_or_past h.at leaf.page) (page_or_past region.level leaf.level)
  where
    by_page : (h.at < leaf.page) ⊎ (leaf.page ≤ h.at) → (region.level < leaf.level) ⊎ (leaf.level ≤ region.level) → Begun mapping region leaf.page leaf.level ⊎ ((leaf.level ≤ region.level) × (page : ℕ) × IsIn page leaf × IsIn page region)
    by_page (inl low) b = inl (inl (record { at = h.at; inside = h.inside; before = low; mapped = h.mapped }))
    by_page (inr high) (inl larger) =
        let within = inside region leaf h.at plain is.plain (omega arith) h.inside (high, h.before) in
        let positive = span_some leaf.level is.plain.level in
        inl (inr (larger, (within.0, (let k = within.1 in omega arith))))
    by_page (inr high) (inr smaller) = inr (smaller, h.at, (high, h.before), h.inside)

-- and what was begun stays so
begun_before_leaf : (mapping : Map) (leaf region : Region) → IsLeaf mapping leaf → Begun mapping region leaf.page leaf.level → Begun mapping region (leaf.page + span leaf.level) 1
begun_before_leaf mapping leaf region is (inl h) = inl (before_more mapping region leaf.page (leaf.page + span leaf.level) (omega arith) h)
begun_before_leaf mapping leaf region is (inr h) = let positive = span_some leaf.level is.plain.level in inl (record { at = leaf.page; inside = h.1; before = omega arith; mapped = is.mapped })

apart_tables : (mapping : Map) (frames : List ℕ) (j k : ℕ) → HasFrames mapping frames → j < table_count mapping → k < table_count mapping → j ≢ k → slice_index frames j ≢ slice_index frames k
apart_tables mapping frames j k has low high apart same = by_order (order j k)
  where
    order : (j k : ℕ) → (j < k) ⊎ ((j ≡ k) ⊎ (k < j))
    order j k = grind arith

    by_order : (j < k) ⊎ ((j ≡ k) ⊎ (k < j)) → ⊥
    by_order (inl less) = has.are.apart j k less (let e = has.enough in omega arith) same
    by_order (inr (inl is)) = apart is
    by_order (inr (inr more)) = has.are.apart k j more (let e = has.enough in omega arith) (sym same)

-- the words after one was written, in the part of a table that is a region
pub record IsPut (mapping : Map) (frames : List ℕ) (pages new : List Page) (part : Region) (word : ℕ) : Type 0 where
  pub place : ℕ
  pub index : ℕ
  pub region : Region
  pub table : IsTable mapping place region
  pub low : index < 512
  pub is : part_of region index ≡ part
  pub here : word_in new (slice_index frames place) index ≡ Some word
  pub others : (k i : ℕ) (r : Region) → IsTable mapping k r → i < 512 → part_of r i ≢ part → word_in new (slice_index frames k) i ≡ word_in pages (slice_index frames k) i

-- one word is written, and the new state begins its region and no other
pub written_more : (mapping : Map) (frames : List ℕ) (pages new : List Page) (page level next lower : ℕ) (part : Region) → IsWrittenTo mapping frames pages page level → IsPut mapping frames pages new part (region_word mapping frames part) →
    Begun mapping part next lower →
    ((k i : ℕ) (r : Region) → IsTable mapping k r → i < 512 → part_of r i ≢ part → Begun mapping (part_of r i) next lower → Begun mapping (part_of r i) page level) →
    ((region : Region) → Begun mapping region page level → Begun mapping region next lower) →
    IsWrittenTo mapping frames new next lower
written_more mapping frames pages new page level next lower part was put begins back on = record {
  written = λ k i r at low begun. by_written k i r at low begun (same_part k i r at low);
  blank = λ k i r at low none. by_blank k i r at low none (same_part k i r at low);
}
  where
    same_part : (k i : ℕ) (r : Region) → IsTable mapping k r → i < 512 → (part_of r i ≡ part) ⊎ (part_of r i ≢ part)
    same_part k i r at low = by_level (same_or_not (part_of r i).level part.level) (same_or_not (part_of r i).page part.page)
      where
        by_level : ((part_of r i).level ≡ part.level) ⊎ ((part_of r i).level ≢ part.level) → ((part_of r i).page ≡ part.page) ⊎ ((part_of r i).page ≢ part.page) → (part_of r i ≡ part) ⊎ (part_of r i ≢ part)
        by_level (inl a) (inl b) = inl (ap (λ (l : ℕ). record { level = l; page = (part_of r i).page }) a ∙ ap (λ (p : ℕ). record { level = part.level; page = p }) b)
        by_level (inl a) (inr b) = inr (λ same. b (ap (λ (x : Region). x.page) same))
        by_level (inr a) b = inr (λ same. a (ap (λ (x : Region). x.level) same))

    by_written : (k i : ℕ) (r : Region) → IsTable mapping k r → i < 512 → Begun mapping (part_of r i) next lower → (part_of r i ≡ part) ⊎ (part_of r i ≢ part) → word_in new (slice_index frames k) i ≡ Some (region_word mapping frames (part_of r i))
    by_written k i r at low begun (inl same) =
        let one = one_part mapping put.place k put.index i put.region r put.table at put.low low (put.is ∙ sym same) in
        ap (λ (n : ℕ). word_in new (slice_index frames n) i) (sym one.0) ∙ ap (word_in new (slice_index frames put.place)) (sym one.1) ∙ put.here ∙ ap (λ (x : Region). Some (region_word mapping frames x)) (sym same)
    by_written k i r at low begun (inr apart) = put.others k i r at low apart ∙ was.written k i r at low (back k i r at low apart begun)

    by_blank : (k i : ℕ) (r : Region) → IsTable mapping k r → i < 512 → (Begun mapping (part_of r i) next lower → ⊥) → (part_of r i ≡ part) ⊎ (part_of r i ≢ part) → word_in new (slice_index frames k) i ≡ Some 0
    by_blank k i r at low none (inl same) = absurd (none (subst (λ (x : Region). Begun mapping x next lower) (sym same) begins))
    by_blank k i r at low none (inr apart) = put.others k i r at low apart ∙ was.blank k i r at low (λ begun. none (on (part_of r i) begun))

-- what `put` of a word does
pub put_part : (mapping : Map) (frames : List ℕ) (pages : List Page) (place index : ℕ) (region part : Region) (word old : ℕ) → HasFrames mapping frames → IsTable mapping place region → place < table_count mapping → index < 512 → part_of region index ≡ part →
    word_in pages (slice_index frames place) index ≡ Some old → ((k : ℕ) (r : Region) → IsTable mapping k r → k < table_count mapping) → IsPut mapping frames pages (with_word pages (slice_index frames place) index word) part word
put_part mapping frames pages place index region part word old has at within low is was all = record {
  place = place;
  index = index;
  region = region;
  table = at;
  low = low;
  is = is;
  here = word_in-with_word_same pages (slice_index frames place) index word old was;
  others = λ k i r there below apart. word_in-with_word_other pages (slice_index frames place) index word (slice_index frames k) i (λ same index_is. by_place k i r there below apart same index_is (same_or_not k place));
}
  where
    by_place : (k i : ℕ) (r : Region) → IsTable mapping k r → i < 512 → part_of r i ≢ part → slice_index frames k ≡ slice_index frames place → i ≡ index → (k ≡ place) ⊎ (k ≢ place) → ⊥
    by_place k i r there below apart same index_is (inl one) =
        let regions : r ≡ region = same_Some r region (sym there ∙ ap (slice_get (tables_of mapping)) one ∙ at) in
        apart (ap (λ (x : Region). part_of x i) regions ∙ ap (part_of region) index_is ∙ is)
    by_place k i r there below apart same index_is (inr other) = apart_tables mapping frames k place has (all k r there) within other same

-- a leaf
pub leaf_written : (mapping : Map) (frames : List ℕ) (pages new : List Page) (leaf : Region) → IsLeaf mapping leaf → IsWrittenTo mapping frames pages leaf.page leaf.level → IsPut mapping frames pages new leaf (region_word mapping frames leaf) →
    IsWrittenTo mapping frames new (leaf.page + span leaf.level) 1
leaf_written mapping frames pages new leaf is was put =
    written_more mapping frames pages new leaf.page leaf.level (leaf.page + span leaf.level) 1 leaf was put
    (let positive = span_some leaf.level is.plain.level in inl (record { at = leaf.page; inside = leaf_in mapping leaf is; before = omega arith; mapped = is.mapped }))
    (λ k i r at low apart begun. by_case k i r at low apart (begun_by_leaf mapping leaf (part_of r i) is (part_plain k r i (table_top mapping k r at) low) (omega arith) begun))
    (λ region begun. begun_before_leaf mapping leaf region is begun)
  where
    by_case : (k i : ℕ) (r : Region) → IsTable mapping k r → i < 512 → part_of r i ≢ leaf → Begun mapping (part_of r i) leaf.page leaf.level ⊎ ((leaf.level ≤ (part_of r i).level) × (page : ℕ) × IsIn page leaf × IsIn page (part_of r i)) → Begun mapping (part_of r i) leaf.page leaf.level
    by_case k i r at low apart (inl begun) = begun
    by_case k i r at low apart (inr h) = by_level (at_or_past leaf.level (part_of r i).level h.0)
      where
        at_or_past : (a b : ℕ) → a ≤ b → (b ≡ a) ⊎ (a + 1 ≤ b)
        at_or_past a b up = grind arith

        by_level : ((part_of r i).level ≡ leaf.level) ⊎ (leaf.level + 1 ≤ (part_of r i).level) → Begun mapping (part_of r i) leaf.page leaf.level
        by_level (inl same) = absurd (apart (same_level (part_of r i) leaf h.1 (part_plain k r i (table_top mapping k r at) low) is.plain same h.3 h.2))
        by_level (inr smaller) = absurd (no_block_around mapping k r leaf h.1 at is.plain is.some (omega arith) is.block h.2 (part_in k r i h.1 (table_top mapping k r at) low h.3))

pub leaf_counted : (mapping : Map) (leaf : Region) (sweep : Sweep) → IsLeaf mapping leaf → IsCounted mapping leaf.page leaf.level sweep → IsCounted mapping (leaf.page + span leaf.level) 1 sweep
leaf_counted mapping leaf sweep is was = record {
  roots = was.roots;
  within = was.within;
  linked = λ k region at high low. begun_before_leaf mapping leaf region is (was.linked k region at high low);
  unlinked = λ k region at high begun. was.unlinked k region at high (by_case k region at high (begun_by_leaf mapping leaf region is (top_plain k region (table_top mapping k region at)) (some k region at high) begun));
  middle_used = was.middle_used;
  middle_is = was.middle_is;
  large_later = was.large_later;
  last_used = was.last_used;
  last_is = was.last_is;
  small_later = was.small_later;
}
  where
    some : (k : ℕ) (region : Region) → IsTable mapping k region → sweep.used ≤ k → 1 ≤ region.level
    some k region at high = by_root (page_or_past region.level 1)
      where
        by_root : (region.level < 1) ⊎ (1 ≤ region.level) → 1 ≤ region.level
        by_root (inr h) = h
        by_root (inl none) = absurd (let level : region.level ≡ 0 = omega arith in let page = table_zero mapping k region at level in let low = (table_top mapping k region at).low in let roots = was.roots in let whole : region.page + span 0 ≤ 2 ^ 28 = subst (λ (l : ℕ). region.page + span l ≤ 2 ^ 28) level low in omega arith)

    by_case : (k : ℕ) (region : Region) → IsTable mapping k region → sweep.used ≤ k → Begun mapping region leaf.page leaf.level ⊎ ((leaf.level ≤ region.level) × (page : ℕ) × IsIn page leaf × IsIn page region) → Begun mapping region leaf.page leaf.level
    by_case k region at high (inl begun) = begun
    by_case k region at high (inr h) = absurd (no_block_around mapping k region leaf h.1 at is.plain is.some h.0 is.block h.2 h.3)

-- some page of a region that has a table is mapped
some_page : (mapping : Map) (a n : ℕ) → list_any (λ p. is_some (mapping p)) (range_with_len a n) ≡ true → (at : ℕ) × ((a ≤ at) × (at < a + n)) × IsSome (mapping at)
some_page mapping a zero any = absurd (false≢true any)
some_page mapping a (suc n) any = by_test (is_some (mapping a)) refl any (some_page mapping (a + 1) n)
  where
    by_test : (b : Bool) → is_some (mapping a) ≡ b → (b || list_any (λ p. is_some (mapping p)) (range_with_len (a + 1) n)) ≡ true → (list_any (λ p. is_some (mapping p)) (range_with_len (a + 1) n) ≡ true → (at : ℕ) × (((a + 1) ≤ at) × (at < (a + 1) + n)) × IsSome (mapping at)) → (at : ℕ) × ((a ≤ at) × (at < a + suc n)) × IsSome (mapping at)
    by_test true is any rest = (a, (omega arith, omega arith), is)
    by_test false is any rest = let r = rest any in (r.0, ((let h = r.1.0 in omega arith), (let h = r.1.1 in omega arith)), r.2)

pub touched_in : (mapping : Map) (region : Region) → list_any (λ p. is_some (mapping p)) (pages_in region) ≡ true → (at : ℕ) × IsIn at region × IsSome (mapping at)
unfolding numbers
touched_in mapping region any = some_page mapping region.page (span region.level) any

pub mapped_in : (mapping : Map) (region : Region) → has_table mapping region ≡ true → (at : ℕ) × IsIn at region × IsSome (mapping at)
unfolding numbers
mapped_in mapping region has = some_page mapping region.page (span region.level) (both_true (list_any (λ p. is_some (mapping p)) (pages_in region)) (not (lies_in_block mapping region)) has).0

-- a table that is linked at a page: that of the region of a level around it
pub record IsNew (mapping : Map) (page level : ℕ) : Type 0 where
  pub some : 1 ≤ level
  pub low : level ≤ 2
  pub place : ℕ
  pub table : IsTable mapping place (region_around level page)
  pub below : 2 ≤ place
  pub within : place < table_count mapping
  pub fresh : HasBefore mapping (region_around level page) page → ⊥

pub link_region : (mapping : Map) (page level : ℕ) (region : Region) → IsPlain region → level ≤ 2 → Begun mapping region page (level + 1) → Begun mapping region page level ⊎ (region ≡ region_around level page)
link_region mapping page level region plain low (inl h) = inl (inl h)
link_region mapping page level region plain low (inr h) = by_level (at_or_below region.level level (omega arith))
  where
    at_or_below : (a b : ℕ) → a ≤ b → (a < b) ⊎ (a ≡ b)
    at_or_below a b up = grind arith

    by_level : (region.level < level) ⊎ (region.level ≡ level) → Begun mapping region page level ⊎ (region ≡ region_around level page)
    by_level (inl larger) = inl (inr (larger, h.1))
    by_level (inr same) = inr (same_level region (region_around level page) page plain (around_plain level page (omega arith)) same h.1 (around_in level page (omega arith)))

pub begun_more : (mapping : Map) (region : Region) (page level : ℕ) → Begun mapping region page level → Begun mapping region page (level + 1)
begun_more mapping region page level (inl h) = inl h
begun_more mapping region page level (inr h) = inr (let low = h.0 in omega arith, h.1)

pub around_begun : (mapping : Map) (page level : ℕ) → level ≤ 2 → Begun mapping (region_around level page) page (level + 1)
around_begun mapping page level low = inr (omega arith, around_in level page (omega arith))

not_begun : (mapping : Map) (page level : ℕ) → (HasBefore mapping (region_around level page) page → ⊥) → Begun mapping (region_around level page) page level → ⊥
not_begun mapping page level fresh (inl h) = fresh h
not_begun mapping page level fresh (inr h) = let low = h.0 in omega arith

-- a table word
pub link_written : (mapping : Map) (frames : List ℕ) (pages new : List Page) (page level : ℕ) → IsNew mapping page level → IsWrittenTo mapping frames pages page level → IsPut mapping frames pages new (region_around level page) (region_word mapping frames (region_around level page)) →
    IsWrittenTo mapping frames new page (level + 1)
link_written mapping frames pages new page level is was put =
    written_more mapping frames pages new page level page (level + 1) (region_around level page) was put (around_begun mapping page level is.low)
    (λ k i r at low apart begun. by_case k i r apart (link_region mapping page level (part_of r i) (part_plain k r i (table_top mapping k r at) low) is.low begun))
    (λ region begun. begun_more mapping region page level begun)
  where
    by_case : (k i : ℕ) (r : Region) → part_of r i ≢ region_around level page → Begun mapping (part_of r i) page level ⊎ (part_of r i ≡ region_around level page) → Begun mapping (part_of r i) page level
    by_case k i r apart (inl begun) = begun
    by_case k i r apart (inr same) = absurd (apart same)

-- the next table is the new one
pub link_place : (mapping : Map) (page level : ℕ) (sweep : Sweep) (is : IsNew mapping page level) → IsCounted mapping page level sweep → ((k : ℕ) → k < table_count mapping → (region : Region) × IsTable mapping k region) → is.place ≡ sweep.used
link_place mapping page level sweep is counted all = by_order (order is.place sweep.used)
  where
    order : (j k : ℕ) → (j < k) ⊎ ((j ≡ k) ⊎ (k < j))
    order j k = grind arith

    earlier : sweep.used < is.place → ⊥
    earlier less =
        let next = all sweep.used (let within = is.within in omega arith) in
        let region : Region = next.0 in
        let roots = counted.roots in
        let regular = table_regular mapping sweep.used region next.1 roots in
        let before = tables_in_order mapping sweep.used is.place region (region_around level page) next.1 is.table roots less in
        let top = table_top mapping sweep.used region next.1 in
        let plain = top_plain sweep.used region top in
        let around = around_in level page (let low = is.low in omega arith) in
        let found = mapped_in mapping region regular.1 in
        by_place region plain top before around found (λ begun. counted.unlinked sweep.used region next.1 (omega arith) begun) (page_or_past found.0 page) (page_or_past (region_around level page).page (region.page + span region.level))
      where
        by_place : (region : Region) (plain : IsPlain region) (top : IsTop sweep.used region) → key_of region < key_of (region_around level page) → IsIn page (region_around level page) → (found : (at : ℕ) × IsIn at region × IsSome (mapping at)) → (Begun mapping region page level → ⊥) → (found.0 < page) ⊎ (page ≤ found.0) → ((region_around level page).page < region.page + span region.level) ⊎ (region.page + span region.level ≤ (region_around level page).page) → ⊥
        by_place region plain top before around found none (inl low) b = none (inl (record { at = found.0; inside = found.1; before = low; mapped = found.2 }))
        by_place region plain top before around found none (inr high) (inr apart) = (let x = found.1.1 in let y = around.0 in omega arith)
        by_place region plain top before around found none (inr high) (inl meets) = by_level (page_or_past region.level level)
          where
            positive : 0 < span level
            positive = span_some level (let low = is.low in omega arith)

            start : IsIn (region_around level page).page (region_around level page)
            start = (omega arith, omega arith)

            by_level : (region.level < level) ⊎ (level ≤ region.level) → ⊥
            by_level (inl larger) =
                let level_low = is.low in
                let low : region.page ≤ (region_around level page).page = omega arith in
                let within = inside region (region_around level page) (region_around level page).page plain (around_plain level page (omega arith)) (omega arith) (low, meets) start in
                none (inr (larger, ((let x = within.0 in let y = around.0 in omega arith), (let x = within.1 in let y = around.1 in omega arith))))
            by_level (inr smaller) =
                let level_low = is.low in
                let some = span_some region.level plain.level in
                let low : region.page ≤ (region_around level page).page = omega arith in
                let within = inside (region_around level page) region (region_around level page).page (around_plain level page (omega arith)) plain smaller start (low, meets) in
                let x = within.0 in
                omega arith

    by_order : (is.place < sweep.used) ⊎ ((is.place ≡ sweep.used) ⊎ (sweep.used < is.place)) → is.place ≡ sweep.used
    by_order (inl less) = absurd (not_begun mapping page level is.fresh (counted.linked is.place (region_around level page) is.table is.below less))
    by_order (inr (inl same)) = same
    by_order (inr (inr more)) = absurd (earlier more)
