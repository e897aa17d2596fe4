-- The tables on the way to a leaf, and the words that name them.
use Rattle.std.proofs.Common.{◌≡◌, ℕ, zero, suc, ◌+◌, ◌-◌, ◌*◌, ◌/◌, ◌%◌, ◌^◌, ◌<◌, ◌≤◌, ◌⊎◌, Bool, true, false, not, cond, List, [], ◌∷◌, length, Some, refl, sym, ap, subst, ◌∙◌, arith, inl, inr}
use Rattle.std.specs.Prelude.{slice_index, nat_le}
use Rattle.std.specs.Option.{is_some}
use Rattle.std.specs.List.{slice_get, list_any}
use Rattle.std.proofs.lemmas.Option.{slice_get_within}
use Rattle.std.proofs.lemmas.Bool.{false≢true}
use Rattle.std.proofs.lemmas.Bool.Decides.{nat_tests}
use Rattle.texts.specs.Consecutive.{numbers}
use Rattle.described.specs.Regions.{Map, Region, span, region_around, is_run, is_block, tables_of, table_count}
use Rattle.texts.proofs.Ascending.{IsMember}
use Rattle.described.proofs.RegionLemmas.{both_true}
use Rattle.stage2_walk.specs.Pages.{Page, word_in, with_word, frames_of}
use Rattle.stage2_tables.specs.Words.{table_word}
use Rattle.stage2_tables.specs.Least.{region_word, part_of}
use Rattle.stage2_tables.specs.Sweeps.{HasBefore, Begun, IsTable, IsCounted, IsWrittenTo, HasFrames}
use Rattle.stage2_tables.specs.Steps.{large_sweep, small_sweep, word_at, large_pages, small_pages}
use Rattle.stage2_tables.specs.declared.sweep.Sweep.{Sweep}
use Rattle.stage2_tables.proofs.NumberCounts.{any-numbers-some}
use Rattle.stage2_tables.proofs.LeastWords.{IsPlace, place_found, table_place, large_member, small_member}
use Rattle.stage2_tables.proofs.LeastWalk.{word_table}
use Rattle.stage2_tables.proofs.LeastLevels.{large_of, small_of, touched, large_block, small_block, large_has, small_has, large_around_page, small_around_page}
use Rattle.stage2_tables.proofs.TableOrder.{table_regular}
use Rattle.stage2_tables.proofs.SweepFacts.{table_top, top_plain, table_once, no_block_around, span_some}
use Rattle.stage2_tables.proofs.SweepSteps.{IsLeaf, IsNew, IsPut, put_part, link_place, link_written, leaf_written}
use Rattle.stage2_tables.proofs.SweepStates.{large_case, small_case, more_large, more_small, same_counted, same_written, raised}

-- each place has a table
pub table_at : (mapping : Map) (k : ℕ) → k < table_count mapping → (region : Region) × IsTable mapping k region
table_at mapping k low = by_place (tables_of mapping) k low
  where
    by_place : (xs : List Region) (k : ℕ) → k < length xs → (region : Region) × (slice_get xs k ≡ Some region)
    by_place [] k low = absurd (omega arith)
    by_place (x ∷ xs) zero low = (x, refl)
    by_place (x ∷ xs) (suc k) low = by_place xs k (omega arith)

pub table_within : (mapping : Map) (k : ℕ) (region : Region) → IsTable mapping k region → k < table_count mapping
table_within mapping k region at = slice_get_within (tables_of mapping) k region at

-- the table word of a region
pub link_word : (mapping : Map) (frames : List ℕ) (k : ℕ) (region : Region) → IsTable mapping k region → 2 ≤ k → IsMember region (tables_of mapping) → region_word mapping frames region ≡ table_word (slice_index frames k)
link_word mapping frames k region at high member =
    let has = (table_regular mapping k region at high).1 in
    let place = place_found (tables_of mapping) region member in
    let once : place.0 ≡ k = table_once mapping place.0 k region place.1.is at in
    word_table mapping frames region (no_block (is_block mapping region) refl) has
    ∙ ap (λ (f : ℕ). table_word f) (table_place mapping frames region place.0 place.1 ∙ ap (slice_index frames) once)
  where
    some : 1 ≤ region.level
    some = by_level (table_regular mapping k region at high).0.level
      where
        by_level : (region.level ≡ 1) ⊎ (region.level ≡ 2) → 1 ≤ region.level
        by_level (inl h) = omega arith
        by_level (inr h) = omega arith

    no_block : (b : Bool) → is_block mapping region ≡ b → is_block mapping region ≡ false
    no_block false is = is
    no_block true is =
        let plain = top_plain k region (table_top mapping k region at) in
        let positive = span_some region.level plain.level in
        absurd (no_block_around mapping k region region region.page at plain some (omega arith) is (omega arith, omega arith) (omega arith, omega arith))

-- no run of a larger level holds a leaf
larger_not : (mapping : Map) (leaf : Region) (level : ℕ) → IsLeaf mapping leaf → 1 ≤ level → level < leaf.level → is_run mapping (region_around level leaf.page) ≡ false
larger_not mapping leaf level is one less = by_test (is_run mapping (region_around level leaf.page)) refl
  where
    by_test : (b : Bool) → is_run mapping (region_around level leaf.page) ≡ b → is_run mapping (region_around level leaf.page) ≡ false
    by_test false run = run
    by_test true run =
        let parts = both_true (is_run mapping leaf) (not (list_any (λ l. is_run mapping (region_around l leaf.page)) (numbers 1 (leaf.level - 1)))) is.block in
        let any : list_any (λ l. is_run mapping (region_around l leaf.page)) (numbers 1 (leaf.level - 1)) ≡ true = any-numbers-some (λ l. is_run mapping (region_around l leaf.page)) 1 (leaf.level - 1) level one (omega arith) run in
        absurd (false≢true (ap not (sym any) ∙ parts.1))

-- the 1 GiB region around a smaller leaf has a table
pub large_table : (mapping : Map) (leaf : Region) → IsLeaf mapping leaf → leaf.page < 2 ^ 28 → 1 < leaf.level → IsMember (region_around 1 leaf.page) (tables_of mapping)
large_table mapping leaf is low smaller =
    let page : ℕ = leaf.page in
    let same : region_around 1 page ≡ large_of page = large_around_page page in
    let run : is_run mapping (large_of page) ≡ false = ap (is_run mapping) (sym same) ∙ larger_not mapping leaf 1 is (omega arith) smaller in
    let some : touched mapping (large_of page) ≡ true = any-numbers-some (λ p. is_some (mapping p)) (page / 2 ^ 18 * 2 ^ 18) (2 ^ 18) page (omega arith) (omega arith) is.mapped in
    subst (λ (r : Region). IsMember r (tables_of mapping)) (sym same)
    (large_member mapping (page / 2 ^ 18) (omega arith) (large_has mapping page (large_block mapping page ∙ run) ∙ some))

-- the 2 MiB region around a page has a table
pub small_table : (mapping : Map) (leaf : Region) → IsLeaf mapping leaf → leaf.page < 2 ^ 28 → 2 < leaf.level → IsMember (region_around 2 leaf.page) (tables_of mapping)
small_table mapping leaf is low smaller =
    let page : ℕ = leaf.page in
    let one : region_around 1 page ≡ large_of page = large_around_page page in
    let two : region_around 2 page ≡ small_of page = small_around_page page in
    let large : is_run mapping (large_of page) ≡ false = ap (is_run mapping) (sym one) ∙ larger_not mapping leaf 1 is (omega arith) (omega arith) in
    let small : is_run mapping (small_of page) ≡ false = ap (is_run mapping) (sym two) ∙ larger_not mapping leaf 2 is (omega arith) smaller in
    let some : touched mapping (small_of page) ≡ true = any-numbers-some (λ p. is_some (mapping p)) (page / 2 ^ 18 * 2 ^ 18 + page / 2 ^ 9 % 512 * 2 ^ 9) (2 ^ 9) page (omega arith) (omega arith) is.mapped in
    subst (λ (r : Region). IsMember r (tables_of mapping)) (sym two)
    (small_member mapping (page / 2 ^ 18) (page / 2 ^ 9 % 512) (omega arith) (omega arith)
    (small_has mapping page (large_block mapping page ∙ large) (small_block mapping page large ∙ small) ∙ some))

-- the root table of a page
pub root_table : (mapping : Map) (page : ℕ) → page < 2 ^ 28 → IsTable mapping (page / 2 ^ 27) (record { level = 0; page = page / 2 ^ 27 * 2 ^ 27 })
root_table mapping page low = by_half (half page low)
  where
    half : (page : ℕ) → page < 2 ^ 28 → (page / 2 ^ 27 ≡ 0) ⊎ (page / 2 ^ 27 ≡ 1)
    half page low = grind arith

    by_half : (page / 2 ^ 27 ≡ 0) ⊎ (page / 2 ^ 27 ≡ 1) → IsTable mapping (page / 2 ^ 27) (record { level = 0; page = page / 2 ^ 27 * 2 ^ 27 })
    by_half (inl h) = subst (λ (n : ℕ). IsTable mapping n (record { level = 0; page = n * 2 ^ 27 })) (sym h) refl
    by_half (inr h) = subst (λ (n : ℕ). IsTable mapping n (record { level = 0; page = n * 2 ^ 27 })) (sym h) refl

-- the state of an image and of a sweep
pub record IsSwept (mapping : Map) (frames : List ℕ) (pages : List Page) (page level : ℕ) (sweep : Sweep) : Type 0 where
  pub counted : IsCounted mapping page level sweep
  pub written : IsWrittenTo mapping frames pages page level

-- the region around a page is a part of the table above it
pub part_large : (page : ℕ) → part_of (record { level = 0; page = page / 2 ^ 27 * 2 ^ 27 }) (page / 2 ^ 18 % 512) ≡ region_around 1 page
part_large page = let same : page / 2 ^ 27 * 2 ^ 27 + page / 2 ^ 18 % 512 * 2 ^ 18 ≡ page - page % 2 ^ 18 = omega arith in ap (λ (p : ℕ). record { level = 1; page = p }) same

pub part_small : (page : ℕ) → part_of (region_around 1 page) (page / 2 ^ 9 % 512) ≡ region_around 2 page
part_small page = let same : page - page % 2 ^ 18 + page / 2 ^ 9 % 512 * 2 ^ 9 ≡ page - page % 2 ^ 9 = omega arith in ap (λ (p : ℕ). record { level = 2; page = p }) same

pub part_page : (page : ℕ) → part_of (region_around 2 page) (page % 512) ≡ record { level = 3; page = page }
part_page page = let same : page - page % 2 ^ 9 + page % 512 * 1 ≡ page = omega arith in ap (λ (p : ℕ). record { level = 3; page = p }) same

-- nothing of a region that was not begun
not_yet : (mapping : Map) (page level : ℕ) (region : Region) → region.level ≡ level → (HasBefore mapping region page → ⊥) → Begun mapping region page level → ⊥
not_yet mapping page level region same none (inl h) = none h
not_yet mapping page level region same none (inr h) = let low = h.0 in omega arith

nat_le_true : (a b : ℕ) → a ≤ b → nat_le a b ≡ true
nat_le_true a b h = grind (arith, nat_tests)

nat_le_false : (a b : ℕ) → b < a → nat_le a b ≡ false
nat_le_false a b h = grind (arith, nat_tests)

at_least : (mapping : Map) (k : ℕ) (region : Region) → IsTable mapping k region → 1 ≤ region.level → 2 ≤ k
at_least mapping k region at some = by_root (table_top mapping k region at).root
  where
    by_root : (region.level ≡ 0) ⊎ (2 ≤ k) → 2 ≤ k
    by_root (inl h) = absurd (omega arith)
    by_root (inr h) = h

-- whether a region around a page gets its table now
abbrev pub Linking : Map → ℕ → ℕ → Sweep → Type 0
Linking mapping page level sweep = (new : IsNew mapping page level) × (new.place ≡ sweep.used)

new_large : (mapping : Map) (page : ℕ) (sweep : Sweep) → IsMember (region_around 1 page) (tables_of mapping) → IsCounted mapping page 1 sweep →
    ((sweep.large ≤ page / 2 ^ 18) × Linking mapping page 1 sweep) ⊎ ((sweep.large ≡ page / 2 ^ 18 + 1) × HasBefore mapping (region_around 1 page) page)
new_large mapping page sweep member was = by_case (large_case mapping page found.0 sweep found.1.is was)
  where
    found : (place : ℕ) × IsPlace (tables_of mapping) (region_around 1 page) place
    found = place_found (tables_of mapping) (region_around 1 page) member

    by_case : ((sweep.large ≤ page / 2 ^ 18) × (HasBefore mapping (region_around 1 page) page → ⊥)) ⊎ ((sweep.large ≡ page / 2 ^ 18 + 1) × HasBefore mapping (region_around 1 page) page × IsTable mapping sweep.middle (region_around 1 page)) →
        ((sweep.large ≤ page / 2 ^ 18) × Linking mapping page 1 sweep) ⊎ ((sweep.large ≡ page / 2 ^ 18 + 1) × HasBefore mapping (region_around 1 page) page)
    by_case (inr h) = inr (h.0, h.1)
    by_case (inl h) =
        let new : IsNew mapping page 1 = record { some = omega arith; low = omega arith; place = found.0; table = found.1.is; below = at_least mapping found.0 (region_around 1 page) found.1.is (omega arith); within = table_within mapping found.0 (region_around 1 page) found.1.is; fresh = h.1 } in
        inl (h.0, (new, link_place mapping page 1 sweep new was (table_at mapping)))

new_small : (mapping : Map) (page : ℕ) (sweep : Sweep) → IsMember (region_around 2 page) (tables_of mapping) → IsCounted mapping page 2 sweep →
    ((sweep.small ≤ page / 2 ^ 9) × Linking mapping page 2 sweep) ⊎ ((sweep.small ≡ page / 2 ^ 9 + 1) × HasBefore mapping (region_around 2 page) page)
new_small mapping page sweep member was = by_case (small_case mapping page found.0 sweep found.1.is was)
  where
    found : (place : ℕ) × IsPlace (tables_of mapping) (region_around 2 page) place
    found = place_found (tables_of mapping) (region_around 2 page) member

    by_case : ((sweep.small ≤ page / 2 ^ 9) × (HasBefore mapping (region_around 2 page) page → ⊥)) ⊎ ((sweep.small ≡ page / 2 ^ 9 + 1) × HasBefore mapping (region_around 2 page) page × IsTable mapping sweep.last (region_around 2 page)) →
        ((sweep.small ≤ page / 2 ^ 9) × Linking mapping page 2 sweep) ⊎ ((sweep.small ≡ page / 2 ^ 9 + 1) × HasBefore mapping (region_around 2 page) page)
    by_case (inr h) = inr (h.0, h.1)
    by_case (inl h) =
        let new : IsNew mapping page 2 = record { some = omega arith; low = omega arith; place = found.0; table = found.1.is; below = at_least mapping found.0 (region_around 2 page) found.1.is (omega arith); within = table_within mapping found.0 (region_around 2 page) found.1.is; fresh = h.1 } in
        inl (h.0, (new, link_place mapping page 2 sweep new was (table_at mapping)))

-- the count after the table of the 1 GiB region, which is then the latest
pub counted_large : (mapping : Map) (page : ℕ) (sweep : Sweep) → IsMember (region_around 1 page) (tables_of mapping) → IsCounted mapping page 1 sweep →
    IsCounted mapping page 2 (large_sweep sweep page) × ((large_sweep sweep page).large ≡ page / 2 ^ 18 + 1) × (sweep.large ≤ page / 2 ^ 18 → sweep.used < table_count mapping)
counted_large mapping page sweep member was = by_case (new_large mapping page sweep member was)
  where
    more : Sweep
    more = record { used = sweep.used + 1; large = page / 2 ^ 18 + 1; small = sweep.small; middle = sweep.used; last = sweep.last }

    Told : Sweep → Type 0
    Told next = IsCounted mapping page 2 next × (next.large ≡ page / 2 ^ 18 + 1) × (sweep.large ≤ page / 2 ^ 18 → sweep.used < table_count mapping)

    by_case : ((sweep.large ≤ page / 2 ^ 18) × Linking mapping page 1 sweep) ⊎ ((sweep.large ≡ page / 2 ^ 18 + 1) × HasBefore mapping (region_around 1 page) page) → Told (large_sweep sweep page)
    by_case (inl h) =
        subst Told (sym (ap (λ (b : Bool). cond b more sweep) (nat_le_true sweep.large (page / 2 ^ 18) h.0)))
        (more_large mapping page sweep h.1.0 h.1.1 h.0 was, refl, λ _. (let within = h.1.0.within in let is = h.1.1 in omega arith))
    by_case (inr h) =
        subst Told (sym (ap (λ (b : Bool). cond b more sweep) (nat_le_false sweep.large (page / 2 ^ 18) (let is = h.0 in omega arith))))
        (same_counted mapping page 1 page 2 sweep (raised mapping page 1 (omega arith) h.1) was, h.0, λ low. absurd (let is = h.0 in omega arith))

pub counted_small : (mapping : Map) (page : ℕ) (sweep : Sweep) → IsMember (region_around 2 page) (tables_of mapping) → IsCounted mapping page 2 sweep →
    IsCounted mapping page 3 (small_sweep sweep page) × ((small_sweep sweep page).small ≡ page / 2 ^ 9 + 1) × (sweep.small ≤ page / 2 ^ 9 → sweep.used < table_count mapping)
counted_small mapping page sweep member was = by_case (new_small mapping page sweep member was)
  where
    more : Sweep
    more = record { used = sweep.used + 1; large = sweep.large; small = page / 2 ^ 9 + 1; middle = sweep.middle; last = sweep.used }

    Told : Sweep → Type 0
    Told next = IsCounted mapping page 3 next × (next.small ≡ page / 2 ^ 9 + 1) × (sweep.small ≤ page / 2 ^ 9 → sweep.used < table_count mapping)

    by_case : ((sweep.small ≤ page / 2 ^ 9) × Linking mapping page 2 sweep) ⊎ ((sweep.small ≡ page / 2 ^ 9 + 1) × HasBefore mapping (region_around 2 page) page) → Told (small_sweep sweep page)
    by_case (inl h) =
        subst Told (sym (ap (λ (b : Bool). cond b more sweep) (nat_le_true sweep.small (page / 2 ^ 9) h.0)))
        (more_small mapping page sweep h.1.0 h.1.1 h.0 was, refl, λ _. (let within = h.1.0.within in let is = h.1.1 in omega arith))
    by_case (inr h) =
        subst Told (sym (ap (λ (b : Bool). cond b more sweep) (nat_le_false sweep.small (page / 2 ^ 9) (let is = h.0 in omega arith))))
        (same_counted mapping page 2 page 3 sweep (raised mapping page 2 (omega arith) h.1) was, h.0, λ low. absurd (let is = h.0 in omega arith))

-- the latest tables
pub middle_here : (mapping : Map) (page level : ℕ) (sweep : Sweep) → sweep.large ≡ page / 2 ^ 18 + 1 → IsCounted mapping page level sweep → IsTable mapping sweep.middle (region_around 1 page)
middle_here mapping page level sweep is was =
    let pages : (sweep.large - 1) * 2 ^ 18 ≡ page - page % 2 ^ 18 = omega arith in
    subst (IsTable mapping sweep.middle) (ap (λ (p : ℕ). record { level = 1; page = p }) pages) (was.middle_is (omega arith))

pub last_here : (mapping : Map) (page level : ℕ) (sweep : Sweep) → sweep.small ≡ page / 2 ^ 9 + 1 → IsCounted mapping page level sweep → IsTable mapping sweep.last (region_around 2 page)
last_here mapping page level sweep is was =
    let pages : (sweep.small - 1) * 2 ^ 9 ≡ page - page % 2 ^ 9 = omega arith in
    subst (IsTable mapping sweep.last) (ap (λ (p : ℕ). record { level = 2; page = p }) pages) (was.last_is (omega arith))

-- a table word in the table above
link_put : (mapping : Map) (frames : List ℕ) (pages : List Page) (page level place index : ℕ) (above : Region) (sweep : Sweep) → HasFrames mapping frames → frames_of pages ≡ frames → IsTable mapping place above → index < 512 → part_of above index ≡ region_around level page → IsMember (region_around level page) (tables_of mapping) → IsWrittenTo mapping frames pages page level → Linking mapping page level sweep →
    IsWrittenTo mapping frames (word_at pages place index (table_word (slice_index (frames_of pages) sweep.used))) page (level + 1)
link_put mapping frames pages page level place index above sweep has same at low is member was link =
    let new : IsNew mapping page level = link.0 in
    let word : region_word mapping frames (region_around level page) ≡ table_word (slice_index frames sweep.used) = link_word mapping frames new.place (region_around level page) new.table new.below member ∙ ap (λ (k : ℕ). table_word (slice_index frames k)) link.1 in
    let blank : word_in pages (slice_index frames place) index ≡ Some 0 = was.blank place index above at low (λ begun. not_yet mapping page level (region_around level page) refl new.fresh (subst (λ (r : Region). Begun mapping r page level) is begun)) in
    subst (λ (fs : List ℕ). IsWrittenTo mapping frames (with_word pages (slice_index fs place) index (table_word (slice_index fs sweep.used))) page (level + 1)) (sym same)
    (link_written mapping frames pages (with_word pages (slice_index frames place) index (table_word (slice_index frames sweep.used))) page level new was
    (subst (IsPut mapping frames pages (with_word pages (slice_index frames place) index (table_word (slice_index frames sweep.used))) (region_around level page)) (sym word)
    (put_part mapping frames pages place index above (region_around level page) (table_word (slice_index frames sweep.used)) 0 has at (table_within mapping place above at) low is blank (λ k r there. table_within mapping k r there))))

pub written_large : (mapping : Map) (frames : List ℕ) (pages : List Page) (page : ℕ) (sweep : Sweep) → HasFrames mapping frames → frames_of pages ≡ frames → page < 2 ^ 28 → IsMember (region_around 1 page) (tables_of mapping) → IsCounted mapping page 1 sweep → IsWrittenTo mapping frames pages page 1 →
    IsWrittenTo mapping frames (large_pages pages sweep page) page 2
written_large mapping frames pages page sweep has same low member counted was = by_case (new_large mapping page sweep member counted)
  where
    more : List Page
    more = word_at pages (page / 2 ^ 27) (page / 2 ^ 18 % 512) (table_word (slice_index (frames_of pages) sweep.used))

    by_case : ((sweep.large ≤ page / 2 ^ 18) × Linking mapping page 1 sweep) ⊎ ((sweep.large ≡ page / 2 ^ 18 + 1) × HasBefore mapping (region_around 1 page) page) → IsWrittenTo mapping frames (large_pages pages sweep page) page 2
    by_case (inl h) =
        subst (λ (ps : List Page). IsWrittenTo mapping frames ps page 2) (sym (ap (λ (b : Bool). cond b more pages) (nat_le_true sweep.large (page / 2 ^ 18) h.0)))
        (link_put mapping frames pages page 1 (page / 2 ^ 27) (page / 2 ^ 18 % 512) (record { level = 0; page = page / 2 ^ 27 * 2 ^ 27 }) sweep has same (root_table mapping page low) (omega arith) (part_large page) member was h.1)
    by_case (inr h) =
        subst (λ (ps : List Page). IsWrittenTo mapping frames ps page 2) (sym (ap (λ (b : Bool). cond b more pages) (nat_le_false sweep.large (page / 2 ^ 18) (let is = h.0 in omega arith))))
        (same_written mapping frames pages page 1 page 2 (raised mapping page 1 (omega arith) h.1) was)

pub written_small : (mapping : Map) (frames : List ℕ) (pages : List Page) (page : ℕ) (sweep : Sweep) → HasFrames mapping frames → frames_of pages ≡ frames → sweep.large ≡ page / 2 ^ 18 + 1 → IsMember (region_around 2 page) (tables_of mapping) → IsCounted mapping page 2 sweep → IsWrittenTo mapping frames pages page 2 →
    IsWrittenTo mapping frames (small_pages pages sweep page) page 3
written_small mapping frames pages page sweep has same large member counted was = by_case (new_small mapping page sweep member counted)
  where
    more : List Page
    more = word_at pages sweep.middle (page / 2 ^ 9 % 512) (table_word (slice_index (frames_of pages) sweep.used))

    by_case : ((sweep.small ≤ page / 2 ^ 9) × Linking mapping page 2 sweep) ⊎ ((sweep.small ≡ page / 2 ^ 9 + 1) × HasBefore mapping (region_around 2 page) page) → IsWrittenTo mapping frames (small_pages pages sweep page) page 3
    by_case (inl h) =
        subst (λ (ps : List Page). IsWrittenTo mapping frames ps page 3) (sym (ap (λ (b : Bool). cond b more pages) (nat_le_true sweep.small (page / 2 ^ 9) h.0)))
        (link_put mapping frames pages page 2 sweep.middle (page / 2 ^ 9 % 512) (region_around 1 page) sweep has same (middle_here mapping page 2 sweep large counted) (omega arith) (part_small page) member was h.1)
    by_case (inr h) =
        subst (λ (ps : List Page). IsWrittenTo mapping frames ps page 3) (sym (ap (λ (b : Bool). cond b more pages) (nat_le_false sweep.small (page / 2 ^ 9) (let is = h.0 in omega arith))))
        (same_written mapping frames pages page 2 page 3 (raised mapping page 2 (omega arith) h.1) was)

-- the leaf's word in the table above
pub written_leaf : (mapping : Map) (frames : List ℕ) (pages : List Page) (leaf : Region) (place index word : ℕ) (above : Region) → HasFrames mapping frames → frames_of pages ≡ frames → IsLeaf mapping leaf → IsTable mapping place above → index < 512 → part_of above index ≡ leaf → word ≡ region_word mapping frames leaf → IsWrittenTo mapping frames pages leaf.page leaf.level →
    IsWrittenTo mapping frames (word_at pages place index word) (leaf.page + span leaf.level) 1
written_leaf mapping frames pages leaf place index word above has same is at low part word_is was =
    let blank : word_in pages (slice_index frames place) index ≡ Some 0 = was.blank place index above at low (λ begun. not_begun (subst (λ (r : Region). Begun mapping r leaf.page leaf.level) part begun)) in
    subst (λ (fs : List ℕ). IsWrittenTo mapping frames (with_word pages (slice_index fs place) index word) (leaf.page + span leaf.level) 1) (sym same)
    (leaf_written mapping frames pages (with_word pages (slice_index frames place) index word) leaf is was
    (subst (IsPut mapping frames pages (with_word pages (slice_index frames place) index word) leaf) word_is
    (put_part mapping frames pages place index above leaf word 0 has at (table_within mapping place above at) low part blank (λ k r there. table_within mapping k r there))))
  where
    not_begun : Begun mapping leaf leaf.page leaf.level → ⊥
    not_begun (inl h) = let before = h.before in let from = h.inside.0 in omega arith
    not_begun (inr h) = let less = h.0 in omega arith
