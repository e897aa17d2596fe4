-- A leaf and the tables on the way to it: the whole step of a sweep.
use Rattle.std.proofs.Common.{◌≡◌, ℕ, ◌+◌, ◌-◌, ◌*◌, ◌/◌, ◌%◌, ◌^◌, ◌<◌, ◌≤◌, ◌⊎◌, Bool, true, false, cond, List, refl, sym, ap, subst, ◌∙◌, arith, inl, inr}
use Rattle.std.specs.Prelude.{slice_index, nat_le}
use Rattle.described.specs.Regions.{Map, Region, span, region_around, table_count}
use Rattle.stage2_walk.specs.Pages.{Page, frames_of}
use Rattle.stage2_walk.proofs.WordLemmas.{frames_of-with_word}
use Rattle.stage2_tables.specs.Words.{table_word}
use Rattle.stage2_tables.specs.Least.{region_word, part_of}
use Rattle.stage2_tables.specs.Sweeps.{IsTable, IsCounted, IsWrittenTo, HasFrames, AreWide}
use Rattle.stage2_tables.specs.Steps.{large_sweep, small_sweep, leaf_sweep, word_at, large_pages, small_pages, linked_pages, leaf_place, leaf_pages, HasRoom}
use Rattle.stage2_tables.specs.declared.sweep.Sweep.{Sweep}
use Rattle.stage2_tables.proofs.FewTables.{few_tables}
use Rattle.stage2_tables.proofs.LeastPages.{wide-with_word}
use Rattle.stage2_tables.proofs.SweepSteps.{IsLeaf, leaf_counted}
use Rattle.stage2_tables.proofs.LinkSteps.{large_table, small_table, root_table, part_large, part_small, part_page, counted_large, counted_small, written_large, written_small, written_leaf, middle_here, last_here, table_within}

-- linking keeps the frames and the sizes of the pages
frames_large : (pages : List Page) (sweep : Sweep) (page : ℕ) → frames_of (large_pages pages sweep page) ≡ frames_of pages
frames_large pages sweep page = by_test (nat_le sweep.large (page / 2 ^ 18))
  where
    by_test : (b : Bool) → frames_of (cond b (word_at pages (page / 2 ^ 27) (page / 2 ^ 18 % 512) (table_word (slice_index (frames_of pages) sweep.used))) pages) ≡ frames_of pages
    by_test true = frames_of-with_word pages (slice_index (frames_of pages) (page / 2 ^ 27)) (page / 2 ^ 18 % 512) (table_word (slice_index (frames_of pages) sweep.used))
    by_test false = refl

frames_small : (pages : List Page) (sweep : Sweep) (page : ℕ) → frames_of (small_pages pages sweep page) ≡ frames_of pages
frames_small pages sweep page = by_test (nat_le sweep.small (page / 2 ^ 9))
  where
    by_test : (b : Bool) → frames_of (cond b (word_at pages sweep.middle (page / 2 ^ 9 % 512) (table_word (slice_index (frames_of pages) sweep.used))) pages) ≡ frames_of pages
    by_test true = frames_of-with_word pages (slice_index (frames_of pages) sweep.middle) (page / 2 ^ 9 % 512) (table_word (slice_index (frames_of pages) sweep.used))
    by_test false = refl

wide_large : (pages : List Page) (sweep : Sweep) (page : ℕ) → AreWide pages → AreWide (large_pages pages sweep page)
wide_large pages sweep page wide = by_test (nat_le sweep.large (page / 2 ^ 18))
  where
    by_test : (b : Bool) → AreWide (cond b (word_at pages (page / 2 ^ 27) (page / 2 ^ 18 % 512) (table_word (slice_index (frames_of pages) sweep.used))) pages)
    by_test true = wide-with_word pages (slice_index (frames_of pages) (page / 2 ^ 27)) (page / 2 ^ 18 % 512) (table_word (slice_index (frames_of pages) sweep.used)) wide
    by_test false = wide

wide_small : (pages : List Page) (sweep : Sweep) (page : ℕ) → AreWide pages → AreWide (small_pages pages sweep page)
wide_small pages sweep page wide = by_test (nat_le sweep.small (page / 2 ^ 9))
  where
    by_test : (b : Bool) → AreWide (cond b (word_at pages sweep.middle (page / 2 ^ 9 % 512) (table_word (slice_index (frames_of pages) sweep.used))) pages)
    by_test true = wide-with_word pages (slice_index (frames_of pages) sweep.middle) (page / 2 ^ 9 % 512) (table_word (slice_index (frames_of pages) sweep.used)) wide
    by_test false = wide

-- the tables of a leaf are linked
pub record IsLinked (mapping : Map) (sweep : Sweep) (leaf : Region) : Type 0 where
  pub counted : IsCounted mapping leaf.page leaf.level (leaf_sweep sweep leaf.page leaf.level)
  pub room : HasRoom (table_count mapping) sweep leaf.page leaf.level
  pub above : Region
  pub table : IsTable mapping (leaf_place (leaf_sweep sweep leaf.page leaf.level) leaf.page leaf.level) above
  pub part : part_of above (leaf.page / span leaf.level % 512) ≡ leaf
  pub written : (frames : List ℕ) (pages : List Page) → HasFrames mapping frames → frames_of pages ≡ frames → IsWrittenTo mapping frames pages leaf.page 1 → IsWrittenTo mapping frames (linked_pages pages sweep leaf.page leaf.level) leaf.page leaf.level
  pub kept : (pages : List Page) → frames_of (linked_pages pages sweep leaf.page leaf.level) ≡ frames_of pages
  pub wide : (pages : List Page) → AreWide pages → AreWide (linked_pages pages sweep leaf.page leaf.level)

root_part : (page : ℕ) → part_of (record { level = 0; page = page / 2 ^ 27 * 2 ^ 27 }) (page / 2 ^ 18 % 512) ≡ region_around 1 page
root_part page = part_large page

link_first : (mapping : Map) (sweep : Sweep) (page : ℕ) → IsLeaf mapping (record { level = 1; page = page }) → page < 2 ^ 28 → IsCounted mapping page 1 sweep → IsLinked mapping sweep (record { level = 1; page = page })
link_first mapping sweep page is low was = record {
  counted = was;
  room = record {
    roots = (let within = was.within in let roots = was.roots in omega arith);
    few = (let few = few_tables mapping in omega arith);
    used = was.within;
    large = λ less. absurd (omega arith);
    small = λ less. absurd (omega arith);
    middle = λ less. absurd (omega arith);
    place = table_within mapping (page / 2 ^ 27) (record { level = 0; page = page / 2 ^ 27 * 2 ^ 27 }) (root_table mapping page low);
  };
  above = record { level = 0; page = page / 2 ^ 27 * 2 ^ 27 };
  table = root_table mapping page low;
  part = part_large page ∙ start;
  written = λ frames pages has same written. written;
  kept = λ pages. refl;
  wide = λ pages wide. wide;
}
  where
    start : region_around 1 page ≡ record { level = 1; page = page }
    start = let aligned = is.plain.aligned in let same : page - page % 2 ^ 18 ≡ page = omega arith in ap (λ (p : ℕ). record { level = 1; page = p }) same

link_second : (mapping : Map) (sweep : Sweep) (page : ℕ) → IsLeaf mapping (record { level = 2; page = page }) → page < 2 ^ 28 → IsCounted mapping page 1 sweep → IsLinked mapping sweep (record { level = 2; page = page })
link_second mapping sweep page is low was =
    let member = large_table mapping (record { level = 2; page = page }) is low (omega arith) in
    let large = counted_large mapping page sweep member was in
    let table : IsTable mapping (large_sweep sweep page).middle (region_around 1 page) = middle_here mapping page 2 (large_sweep sweep page) large.1 large.0 in
    record {
      counted = large.0;
      room = record {
        roots = (let within = was.within in let roots = was.roots in omega arith);
        few = (let few = few_tables mapping in omega arith);
        used = was.within;
        large = λ _. large.2;
        small = λ less. absurd (omega arith);
        middle = λ less. absurd (omega arith);
        place = table_within mapping (large_sweep sweep page).middle (region_around 1 page) table;
      };
      above = region_around 1 page;
      table = table;
      part = part_small page ∙ start;
      written = λ frames pages has same written. written_large mapping frames pages page sweep has same low member was written;
      kept = λ pages. frames_large pages sweep page;
      wide = λ pages wide. wide_large pages sweep page wide;
    }
  where
    start : region_around 2 page ≡ record { level = 2; page = page }
    start = let aligned = is.plain.aligned in let same : page - page % 2 ^ 9 ≡ page = omega arith in ap (λ (p : ℕ). record { level = 2; page = p }) same

link_third : (mapping : Map) (sweep : Sweep) (page : ℕ) → IsLeaf mapping (record { level = 3; page = page }) → page < 2 ^ 28 → IsCounted mapping page 1 sweep → IsLinked mapping sweep (record { level = 3; page = page })
link_third mapping sweep page is low was =
    let member = large_table mapping (record { level = 3; page = page }) is low (omega arith) in
    let smaller = small_table mapping (record { level = 3; page = page }) is low (omega arith) in
    let large = counted_large mapping page sweep member was in
    let small = counted_small mapping page (large_sweep sweep page) smaller large.0 in
    let middle : IsTable mapping (large_sweep sweep page).middle (region_around 1 page) = middle_here mapping page 2 (large_sweep sweep page) large.1 large.0 in
    let table : IsTable mapping (small_sweep (large_sweep sweep page) page).last (region_around 2 page) = last_here mapping page 3 (small_sweep (large_sweep sweep page) page) small.1 small.0 in
    let whole : page / 1 % 512 ≡ page % 512 = omega arith in
    record {
      counted = small.0;
      room = record {
        roots = (let within = was.within in let roots = was.roots in omega arith);
        few = (let few = few_tables mapping in omega arith);
        used = was.within;
        large = λ _. large.2;
        small = λ _. small.2;
        middle = λ _. table_within mapping (large_sweep sweep page).middle (region_around 1 page) middle;
        place = table_within mapping (small_sweep (large_sweep sweep page) page).last (region_around 2 page) table;
      };
      above = region_around 2 page;
      table = table;
      part = ap (part_of (region_around 2 page)) whole ∙ part_page page;
      written = λ frames pages has same written. written_small mapping frames (large_pages pages sweep page) page (large_sweep sweep page) has (frames_large pages sweep page ∙ same) large.1 smaller large.0 (written_large mapping frames pages page sweep has same low member was written);
      kept = λ pages. frames_small (large_pages pages sweep page) (large_sweep sweep page) page ∙ frames_large pages sweep page;
      wide = λ pages wide. wide_small (large_pages pages sweep page) (large_sweep sweep page) page (wide_large pages sweep page wide);
    }

pub link_leaf : (mapping : Map) (sweep : Sweep) (leaf : Region) → IsLeaf mapping leaf → leaf.page < 2 ^ 28 → IsCounted mapping leaf.page 1 sweep → IsLinked mapping sweep leaf
link_leaf mapping sweep leaf is low was = by_level (levels leaf.level is.some is.plain.level)
  where
    levels : (l : ℕ) → 1 ≤ l → l ≤ 3 → (l ≡ 1) ⊎ ((l ≡ 2) ⊎ (l ≡ 3))
    levels l some most = grind arith

    at : (l : ℕ) → leaf.level ≡ l → leaf ≡ record { level = l; page = leaf.page }
    at l same = ap (λ (n : ℕ). record { level = n; page = leaf.page }) same

    by_level : (leaf.level ≡ 1) ⊎ ((leaf.level ≡ 2) ⊎ (leaf.level ≡ 3)) → IsLinked mapping sweep leaf
    by_level (inl h) = subst (IsLinked mapping sweep) (sym (at 1 h)) (link_first mapping sweep leaf.page (subst (IsLeaf mapping) (at 1 h) is) low was)
    by_level (inr (inl h)) = subst (IsLinked mapping sweep) (sym (at 2 h)) (link_second mapping sweep leaf.page (subst (IsLeaf mapping) (at 2 h) is) low was)
    by_level (inr (inr h)) = subst (IsLinked mapping sweep) (sym (at 3 h)) (link_third mapping sweep leaf.page (subst (IsLeaf mapping) (at 3 h) is) low was)

-- the whole step
pub step_counted : (mapping : Map) (sweep : Sweep) (leaf : Region) → IsLeaf mapping leaf → leaf.page < 2 ^ 28 → IsCounted mapping leaf.page 1 sweep → IsCounted mapping (leaf.page + span leaf.level) 1 (leaf_sweep sweep leaf.page leaf.level)
step_counted mapping sweep leaf is low was = leaf_counted mapping leaf (leaf_sweep sweep leaf.page leaf.level) is (link_leaf mapping sweep leaf is low was).counted

pub step_written : (mapping : Map) (frames : List ℕ) (pages : List Page) (sweep : Sweep) (leaf : Region) (word : ℕ) → HasFrames mapping frames → frames_of pages ≡ frames → IsLeaf mapping leaf → leaf.page < 2 ^ 28 → IsCounted mapping leaf.page 1 sweep → IsWrittenTo mapping frames pages leaf.page 1 → word ≡ region_word mapping frames leaf →
    IsWrittenTo mapping frames (leaf_pages (linked_pages pages sweep leaf.page leaf.level) (leaf_sweep sweep leaf.page leaf.level) leaf.page leaf.level word) (leaf.page + span leaf.level) 1
step_written mapping frames pages sweep leaf word has same is low was written word_is =
    let linked = link_leaf mapping sweep leaf is low was in
    written_leaf mapping frames (linked_pages pages sweep leaf.page leaf.level) leaf (leaf_place (leaf_sweep sweep leaf.page leaf.level) leaf.page leaf.level) (leaf.page / span leaf.level % 512) word linked.above has (linked.kept pages ∙ same) is linked.table (below (leaf.page / span leaf.level)) linked.part word_is (linked.written frames pages has same written)
  where
    below : (n : ℕ) → n % 512 < 512
    below n = omega arith

pub step_frames : (mapping : Map) (pages : List Page) (sweep : Sweep) (leaf : Region) (word : ℕ) → IsLeaf mapping leaf → leaf.page < 2 ^ 28 → IsCounted mapping leaf.page 1 sweep → frames_of (leaf_pages (linked_pages pages sweep leaf.page leaf.level) (leaf_sweep sweep leaf.page leaf.level) leaf.page leaf.level word) ≡ frames_of pages
step_frames mapping pages sweep leaf word is low was =
    let linked : List Page = linked_pages pages sweep leaf.page leaf.level in
    frames_of-with_word linked (slice_index (frames_of linked) (leaf_place (leaf_sweep sweep leaf.page leaf.level) leaf.page leaf.level)) (leaf.page / span leaf.level % 512) word ∙ (link_leaf mapping sweep leaf is low was).kept pages

pub step_wide : (mapping : Map) (pages : List Page) (sweep : Sweep) (leaf : Region) (word : ℕ) → IsLeaf mapping leaf → leaf.page < 2 ^ 28 → IsCounted mapping leaf.page 1 sweep → AreWide pages → AreWide (leaf_pages (linked_pages pages sweep leaf.page leaf.level) (leaf_sweep sweep leaf.page leaf.level) leaf.page leaf.level word)
step_wide mapping pages sweep leaf word is low was wide =
    let linked : List Page = linked_pages pages sweep leaf.page leaf.level in
    wide-with_word linked (slice_index (frames_of linked) (leaf_place (leaf_sweep sweep leaf.page leaf.level) leaf.page leaf.level)) (leaf.page / span leaf.level % 512) word ((link_leaf mapping sweep leaf is low was).wide pages wide)
