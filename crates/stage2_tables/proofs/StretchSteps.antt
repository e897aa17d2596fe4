-- The pages of a stretch, whose words stand in one table.
use Rattle.std.proofs.Common.{◌≡◌, ℕ, zero, suc, ◌+◌, ◌-◌, ◌/◌, ◌%◌, ◌^◌, ◌<◌, ◌≤◌, ◌⊎◌, ◌&&◌, Bool, true, false, cond, eqb, leb, min, List, length, refl, sym, ap, subst, ◌∙◌, arith, inl, inr}
use Rattle.std.specs.Prelude.{nat_le, slice_index}
use Rattle.std.proofs.lemmas.Bool.Decides.{nat_tests}
use Rattle.described.specs.Maps.{target_of}
use Rattle.described.specs.Regions.{Map, span}
use Rattle.described.specs.declared.map_range.MapRange.{MapRange}
use Rattle.stage2_walk.specs.Pages.{Page, frames_of}
use Rattle.stage2_walk.specs.TableImages.{TableImage}
use Rattle.stage2_tables.specs.Words.{table_word}
use Rattle.stage2_tables.specs.Leaves.{fits, leaf_level, stretch}
use Rattle.stage2_tables.specs.PrivateLeaves.{IsFresh}
use Rattle.stage2_tables.specs.Least.{leaf_word}
use Rattle.stage2_tables.specs.Sweeps.{IsCounted, IsSweptTo}
use Rattle.stage2_tables.specs.Steps.{large_sweep, small_sweep, leaf_sweep, word_at, small_pages, linked_pages, leaf_pages}
use Rattle.stage2_tables.specs.PrivateSteps.{IsInLinked}
use Rattle.stage2_tables.specs.declared.sweep.Sweep.{Sweep}
use Rattle.stage2_tables.proofs.LeafChoice.{IsRange}
use Rattle.stage2_tables.proofs.SpreadSteps.{IsStep, next_leaf, counted_more, swept_more, length_frames}

not_le : (a b : ℕ) → b < a → nat_le a b ≡ false
not_le a b less = grind (arith, nat_tests)

-- linking changes nothing where the tables are linked
module _ (sweep : Sweep) (page : ℕ) (linked : IsInLinked sweep page) where
  large_same : large_sweep sweep page ≡ sweep
  large_same = ap (λ (b : Bool). cond b new sweep) (not_le sweep.large (page / 2 ^ 18) linked.large)
    where
      new : Sweep
      new = record { used = sweep.used + 1; large = page / 2 ^ 18 + 1; small = sweep.small; middle = sweep.used; last = sweep.last }

  small_same : small_sweep sweep page ≡ sweep
  small_same = ap (λ (b : Bool). cond b new sweep) (not_le sweep.small (page / 2 ^ 9) linked.small)
    where
      new : Sweep
      new = record { used = sweep.used + 1; large = sweep.large; small = page / 2 ^ 9 + 1; middle = sweep.middle; last = sweep.used }

  pub leaf_sweep-linked : leaf_sweep sweep page 3 ≡ sweep
  leaf_sweep-linked = ap (λ (s : Sweep). small_sweep s page) large_same ∙ small_same

  linked_pages-linked : (pages : List Page) → linked_pages pages sweep page 3 ≡ pages
  linked_pages-linked pages =
      ap (λ (b : Bool). small_pages (cond b large pages) (large_sweep sweep page) page) (not_le sweep.large (page / 2 ^ 18) linked.large)
      ∙ ap (λ (s : Sweep). small_pages pages s page) large_same
      ∙ ap (λ (b : Bool). cond b small pages) (not_le sweep.small (page / 2 ^ 9) linked.small)
    where
      large : List Page
      large = word_at pages (page / 2 ^ 27) (page / 2 ^ 18 % 512) (table_word (slice_index (frames_of pages) sweep.used))

      small : List Page
      small = word_at pages sweep.middle (page / 2 ^ 9 % 512) (table_word (slice_index (frames_of pages) sweep.used))

  leaf_pages-linked : (pages : List Page) (word : ℕ) → leaf_pages (linked_pages pages sweep page 3) (leaf_sweep sweep page 3) page 3 word ≡ word_at pages sweep.last (page % 512) word
  leaf_pages-linked pages word =
      ap (λ (ps : List Page). leaf_pages ps (leaf_sweep sweep page 3) page 3 word) (linked_pages-linked pages)
      ∙ ap (λ (s : Sweep). leaf_pages pages s page 3 word) leaf_sweep-linked
      ∙ ap (λ (n : ℕ). word_at pages sweep.last n word) whole
    where
      whole : page / 1 % 512 ≡ page % 512
      whole = omega arith

-- no block begins at a page that is not the first of its 2 MiB region
leaf_level-behind : (page frame left : ℕ) → 0 < page % 2 ^ 9 → leaf_level page frame left ≡ 3
leaf_level-behind page frame left behind =
    ap (λ (b : Bool). cond b 1 (cond (fits 2 page frame left) 2 3)) (no_fit (page % 2 ^ 18) (eqb (frame % 2 ^ 18) 0) (leb (2 ^ 18) left) (omega arith))
    ∙ ap (λ (b : Bool). cond b 2 3) (no_fit (page % 2 ^ 9) (eqb (frame % 2 ^ 9) 0) (leb (2 ^ 9) left) behind)
  where
    not_zero : (n : ℕ) → 0 < n → eqb n 0 ≡ false
    not_zero n some = grind (arith, nat_tests)

    no_fit : (n : ℕ) (a b : Bool) → 0 < n → ((eqb n 0 && a) && b) ≡ false
    no_fit n a b some = ap (λ (c : Bool). (c && a) && b) (not_zero n some)

-- one page more of a stretch
module _ (ranges : List MapRange) (index : ℕ) (range : MapRange) (is : IsRange ranges index range) where
  page_step : (k : ℕ) (sweep : Sweep) → IsFresh (target_of ranges) (range.page + k) → k < range.count → IsInLinked sweep (range.page + k) → IsStep ranges range k 3
  page_step k sweep fresh some linked = next_leaf ranges index range k 3 is fresh some (sym (leaf_level-behind (range.page + k) (range.first + k) (range.count - k) linked.behind))

  pub fresh_page : (k : ℕ) (sweep : Sweep) → IsFresh (target_of ranges) (range.page + k) → k < range.count → IsInLinked sweep (range.page + k) → IsFresh (target_of ranges) (range.page + (k + 1))
  fresh_page k sweep fresh some linked = (page_step k sweep fresh some linked).fresh

  counted_page : (k : ℕ) (sweep : Sweep) → IsFresh (target_of ranges) (range.page + k) → k < range.count → IsInLinked sweep (range.page + k) → IsCounted (target_of ranges) (range.page + k) 1 sweep → IsCounted (target_of ranges) (range.page + (k + 1)) 1 sweep
  counted_page k sweep fresh some linked was =
      subst (λ (s : Sweep). IsCounted (target_of ranges) (range.page + (k + 1)) 1 s) (leaf_sweep-linked sweep (range.page + k) linked)
      (counted_more ranges range k 3 sweep (page_step k sweep fresh some linked) was)

  pub swept_page : (k word : ℕ) (image new : TableImage) (sweep : Sweep) → IsFresh (target_of ranges) (range.page + k) → k < range.count → IsInLinked sweep (range.page + k) → IsSweptTo (target_of ranges) image sweep (range.page + k) →
      word ≡ leaf_word 3 (record { frame = range.first + k; kind = range.kind }) → new ≡ record image { pages = word_at image.pages sweep.last ((range.page + k) % 512) word } →
      IsSweptTo (target_of ranges) new sweep (range.page + (k + 1)) × (frames_of new.pages ≡ frames_of image.pages) × (new.root ≡ image.root)
  swept_page k word image new sweep fresh some linked was word_is new_is =
      swept_more ranges range k 3 word image new sweep sweep (page_step k sweep fresh some linked) was word_is
      (new_is ∙ ap (λ (pages : List Page). record image { pages = pages }) (sym (leaf_pages-linked sweep (range.page + k) linked image.pages word)))
      (sym (leaf_sweep-linked sweep (range.page + k) linked))

  -- all pages of a stretch
  pub stretch_fresh : (begin n : ℕ) (sweep : Sweep) → ((k : ℕ) → begin ≤ k → k < begin + n → IsInLinked sweep (range.page + k)) → begin + n ≤ range.count → IsFresh (target_of ranges) (range.page + begin) → IsFresh (target_of ranges) (range.page + (begin + n))
  stretch_fresh begin zero sweep linked within fresh = let same : begin + 0 ≡ begin = omega arith in subst (λ (k : ℕ). IsFresh (target_of ranges) (range.page + k)) (sym same) fresh
  stretch_fresh begin (suc n) sweep linked within fresh =
      let here = linked begin (omega arith) (omega arith) in
      let same : (begin + 1) + n ≡ begin + suc n = omega arith in
      subst (λ (k : ℕ). IsFresh (target_of ranges) (range.page + k)) same
      (stretch_fresh (begin + 1) n sweep (λ k low high. linked k (omega arith) (omega arith)) (omega arith) (fresh_page begin sweep fresh (omega arith) here))

  pub stretch_counted : (begin n : ℕ) (sweep : Sweep) → ((k : ℕ) → begin ≤ k → k < begin + n → IsInLinked sweep (range.page + k)) → begin + n ≤ range.count → IsFresh (target_of ranges) (range.page + begin) → IsCounted (target_of ranges) (range.page + begin) 1 sweep → IsCounted (target_of ranges) (range.page + (begin + n)) 1 sweep
  stretch_counted begin zero sweep linked within fresh was = let same : begin + 0 ≡ begin = omega arith in subst (λ (k : ℕ). IsCounted (target_of ranges) (range.page + k) 1 sweep) (sym same) was
  stretch_counted begin (suc n) sweep linked within fresh was =
      let here = linked begin (omega arith) (omega arith) in
      let same : (begin + 1) + n ≡ begin + suc n = omega arith in
      subst (λ (k : ℕ). IsCounted (target_of ranges) (range.page + k) 1 sweep) same
      (stretch_counted (begin + 1) n sweep (λ k low high. linked k (omega arith) (omega arith)) (omega arith) (fresh_page begin sweep fresh (omega arith) here) (counted_page begin sweep fresh (omega arith) here was))

-- the three levels
levels : (l : ℕ) → 1 ≤ l → l ≤ 3 → (l ≡ 1) ⊎ ((l ≡ 2) ⊎ (l ≡ 3))
levels l some most = grind arith

-- a stretch has the pages of its first leaf, and no more than are left
pub stretch_bounds : (level page left : ℕ) → 1 ≤ level → level ≤ 3 → 0 < left → span level ≤ left → (span level ≤ stretch level page left) × (stretch level page left ≤ left)
stretch_bounds level page left some most more fits = by_level (levels level some most)
  where
    Fits : ℕ → Type 0
    Fits l = (span l ≤ stretch l page left) × (stretch l page left ≤ left)

    small : (span 3 ≤ min (512 - page % 512) left) × (min (512 - page % 512) left ≤ left)
    small = (omega arith, omega arith)

    by_level : (level ≡ 1) ⊎ ((level ≡ 2) ⊎ (level ≡ 3)) → Fits level
    by_level (inl h) = let at : span 1 ≤ left = subst (λ (l : ℕ). span l ≤ left) h fits in subst Fits (sym h) (omega arith, at)
    by_level (inr (inl h)) = let at : span 2 ≤ left = subst (λ (l : ℕ). span l ≤ left) h fits in subst Fits (sym h) (omega arith, at)
    by_level (inr (inr h)) = subst Fits (sym h) small

-- the tables of the pages behind its first leaf are linked
pub stretch_linked : (sweep : Sweep) (level page left : ℕ) → 1 ≤ level → level ≤ 3 → (q : ℕ) → page + span level ≤ q → q < page + stretch level page left → IsInLinked (leaf_sweep sweep page level) q
stretch_linked sweep level page left some most q low high = by_level (levels level some most)
  where
    Linked : ℕ → Type 0
    Linked l = page + span l ≤ q → q < page + stretch l page left → IsInLinked (leaf_sweep sweep page l) q

    larger : (n : ℕ) → n ≡ page / 2 ^ 18 → n < (large_sweep sweep page).large
    larger n same = by_test (nat_le sweep.large (page / 2 ^ 18)) refl
      where
        by_test : (b : Bool) → nat_le sweep.large (page / 2 ^ 18) ≡ b → n < (cond b (record { used = sweep.used + 1; large = page / 2 ^ 18 + 1; small = sweep.small; middle = sweep.used; last = sweep.last }) sweep).large
        by_test true is = omega arith
        by_test false is = let h = past sweep.large (page / 2 ^ 18) is in omega arith
          where
            past : (a b : ℕ) → nat_le a b ≡ false → b < a
            past a b is = grind (arith, nat_tests)

    kept : (s : Sweep) → (small_sweep s page).large ≡ s.large
    kept s = by_test (nat_le s.small (page / 2 ^ 9))
      where
        by_test : (b : Bool) → (cond b (record { used = s.used + 1; large = s.large; small = page / 2 ^ 9 + 1; middle = s.middle; last = s.used }) s).large ≡ s.large
        by_test true = refl
        by_test false = refl

    smaller : (s : Sweep) (n : ℕ) → n ≡ page / 2 ^ 9 → n < (small_sweep s page).small
    smaller s n same = by_test (nat_le s.small (page / 2 ^ 9)) refl
      where
        by_test : (b : Bool) → nat_le s.small (page / 2 ^ 9) ≡ b → n < (cond b (record { used = s.used + 1; large = s.large; small = page / 2 ^ 9 + 1; middle = s.middle; last = s.used }) s).small
        by_test true is = omega arith
        by_test false is = let h = past s.small (page / 2 ^ 9) is in omega arith
          where
            past : (a b : ℕ) → nat_le a b ≡ false → b < a
            past a b is = grind (arith, nat_tests)

    by_level : (level ≡ 1) ⊎ ((level ≡ 2) ⊎ (level ≡ 3)) → IsInLinked (leaf_sweep sweep page level) q
    by_level (inl h) = subst Linked (sym h) (λ from upto. absurd (omega arith)) low high
    by_level (inr (inl h)) = subst Linked (sym h) (λ from upto. absurd (omega arith)) low high
    by_level (inr (inr h)) = subst Linked (sym h) (λ from upto.
        let near : q < page + min (512 - page % 512) left = upto in
        let large = larger (q / 2 ^ 18) (omega arith) in
        let same = kept (large_sweep sweep page) in
        record { large = omega arith; small = smaller (large_sweep sweep page) (q / 2 ^ 9) (omega arith); behind = omega arith }) low high

-- the latest table of level 3 is in the image
pub last_there : (mapping : Map) (image : TableImage) (sweep : Sweep) (page q : ℕ) → IsSweptTo mapping image sweep page → IsInLinked sweep q → sweep.last < length image.pages
last_there mapping image sweep page q was linked =
    let small = linked.small in
    let used = was.counted.last_used (omega arith) in
    let within = was.counted.within in
    let enough = was.frames.enough in
    let all = length_frames image.pages in
    omega arith

-- a whole stretch of a range
module _ (ranges : List MapRange) (index : ℕ) (range : MapRange) (is : IsRange ranges index range) (done level : ℕ) (sweep : Sweep)
    (fresh : IsFresh (target_of ranges) (range.page + done)) (more : done < range.count) (some : 1 ≤ level) (most : level ≤ 3)
    (chosen : level ≡ leaf_level (range.page + done) (range.first + done) (range.count - done)) where
  step : IsStep ranges range done level
  step = next_leaf ranges index range done level is fresh more chosen

  -- it has the pages of its first leaf, and lies in the range
  pub stretch_within : (done + span level ≤ done + stretch level (range.page + done) (range.count - done)) × (done + stretch level (range.page + done) (range.count - done) ≤ range.count)
  stretch_within =
      let within = step.within in
      let bounds = stretch_bounds level (range.page + done) (range.count - done) some most (omega arith) (omega arith) in
      let low = bounds.0 in
      let high = bounds.1 in
      (omega arith, omega arith)

  pub linked_behind : (k : ℕ) → done + span level ≤ k → k < done + stretch level (range.page + done) (range.count - done) → IsInLinked (leaf_sweep sweep (range.page + done) level) (range.page + k)
  linked_behind k low high = stretch_linked sweep level (range.page + done) (range.count - done) some most (range.page + k) (omega arith) (omega arith)

  rest_is : (done + span level) + (stretch level (range.page + done) (range.count - done) - span level) ≡ done + stretch level (range.page + done) (range.count - done)
  rest_is = let low = stretch_within.0 in omega arith

  pub fresh_behind : IsFresh (target_of ranges) (range.page + (done + stretch level (range.page + done) (range.count - done)))
  fresh_behind =
      let same = rest_is in
      let within = stretch_within.1 in
      subst (λ (k : ℕ). IsFresh (target_of ranges) (range.page + k)) same
      (stretch_fresh ranges index range is (done + span level) (stretch level (range.page + done) (range.count - done) - span level) (leaf_sweep sweep (range.page + done) level)
      (λ k low high. linked_behind k low (omega arith)) (omega arith) step.fresh)

  pub counted_behind : IsCounted (target_of ranges) (range.page + done) 1 sweep → IsCounted (target_of ranges) (range.page + (done + stretch level (range.page + done) (range.count - done))) 1 (leaf_sweep sweep (range.page + done) level)
  counted_behind was =
      let same = rest_is in
      let within = stretch_within.1 in
      subst (λ (k : ℕ). IsCounted (target_of ranges) (range.page + k) 1 (leaf_sweep sweep (range.page + done) level)) same
      (stretch_counted ranges index range is (done + span level) (stretch level (range.page + done) (range.count - done) - span level) (leaf_sweep sweep (range.page + done) level)
      (λ k low high. linked_behind k low (omega arith)) (omega arith) step.fresh (counted_more ranges range done level sweep step was))
