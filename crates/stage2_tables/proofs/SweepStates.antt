-- The states of a sweep: its beginning, a table more, no table more, a gap, and its end.
use Rattle.std.proofs.Common.{◌≡◌, ℕ, ◌+◌, ◌-◌, ◌*◌, ◌/◌, ◌%◌, ◌^◌, ◌<◌, ◌≤◌, ◌⊎◌, ◌&&◌, Bool, true, false, not, List, Option, Some, None, refl, sym, ap, subst, ◌∙◌, arith, inl, inr}
use Rattle.std.specs.Prelude.{slice_index}
use Rattle.std.specs.Option.{is_some, IsSome}
use Rattle.std.specs.List.{slice_get, list_any}
use Rattle.std.proofs.lemmas.Option.{none-some, same_Some}
use Rattle.std.proofs.lemmas.Bool.{false≢true}
use Rattle.texts.specs.Consecutive.{numbers}
use Rattle.described.specs.Maps.{Target}
use Rattle.described.specs.Regions.{Map, Region, span, region_around, pages_in, is_run, is_block, lies_in_block, tables_of, table_count}
use Rattle.described.proofs.RegionLemmas.{is_run_tells}
use Rattle.stage2_walk.specs.Pages.{Page, word_in}
use Rattle.stage2_tables.specs.Least.{region_word, part_of}
use Rattle.stage2_tables.specs.Sweeps.{HasBefore, Begun, IsTable, IsCounted, IsWrittenTo}
use Rattle.stage2_tables.specs.declared.sweep.Sweep.{Sweep}
use Rattle.stage2_tables.proofs.NumberCounts.{any-numbers-some}
use Rattle.stage2_tables.proofs.LeastWalk.{word_none}
use Rattle.stage2_tables.proofs.TableOrder.{table_regular}
use Rattle.stage2_tables.proofs.SweepFacts.{IsPlain, table_top, top_plain, part_plain, table_once, span_some}
use Rattle.stage2_tables.proofs.SweepSteps.{IsNew, link_region, begun_more, around_begun, before_more, mapped_in, touched_in}

order : (j k : ℕ) → (j < k) ⊎ ((j ≡ k) ⊎ (k < j))
order j k = grind arith

page_or_past : (a b : ℕ) → (a < b) ⊎ (b ≤ a)
page_or_past a b = grind arith

-- a change of state in which the same regions of every kind are begun
pub record SameBegun (mapping : Map) (page level next lower : ℕ) : Type 0 where
  pub on : (region : Region) → IsPlain region → 1 ≤ region.level → Begun mapping region page level → Begun mapping region next lower
  pub back : (region : Region) → IsPlain region → 1 ≤ region.level → Begun mapping region next lower → Begun mapping region page level

level_some : (mapping : Map) (k : ℕ) (region : Region) → IsTable mapping k region → 2 ≤ k → 1 ≤ region.level
level_some mapping k region at high = by_level (table_regular mapping k region at high).0.level
  where
    by_level : (region.level ≡ 1) ⊎ (region.level ≡ 2) → 1 ≤ region.level
    by_level (inl h) = omega arith
    by_level (inr h) = omega arith

pub same_counted : (mapping : Map) (page level next lower : ℕ) (sweep : Sweep) → SameBegun mapping page level next lower → IsCounted mapping page level sweep → IsCounted mapping next lower sweep
same_counted mapping page level next lower sweep same was = record {
  roots = was.roots;
  within = was.within;
  linked = λ k region at high low. same.on region (top_plain k region (table_top mapping k region at)) (level_some mapping k region at high) (was.linked k region at high low);
  unlinked = λ k region at high begun. was.unlinked k region at high (same.back region (top_plain k region (table_top mapping k region at)) (level_some mapping k region at (let roots = was.roots in omega arith)) begun);
  middle_used = was.middle_used;
  middle_is = was.middle_is;
  large_later = was.large_later;
  last_used = was.last_used;
  last_is = was.last_is;
  small_later = was.small_later;
}

pub same_written : (mapping : Map) (frames : List ℕ) (pages : List Page) (page level next lower : ℕ) → SameBegun mapping page level next lower → IsWrittenTo mapping frames pages page level → IsWrittenTo mapping frames pages next lower
same_written mapping frames pages page level next lower same was = record {
  written = λ k i r at low begun. was.written k i r at low (same.back (part_of r i) (part_plain k r i (table_top mapping k r at) low) (omega arith) begun);
  blank = λ k i r at low none. was.blank k i r at low (λ begun. none (same.on (part_of r i) (part_plain k r i (table_top mapping k r at) low) (omega arith) begun));
}

-- the region around the page was begun before
pub raised : (mapping : Map) (page level : ℕ) → level ≤ 2 → HasBefore mapping (region_around level page) page → SameBegun mapping page level page (level + 1)
raised mapping page level low before = record {
  on = λ region plain some begun. begun_more mapping region page level begun;
  back = λ region plain some begun. by_case region (link_region mapping page level region plain low begun);
}
  where
    by_case : (region : Region) → Begun mapping region page level ⊎ (region ≡ region_around level page) → Begun mapping region page level
    by_case region (inl begun) = begun
    by_case region (inr same) = inl (subst (λ (r : Region). HasBefore mapping r page) (sym same) before)

-- pages that are not mapped
pub passed : (mapping : Map) (page next : ℕ) → page ≤ next → ((q : ℕ) → page ≤ q → q < next → mapping q ≡ None) → SameBegun mapping page 1 next 1
passed mapping page next up none = record {
  on = λ region plain some begun. on region some begun;
  back = λ region plain some begun. back region some begun;
}
  where
    on : (region : Region) → 1 ≤ region.level → Begun mapping region page 1 → Begun mapping region next 1
    on region some (inl h) = inl (before_more mapping region page next up h)
    on region some (inr h) = absurd (let low = h.0 in omega arith)

    back : (region : Region) → 1 ≤ region.level → Begun mapping region next 1 → Begun mapping region page 1
    back region some (inr h) = absurd (let low = h.0 in omega arith)
    back region some (inl h) = by_page (page_or_past h.at page)
      where
        unmapped : (o : Option Target) → o ≡ None → IsSome o → ⊥
        unmapped None is some = false≢true some
        unmapped (Some x) is some = none-some x (sym is)

        by_page : (h.at < page) ⊎ (page ≤ h.at) → Begun mapping region page 1
        by_page (inl low) = inl (record { at = h.at; inside = h.inside; before = low; mapped = h.mapped })
        by_page (inr high) = absurd (unmapped (mapping h.at) (none h.at high h.before) h.mapped)

-- a table of a 1 GiB region more
pub more_large : (mapping : Map) (page : ℕ) (sweep : Sweep) (is : IsNew mapping page 1) → is.place ≡ sweep.used → sweep.large ≤ page / 2 ^ 18 → IsCounted mapping page 1 sweep →
    IsCounted mapping page 2 (record { used = sweep.used + 1; large = page / 2 ^ 18 + 1; small = sweep.small; middle = sweep.used; last = sweep.last })
more_large mapping page sweep is place later was = record {
  roots = (let roots = was.roots in omega arith);
  within = (let within = is.within in omega arith);
  linked = λ k region at high low. by_linked k region at high (order k sweep.used) low;
  unlinked = λ k region at high begun. by_unlinked k region at high (link_region mapping page 1 region (top_plain k region (table_top mapping k region at)) (omega arith) begun);
  middle_used = λ _. omega arith;
  middle_is = λ _. subst (IsTable mapping sweep.used) start here;
  large_later = λ k region at low level. by_large k region at level (order k sweep.used) low;
  last_used = λ some. (let h = was.last_used some in omega arith);
  last_is = was.last_is;
  small_later = λ k region at low level. by_small k region at level (order k sweep.used) low;
}
  where
    here : IsTable mapping sweep.used (region_around 1 page)
    here = subst (λ (k : ℕ). IsTable mapping k (region_around 1 page)) place is.table

    is_here : (k : ℕ) (region : Region) → IsTable mapping k region → k ≡ sweep.used → region ≡ region_around 1 page
    is_here k region at same = same_Some region (region_around 1 page) (sym at ∙ ap (slice_get (tables_of mapping)) same ∙ here)

    starts : page - page % 2 ^ 18 ≡ (page / 2 ^ 18 + 1 - 1) * 2 ^ 18
    starts = omega arith

    start : region_around 1 page ≡ record { level = 1; page = (page / 2 ^ 18 + 1 - 1) * 2 ^ 18 }
    start = ap (λ (p : ℕ). record { level = 1; page = p }) starts

    by_linked : (k : ℕ) (region : Region) → IsTable mapping k region → 2 ≤ k → (k < sweep.used) ⊎ ((k ≡ sweep.used) ⊎ (sweep.used < k)) → k < sweep.used + 1 → Begun mapping region page 2
    by_linked k region at high (inl less) low = begun_more mapping region page 1 (was.linked k region at high less)
    by_linked k region at high (inr (inl same)) low = subst (λ (r : Region). Begun mapping r page 2) (sym (is_here k region at same)) (around_begun mapping page 1 (omega arith))
    by_linked k region at high (inr (inr more)) low = absurd (omega arith)

    by_unlinked : (k : ℕ) (region : Region) → IsTable mapping k region → sweep.used + 1 ≤ k → Begun mapping region page 1 ⊎ (region ≡ region_around 1 page) → ⊥
    by_unlinked k region at high (inl begun) = was.unlinked k region at (omega arith) begun
    by_unlinked k region at high (inr same) = let once = table_once mapping k sweep.used (region_around 1 page) (subst (IsTable mapping k) same at) here in omega arith

    by_large : (k : ℕ) (region : Region) → IsTable mapping k region → region.level ≡ 1 → (k < sweep.used) ⊎ ((k ≡ sweep.used) ⊎ (sweep.used < k)) → k < sweep.used + 1 → region.page < (page / 2 ^ 18 + 1) * 2 ^ 18
    by_large k region at level (inl less) low = let h = was.large_later k region at less level in omega arith
    by_large k region at level (inr (inl same)) low = let h = ap (λ (r : Region). r.page) (is_here k region at same) in omega arith
    by_large k region at level (inr (inr more)) low = absurd (omega arith)

    by_small : (k : ℕ) (region : Region) → IsTable mapping k region → region.level ≡ 2 → (k < sweep.used) ⊎ ((k ≡ sweep.used) ⊎ (sweep.used < k)) → k < sweep.used + 1 → region.page < sweep.small * 2 ^ 9
    by_small k region at level (inl less) low = was.small_later k region at less level
    by_small k region at level (inr (inl same)) low = absurd (let h = ap (λ (r : Region). r.level) (is_here k region at same) in omega arith)
    by_small k region at level (inr (inr more)) low = absurd (omega arith)

-- a table of a 2 MiB region more
pub more_small : (mapping : Map) (page : ℕ) (sweep : Sweep) (is : IsNew mapping page 2) → is.place ≡ sweep.used → sweep.small ≤ page / 2 ^ 9 → IsCounted mapping page 2 sweep →
    IsCounted mapping page 3 (record { used = sweep.used + 1; large = sweep.large; small = page / 2 ^ 9 + 1; middle = sweep.middle; last = sweep.used })
more_small mapping page sweep is place later was = record {
  roots = (let roots = was.roots in omega arith);
  within = (let within = is.within in omega arith);
  linked = λ k region at high low. by_linked k region at high (order k sweep.used) low;
  unlinked = λ k region at high begun. by_unlinked k region at high (link_region mapping page 2 region (top_plain k region (table_top mapping k region at)) (omega arith) begun);
  middle_used = λ some. (let h = was.middle_used some in omega arith);
  middle_is = was.middle_is;
  large_later = λ k region at low level. by_large k region at level (order k sweep.used) low;
  last_used = λ _. omega arith;
  last_is = λ _. subst (IsTable mapping sweep.used) start here;
  small_later = λ k region at low level. by_small k region at level (order k sweep.used) low;
}
  where
    here : IsTable mapping sweep.used (region_around 2 page)
    here = subst (λ (k : ℕ). IsTable mapping k (region_around 2 page)) place is.table

    is_here : (k : ℕ) (region : Region) → IsTable mapping k region → k ≡ sweep.used → region ≡ region_around 2 page
    is_here k region at same = same_Some region (region_around 2 page) (sym at ∙ ap (slice_get (tables_of mapping)) same ∙ here)

    starts : page - page % 2 ^ 9 ≡ (page / 2 ^ 9 + 1 - 1) * 2 ^ 9
    starts = omega arith

    start : region_around 2 page ≡ record { level = 2; page = (page / 2 ^ 9 + 1 - 1) * 2 ^ 9 }
    start = ap (λ (p : ℕ). record { level = 2; page = p }) starts

    by_linked : (k : ℕ) (region : Region) → IsTable mapping k region → 2 ≤ k → (k < sweep.used) ⊎ ((k ≡ sweep.used) ⊎ (sweep.used < k)) → k < sweep.used + 1 → Begun mapping region page 3
    by_linked k region at high (inl less) low = begun_more mapping region page 2 (was.linked k region at high less)
    by_linked k region at high (inr (inl same)) low = subst (λ (r : Region). Begun mapping r page 3) (sym (is_here k region at same)) (around_begun mapping page 2 (omega arith))
    by_linked k region at high (inr (inr more)) low = absurd (omega arith)

    by_unlinked : (k : ℕ) (region : Region) → IsTable mapping k region → sweep.used + 1 ≤ k → Begun mapping region page 2 ⊎ (region ≡ region_around 2 page) → ⊥
    by_unlinked k region at high (inl begun) = was.unlinked k region at (omega arith) begun
    by_unlinked k region at high (inr same) = let once = table_once mapping k sweep.used (region_around 2 page) (subst (IsTable mapping k) same at) here in omega arith

    by_large : (k : ℕ) (region : Region) → IsTable mapping k region → region.level ≡ 1 → (k < sweep.used) ⊎ ((k ≡ sweep.used) ⊎ (sweep.used < k)) → k < sweep.used + 1 → region.page < sweep.large * 2 ^ 18
    by_large k region at level (inl less) low = was.large_later k region at less level
    by_large k region at level (inr (inl same)) low = absurd (let h = ap (λ (r : Region). r.level) (is_here k region at same) in omega arith)
    by_large k region at level (inr (inr more)) low = absurd (omega arith)

    by_small : (k : ℕ) (region : Region) → IsTable mapping k region → region.level ≡ 2 → (k < sweep.used) ⊎ ((k ≡ sweep.used) ⊎ (sweep.used < k)) → k < sweep.used + 1 → region.page < (page / 2 ^ 9 + 1) * 2 ^ 9
    by_small k region at level (inl less) low = let h = was.small_later k region at less level in omega arith
    by_small k region at level (inr (inl same)) low = let h = ap (λ (r : Region). r.page) (is_here k region at same) in omega arith
    by_small k region at level (inr (inr more)) low = absurd (omega arith)

-- whether the 1 GiB region around a page has its table yet
pub large_case : (mapping : Map) (page place : ℕ) (sweep : Sweep) → IsTable mapping place (region_around 1 page) → IsCounted mapping page 1 sweep →
    ((sweep.large ≤ page / 2 ^ 18) × (HasBefore mapping (region_around 1 page) page → ⊥)) ⊎ ((sweep.large ≡ page / 2 ^ 18 + 1) × HasBefore mapping (region_around 1 page) page × IsTable mapping sweep.middle (region_around 1 page))
large_case mapping page place sweep at was = by_large (page_or_past (page / 2 ^ 18) sweep.large)
  where
    by_large : (page / 2 ^ 18 < sweep.large) ⊎ (sweep.large ≤ page / 2 ^ 18) → ((sweep.large ≤ page / 2 ^ 18) × (HasBefore mapping (region_around 1 page) page → ⊥)) ⊎ ((sweep.large ≡ page / 2 ^ 18 + 1) × HasBefore mapping (region_around 1 page) page × IsTable mapping sweep.middle (region_around 1 page))
    by_large (inr low) = inl (low, λ before. by_place before (page_or_past place sweep.used))
      where
        by_place : HasBefore mapping (region_around 1 page) page → (place < sweep.used) ⊎ (sweep.used ≤ place) → ⊥
        by_place before (inl less) = let h = was.large_later place (region_around 1 page) at less refl in omega arith
        by_place before (inr high) = was.unlinked place (region_around 1 page) at high (inl before)
    by_large (inl high) = inr (from_before (begun_before (was.linked sweep.middle latest there (two sweep.middle latest there refl) (was.middle_used (omega arith)))))
      where
        latest : Region
        latest = record { level = 1; page = (sweep.large - 1) * 2 ^ 18 }

        there : IsTable mapping sweep.middle latest
        there = was.middle_is (omega arith)

        two : (k : ℕ) (region : Region) → IsTable mapping k region → region.level ≡ 1 → 2 ≤ k
        two k region at level = by_root (table_top mapping k region at).root
          where
            by_root : (region.level ≡ 0) ⊎ (2 ≤ k) → 2 ≤ k
            by_root (inl h) = absurd (omega arith)
            by_root (inr h) = h

        begun_before : Begun mapping latest page 1 → HasBefore mapping latest page
        begun_before (inl h) = h
        begun_before (inr h) = absurd (let low = h.0 in omega arith)

        from_before : HasBefore mapping latest page → (sweep.large ≡ page / 2 ^ 18 + 1) × HasBefore mapping (region_around 1 page) page × IsTable mapping sweep.middle (region_around 1 page)
        from_before h =
            let low = h.inside.0 in
            let before = h.before in
            let is : sweep.large ≡ page / 2 ^ 18 + 1 = omega arith in
            let pages : (sweep.large - 1) * 2 ^ 18 ≡ page - page % 2 ^ 18 = omega arith in
            let region : latest ≡ region_around 1 page = ap (λ (p : ℕ). record { level = 1; page = p }) pages in
            (is, subst (λ (r : Region). HasBefore mapping r page) region h, subst (IsTable mapping sweep.middle) region there)

-- whether the 2 MiB region around a page has its table yet
pub small_case : (mapping : Map) (page place : ℕ) (sweep : Sweep) → IsTable mapping place (region_around 2 page) → IsCounted mapping page 2 sweep →
    ((sweep.small ≤ page / 2 ^ 9) × (HasBefore mapping (region_around 2 page) page → ⊥)) ⊎ ((sweep.small ≡ page / 2 ^ 9 + 1) × HasBefore mapping (region_around 2 page) page × IsTable mapping sweep.last (region_around 2 page))
small_case mapping page place sweep at was = by_small (page_or_past (page / 2 ^ 9) sweep.small)
  where
    by_small : (page / 2 ^ 9 < sweep.small) ⊎ (sweep.small ≤ page / 2 ^ 9) → ((sweep.small ≤ page / 2 ^ 9) × (HasBefore mapping (region_around 2 page) page → ⊥)) ⊎ ((sweep.small ≡ page / 2 ^ 9 + 1) × HasBefore mapping (region_around 2 page) page × IsTable mapping sweep.last (region_around 2 page))
    by_small (inr low) = inl (low, λ before. by_place before (page_or_past place sweep.used))
      where
        by_place : HasBefore mapping (region_around 2 page) page → (place < sweep.used) ⊎ (sweep.used ≤ place) → ⊥
        by_place before (inl less) = let h = was.small_later place (region_around 2 page) at less refl in omega arith
        by_place before (inr high) = was.unlinked place (region_around 2 page) at high (inl before)
    by_small (inl high) = inr (from_before (begun_before (was.linked sweep.last latest there (two sweep.last latest there refl) (was.last_used (omega arith)))))
      where
        latest : Region
        latest = record { level = 2; page = (sweep.small - 1) * 2 ^ 9 }

        there : IsTable mapping sweep.last latest
        there = was.last_is (omega arith)

        two : (k : ℕ) (region : Region) → IsTable mapping k region → region.level ≡ 2 → 2 ≤ k
        two k region at level = by_root (table_top mapping k region at).root
          where
            by_root : (region.level ≡ 0) ⊎ (2 ≤ k) → 2 ≤ k
            by_root (inl h) = absurd (omega arith)
            by_root (inr h) = h

        begun_before : Begun mapping latest page 2 → HasBefore mapping latest page
        begun_before (inl h) = h
        begun_before (inr h) = absurd (let low = h.0 in omega arith)

        from_before : HasBefore mapping latest page → (sweep.small ≡ page / 2 ^ 9 + 1) × HasBefore mapping (region_around 2 page) page × IsTable mapping sweep.last (region_around 2 page)
        from_before h =
            let low = h.inside.0 in
            let before = h.before in
            let is : sweep.small ≡ page / 2 ^ 9 + 1 = omega arith in
            let pages : (sweep.small - 1) * 2 ^ 9 ≡ page - page % 2 ^ 9 = omega arith in
            let region : latest ≡ region_around 2 page = ap (λ (p : ℕ). record { level = 2; page = p }) pages in
            (is, subst (λ (r : Region). HasBefore mapping r page) region h, subst (IsTable mapping sweep.last) region there)

-- nothing is begun at the first page
nothing_begun : (mapping : Map) (region : Region) → 1 ≤ region.level → Begun mapping region 0 1 → ⊥
nothing_begun mapping region some (inl h) = let before = h.before in omega arith
nothing_begun mapping region some (inr h) = let low = h.0 in omega arith

pub begins_counted : (mapping : Map) (middle last : ℕ) → IsCounted mapping 0 1 (record { used = 2; large = 0; small = 0; middle = middle; last = last })
begins_counted mapping middle last = record {
  roots = omega arith;
  within = omega arith;
  linked = λ k region at high low. absurd (omega arith);
  unlinked = λ k region at high begun. nothing_begun mapping region (level_some mapping k region at high) begun;
  middle_used = λ some. absurd (omega arith);
  middle_is = λ some. absurd (omega arith);
  large_later = λ k region at low level. absurd (by_root k region low level (table_top mapping k region at).root);
  last_used = λ some. absurd (omega arith);
  last_is = λ some. absurd (omega arith);
  small_later = λ k region at low level. absurd (by_root' k region low level (table_top mapping k region at).root);
}
  where
    by_root : (k : ℕ) (region : Region) → k < 2 → region.level ≡ 1 → (region.level ≡ 0) ⊎ (2 ≤ k) → ⊥
    by_root k region low level (inl h) = omega arith
    by_root k region low level (inr h) = omega arith

    by_root' : (k : ℕ) (region : Region) → k < 2 → region.level ≡ 2 → (region.level ≡ 0) ⊎ (2 ≤ k) → ⊥
    by_root' k region low level (inl h) = omega arith
    by_root' k region low level (inr h) = omega arith

pub begins_written : (mapping : Map) (frames : List ℕ) (pages : List Page) → ((k index : ℕ) (region : Region) → IsTable mapping k region → index < 512 → word_in pages (slice_index frames k) index ≡ Some 0) → IsWrittenTo mapping frames pages 0 1
begins_written mapping frames pages blank = record {
  written = λ k i r at low begun. absurd (nothing_begun mapping (part_of r i) (omega arith) begun);
  blank = λ k i r at low none. blank k i r at low;
}

-- a region of which no page is mapped has the word 0
empty_word : (mapping : Map) (frames : List ℕ) (region : Region) → region.level ≤ 3 → list_any (λ p. is_some (mapping p)) (pages_in region) ≡ false → region_word mapping frames region ≡ 0
empty_word mapping frames region low none = word_none mapping frames region (no_block (is_run mapping region) refl) (ap (λ (b : Bool). b && not (lies_in_block mapping region)) none)
  where
    no_block : (b : Bool) → is_run mapping region ≡ b → is_block mapping region ≡ false
    no_block false is = ap (λ (b : Bool). b && not (list_any (λ level. is_run mapping (region_around level region.page)) (numbers 1 (region.level - 1)))) is
    no_block true is =
        let run = is_run_tells mapping region is in
        let positive = span_some region.level low in
        absurd (false≢true (sym none ∙ any-numbers-some (λ p. is_some (mapping p)) region.page (span region.level) region.page (omega arith) (omega arith) (ap is_some run.1.begins)))

-- behind the last mapped page every table is linked, and each word is that of its region
pub all_linked : (mapping : Map) (page : ℕ) (sweep : Sweep) → ((q : ℕ) → IsSome (mapping q) → q < page) → IsCounted mapping page 1 sweep → ((k : ℕ) → k < table_count mapping → (region : Region) × IsTable mapping k region) → sweep.used ≡ table_count mapping
all_linked mapping page sweep last was all = by_order (page_or_past sweep.used (table_count mapping))
  where
    by_order : (sweep.used < table_count mapping) ⊎ (table_count mapping ≤ sweep.used) → sweep.used ≡ table_count mapping
    by_order (inr high) = let within = was.within in omega arith
    by_order (inl less) =
        let next = all sweep.used less in
        let found = mapped_in mapping next.0 (table_regular mapping sweep.used next.0 next.1 was.roots).1 in
        absurd (was.unlinked sweep.used next.0 next.1 (omega arith) (inl (record { at = found.0; inside = found.1; before = last found.0 found.2; mapped = found.2 })))

pub all_written : (mapping : Map) (frames : List ℕ) (pages : List Page) (page : ℕ) → ((q : ℕ) → IsSome (mapping q) → q < page) → IsWrittenTo mapping frames pages page 1 →
    (k index : ℕ) (region : Region) → IsTable mapping k region → index < 512 → word_in pages (slice_index frames k) index ≡ Some (region_word mapping frames (part_of region index))
all_written mapping frames pages page last was k index region at low = by_some (list_any (λ p. is_some (mapping p)) (pages_in (part_of region index))) refl
  where
    part : Region
    part = part_of region index

    plain : IsPlain part
    plain = part_plain k region index (table_top mapping k region at) low

    by_some : (b : Bool) → list_any (λ p. is_some (mapping p)) (pages_in (part_of region index)) ≡ b → word_in pages (slice_index frames k) index ≡ Some (region_word mapping frames (part_of region index))
    by_some true some = let found = touched_in mapping part some in was.written k index region at low (inl (record { at = found.0; inside = found.1; before = last found.0 found.2; mapped = found.2 }))
    by_some false none =
        was.blank k index region at low (not_begun plain none) ∙ ap Some (sym (empty_word mapping frames part plain.level none))
      where
        not_begun : IsPlain part → list_any (λ p. is_some (mapping p)) (pages_in part) ≡ false → Begun mapping part page 1 → ⊥
        not_begun plain none (inl h) = false≢true (sym none ∙ any-numbers-some (λ p. is_some (mapping p)) part.page (span part.level) h.at h.inside.0 h.inside.1 h.mapped)
        not_begun plain none (inr h) = let low = h.0 in omega arith
