-- The largest word that fits is a leaf of the map.
use Rattle.std.proofs.Common.{◌≡◌, ℕ, zero, suc, ◌+◌, ◌-◌, ◌%◌, ◌<◌, ◌≤◌, ◌⊎◌, ◌&&◌, ◌||◌, Bool, true, false, not, cond, eqb, leb, List, [], ◌∷◌, Some, refl, sym, ap, subst, ◌∙◌, arith, inl, inr}
use Rattle.std.specs.Option.{is_some}
use Rattle.std.specs.List.{slice_get, list_any}
use Rattle.std.proofs.lemmas.Option.{none-some, same_Some}
use Rattle.std.proofs.lemmas.Bool.{false≢true}
use Rattle.std.proofs.lemmas.Bool.Decides.{nat_tests}
use Rattle.texts.specs.Consecutive.{numbers}
use Rattle.described.specs.Maps.{Target, target_of, holds_page, AreSortedFrom, AreMapRanges, AreMerged}
use Rattle.described.specs.Regions.{Map, Region, span, region_around, is_run}
use Rattle.described.specs.declared.map_range.MapRange.{MapRange}
use Rattle.described.proofs.RegionLemmas.{both_true, IsRun, is_run_tells, is_run_from}
use Rattle.described.proofs.RunLemmas.{holds_tells, run_in_range, LiesIn, IsRunOf}
use Rattle.stage2_tables.specs.Leaves.{fits, leaf_level}
use Rattle.stage2_tables.specs.PrivateLeaves.{IsFresh}
use Rattle.stage2_tables.specs.Sweeps.{IsIn}
use Rattle.stage2_tables.proofs.NumberCounts.{any-numbers-some}
use Rattle.stage2_tables.proofs.SweepFacts.{inside, same_level, span_some, around_plain, around_in}
use Rattle.stage2_tables.proofs.SweepSteps.{IsLeaf}

-- sorted ranges are apart
pub ranges_apart : (ranges : List MapRange) (start i j : ℕ) (a b : MapRange) → AreSortedFrom start ranges → slice_get ranges i ≡ Some a → slice_get ranges j ≡ Some b → i < j → a.page + a.count ≤ b.page
ranges_apart [] start i j a b sorted at there less = absurd (none-some a at)
ranges_apart (r ∷ rs) start zero zero a b sorted at there less = absurd (omega arith)
ranges_apart (r ∷ rs) start zero (suc j) a b sorted at there less = subst (λ (x : MapRange). x.page + x.count ≤ b.page) (same_Some r a at) (later rs (r.page + r.count) j b sorted.4 there)
  where
    later : (ranges : List MapRange) (start j : ℕ) (b : MapRange) → AreSortedFrom start ranges → slice_get ranges j ≡ Some b → start ≤ b.page
    later [] start j b sorted there = absurd (none-some b there)
    later (r ∷ rs) start zero b sorted there = subst (λ (x : MapRange). start ≤ x.page) (same_Some r b there) sorted.0
    later (r ∷ rs) start (suc j) b sorted there = let rest = later rs (r.page + r.count) j b sorted.4 there in let low = sorted.0 in omega arith
ranges_apart (r ∷ rs) start (suc i) zero a b sorted at there less = absurd (omega arith)
ranges_apart (r ∷ rs) start (suc i) (suc j) a b sorted at there less = ranges_apart rs (r.page + r.count) i j a b sorted.4 at there (omega arith)

-- a page lies in one range
one_range : (ranges : List MapRange) (i j page : ℕ) (a b : MapRange) → AreMapRanges ranges → slice_get ranges i ≡ Some a → slice_get ranges j ≡ Some b → a.page ≤ page → page < a.page + a.count → b.page ≤ page → page < b.page + b.count → a ≡ b
one_range ranges i j page a b sorted at there al ah bl bh = by_order (order i j)
  where
    order : (j k : ℕ) → (j < k) ⊎ ((j ≡ k) ⊎ (k < j))
    order j k = grind arith

    by_order : (i < j) ⊎ ((i ≡ j) ⊎ (j < i)) → a ≡ b
    by_order (inl less) = absurd (let h = ranges_apart ranges 0 i j a b sorted at there less in omega arith)
    by_order (inr (inl same)) = same_Some a b (sym at ∙ ap (slice_get ranges) same ∙ there)
    by_order (inr (inr more)) = absurd (let h = ranges_apart ranges 0 j i b a sorted there at more in omega arith)

-- where a page of a range goes
pub target_at : (ranges : List MapRange) (start i page : ℕ) (range : MapRange) → AreSortedFrom start ranges → slice_get ranges i ≡ Some range → range.page ≤ page → page < range.page + range.count → target_of ranges page ≡ Some (record { frame = range.first + (page - range.page); kind = range.kind })
target_at [] start i page range sorted at low high = absurd (none-some range at)
target_at (r ∷ rs) start zero page range sorted at low high = subst (λ (x : MapRange). target_of (r ∷ rs) page ≡ Some (record { frame = x.first + (page - x.page); kind = x.kind })) same (hit (holds_tells r page))
  where
    same : r ≡ range
    same = same_Some r range at

    hit : ((holds_page r page ≡ true) × (r.page ≤ page) × (page < r.page + r.count)) ⊎ ((holds_page r page ≡ false) × ((page < r.page) ⊎ (r.page + r.count ≤ page))) → target_of (r ∷ rs) page ≡ Some (record { frame = r.first + (page - r.page); kind = r.kind })
    hit (inl h) = rw h.0 refl
    hit (inr (none, side)) = absurd (miss side)
      where
        miss : (page < r.page) ⊎ (r.page + r.count ≤ page) → ⊥
        miss (inl less) = let p = ap (λ (x : MapRange). x.page) same in omega arith
        miss (inr more) = let p = ap (λ (x : MapRange). x.page) same in let n = ap (λ (x : MapRange). x.count) same in omega arith
target_at (r ∷ rs) start (suc i) page range sorted at low high = by_test (holds_tells r page) (target_at rs (r.page + r.count) i page range sorted.4 at low high)
  where
    apart : r.page + r.count ≤ range.page
    apart = ranges_apart (r ∷ rs) start 0 (suc i) r range sorted refl at (omega arith)

    by_test : ((holds_page r page ≡ true) × (r.page ≤ page) × (page < r.page + r.count)) ⊎ ((holds_page r page ≡ false) × ((page < r.page) ⊎ (r.page + r.count ≤ page))) → target_of rs page ≡ Some (record { frame = range.first + (page - range.page); kind = range.kind }) → target_of (r ∷ rs) page ≡ Some (record { frame = range.first + (page - range.page); kind = range.kind })
    by_test (inl h) rest = absurd (let x = h.2 in let y = apart in omega arith)
    by_test (inr h) rest = rw h.0 rest

-- a range of a merged map
pub record IsRange (ranges : List MapRange) (index : ℕ) (range : MapRange) : Type 0 where
  pub sorted : AreMapRanges ranges
  pub merged : AreMerged ranges
  pub at : slice_get ranges index ≡ Some range

-- a run that holds a page of a range lies in it
run_here : (ranges : List MapRange) (index : ℕ) (range : MapRange) (level page : ℕ) (first : Target) → IsRange ranges index range → level ≤ 3 → range.page ≤ page → page < range.page + range.count → IsRun (target_of ranges) (region_around level page) first →
    (range.page ≤ (region_around level page).page) × ((region_around level page).page + span level ≤ range.page + range.count)
run_here ranges index range level page first is low from upto run = by_range (run_in_range ranges 0 (region_around level page).page (span level) first is.sorted is.merged (span_some level low) each)
  where
    around : IsIn page (region_around level page)
    around = around_in level page low

    each : IsRunOf ranges (region_around level page).page (span level) first
    each k below =
        let back : (region_around level page).page + k - (region_around level page).page ≡ k = omega arith in
        run.each ((region_around level page).page + k) (omega arith) (omega arith) ∙ ap (λ (n : ℕ). Some (record { frame = first.frame + n; kind = first.kind })) back

    by_range : (i : ℕ) × (r : MapRange) × LiesIn ranges (region_around level page).page (span level) first i r → (range.page ≤ (region_around level page).page) × ((region_around level page).page + span level ≤ range.page + range.count)
    by_range found =
        let lies = found.2 in
        let a = lies.begins in
        let b = lies.ends in
        let x = around.0 in
        let y = around.1 in
        let same : found.1 ≡ range = one_range ranges found.0 index page found.1 range is.sorted lies.at is.at (omega arith) (omega arith) from upto in
        let pages = ap (λ (r : MapRange). r.page) same in
        let counts = ap (λ (r : MapRange). r.count) same in
        (omega arith, omega arith)

-- the first page of a range is fresh
pub fresh_first : (ranges : List MapRange) (index : ℕ) (range : MapRange) → IsRange ranges index range → 0 < range.count → IsFresh (target_of ranges) range.page
fresh_first ranges index range is some level one two test =
    let run = is_run_tells (target_of ranges) (region_around level range.page) test in
    let lies = run_here ranges index range level range.page run.0 is (omega arith) (omega arith) (omega arith) run.1 in
    let around = around_in level range.page (omega arith) in
    let low = lies.0 in
    let high = around.0 in
    omega arith

-- and so is the page behind a leaf
pub fresh_next : (mapping : Map) (leaf : Region) → IsLeaf mapping leaf → IsFresh mapping (leaf.page + span leaf.level)
fresh_next mapping leaf is level one two test = by_start (start_at (region_around level next).page next around.0)
  where
    next : ℕ
    next = leaf.page + span leaf.level

    around : IsIn next (region_around level next)
    around = around_in level next (omega arith)

    start_at : (a b : ℕ) → a ≤ b → (a ≡ b) ⊎ (a < b)
    start_at a b low = grind arith

    positive : 0 < span leaf.level
    positive = span_some leaf.level is.plain.level

    page_or_past : (a b : ℕ) → (a < b) ⊎ (b ≤ a)
    page_or_past a b = grind arith

    by_start : ((region_around level next).page ≡ next) ⊎ ((region_around level next).page < next) → (region_around level next).page ≡ next
    by_start (inl same) = same
    by_start (inr less) = absurd (by_level (page_or_past level leaf.level))
      where
        last_here : IsIn (next - 1) (region_around level next)
        last_here = (omega arith, let h = around.1 in omega arith)

        last_there : IsIn (next - 1) leaf
        last_there = (omega arith, omega arith)

        by_level : (level < leaf.level) ⊎ (leaf.level ≤ level) → ⊥
        by_level (inl larger) =
            let within = inside (region_around level next) leaf (next - 1) (around_plain level next (omega arith)) is.plain (omega arith) last_here last_there in
            let here : IsIn leaf.page (region_around level next) = (within.0, (let h = within.1 in omega arith)) in
            let same : region_around level next ≡ region_around level leaf.page = same_level (region_around level next) (region_around level leaf.page) leaf.page (around_plain level next (omega arith)) (around_plain level leaf.page (omega arith)) refl here (around_in level leaf.page (omega arith)) in
            let run : is_run mapping (region_around level leaf.page) ≡ true = ap (is_run mapping) (sym same) ∙ test in
            let parts = both_true (is_run mapping leaf) (not (list_any (λ l. is_run mapping (region_around l leaf.page)) (numbers 1 (leaf.level - 1)))) is.block in
            let any : list_any (λ l. is_run mapping (region_around l leaf.page)) (numbers 1 (leaf.level - 1)) ≡ true = any-numbers-some (λ l. is_run mapping (region_around l leaf.page)) 1 (leaf.level - 1) level one (omega arith) run in
            false≢true (ap not (sym any) ∙ parts.1)
        by_level (inr smaller) =
            let within = inside leaf (region_around level next) (next - 1) is.plain (around_plain level next (omega arith)) smaller last_there last_here in
            let h = within.1 in
            let k = around.1 in
            omega arith

-- what fits is a run
pub fits_tells : (level page frame left : ℕ) → fits level page frame left ≡ true → (page % span level ≡ 0) × (frame % span level ≡ 0) × (span level ≤ left)
fits_tells level page frame left h =
    let outer = both_true (eqb (page % span level) 0 && eqb (frame % span level) 0) (leb (span level) left) h in
    let inner = both_true (eqb (page % span level) 0) (eqb (frame % span level) 0) outer.0 in
    (from_eqb (page % span level) inner.0, from_eqb (frame % span level) inner.1, from_leb (span level) left outer.1)
  where
    from_eqb : (a : ℕ) → eqb a 0 ≡ true → a ≡ 0
    from_eqb a h = grind (arith, nat_tests)

    from_leb : (a b : ℕ) → leb a b ≡ true → a ≤ b
    from_leb a b h = grind (arith, nat_tests)

fits_from : (level page frame left : ℕ) → page % span level ≡ 0 → frame % span level ≡ 0 → span level ≤ left → fits level page frame left ≡ true
fits_from level page frame left a b c =
    let x : eqb (page % span level) 0 ≡ true = to_eqb (page % span level) a in
    let y : eqb (frame % span level) 0 ≡ true = to_eqb (frame % span level) b in
    let z : leb (span level) left ≡ true = to_leb (span level) left c in
    joined (eqb (page % span level) 0) (eqb (frame % span level) 0) (leb (span level) left) x y z
  where
    to_eqb : (a : ℕ) → a ≡ 0 → eqb a 0 ≡ true
    to_eqb a h = grind (arith, nat_tests)

    to_leb : (a b : ℕ) → a ≤ b → leb a b ≡ true
    to_leb a b h = grind (arith, nat_tests)

    joined : (a b c : Bool) → a ≡ true → b ≡ true → c ≡ true → ((a && b) && c) ≡ true
    joined a b c x y z = rw (x, y, z) refl

-- a page of a range, with what is left of the range
pub record IsAt (ranges : List MapRange) (range : MapRange) (page : ℕ) : Type 0 where
  pub index : ℕ
  pub is : IsRange ranges index range
  pub low : range.page ≤ page
  pub high : page < range.page + range.count
  pub fresh : IsFresh (target_of ranges) page

abbrev pub frame_at : MapRange → ℕ → ℕ
frame_at range page = range.first + (page - range.page)

abbrev pub left_at : MapRange → ℕ → ℕ
left_at range page = range.page + range.count - page

run_of_fit : (ranges : List MapRange) (range : MapRange) (page level : ℕ) → IsAt ranges range page → fits level page (frame_at range page) (left_at range page) ≡ true → is_run (target_of ranges) (record { level = level; page = page }) ≡ true
run_of_fit ranges range page level here fit =
    let h = fits_tells level page (frame_at range page) (left_at range page) fit in
    let low = here.low in
    let high = here.high in
    let inside = h.2 in
    is_run_from (target_of ranges) (record { level = level; page = page }) (record { frame = frame_at range page; kind = range.kind }) (record {
      begins = target_at ranges 0 here.index page range here.is.sorted here.is.at low high;
      aligned = h.1;
      each = λ q from upto. (let behind : range.first + (q - range.page) ≡ frame_at range page + (q - page) = omega arith in
          target_at ranges 0 here.index q range here.is.sorted here.is.at (omega arith) (omega arith) ∙ ap (λ (f : ℕ). Some (record { frame = f; kind = range.kind })) behind);
    })

-- a run of a larger level around the page would fit
fit_of_run : (ranges : List MapRange) (range : MapRange) (page level : ℕ) → IsAt ranges range page → 1 ≤ level → level ≤ 2 → is_run (target_of ranges) (region_around level page) ≡ true → fits level page (frame_at range page) (left_at range page) ≡ true
fit_of_run ranges range page level here one two test =
    let start : (region_around level page).page ≡ page = here.fresh level one two test in
    let run = is_run_tells (target_of ranges) (region_around level page) test in
    let first : Target = run.0 in
    let lies = run_here ranges here.index range level page first here.is (omega arith) here.low here.high run.1 in
    let goes : first ≡ record { frame = frame_at range page; kind = range.kind } = same_Some first (record { frame = frame_at range page; kind = range.kind }) (sym (ap (target_of ranges) (sym start) ∙ run.1.begins) ∙ target_at ranges 0 here.index page range here.is.sorted here.is.at here.low here.high) in
    let frame : first.frame ≡ frame_at range page = ap (λ (t : Target). t.frame) goes in
    let ends = lies.1 in
    let low = here.low in
    fits_from level page (frame_at range page) (left_at range page)
    (ap (λ (p : ℕ). p % span level) (sym start) ∙ (around_plain level page (omega arith)).aligned)
    (ap (λ (f : ℕ). f % span level) (sym frame) ∙ run.1.aligned)
    (omega arith)

no_run : (ranges : List MapRange) (range : MapRange) (page level : ℕ) → IsAt ranges range page → 1 ≤ level → level ≤ 2 → fits level page (frame_at range page) (left_at range page) ≡ false → is_run (target_of ranges) (region_around level page) ≡ false
no_run ranges range page level here one two fit = by_test (is_run (target_of ranges) (region_around level page)) refl
  where
    by_test : (b : Bool) → is_run (target_of ranges) (region_around level page) ≡ b → is_run (target_of ranges) (region_around level page) ≡ false
    by_test false is = is
    by_test true is = absurd (false≢true (sym fit ∙ fit_of_run ranges range page level here one two is))

-- the largest word that fits is a leaf
pub leaf_here : (ranges : List MapRange) (range : MapRange) (page : ℕ) → IsAt ranges range page → IsLeaf (target_of ranges) (record { level = leaf_level page (frame_at range page) (left_at range page); page = page })
unfolding numbers
leaf_here ranges range page here = by_large (fits 1 page frame left) refl (fits 2 page frame left) refl
  where
    frame : ℕ
    frame = frame_at range page

    left : ℕ
    left = left_at range page

    mapping : Map
    mapping = target_of ranges

    target : Target
    target = record { frame = frame; kind = range.kind }

    at : mapping page ≡ Some target
    at = target_at ranges 0 here.index page range here.is.sorted here.is.at here.low here.high

    one_fits : fits 3 page frame left ≡ true
    one_fits = fits_from 3 page frame left (whole page) (whole frame) (let high = here.high in let low = here.low in omega arith)
      where
        whole : (n : ℕ) → n % 1 ≡ 0
        whole n = omega arith

    leaf : ℕ → Region
    leaf level = record { level = level; page = page }

    chosen : (a b : Bool) → ℕ
    chosen a b = cond a 1 (cond b 2 3)

    by_large : (a : Bool) → fits 1 page frame left ≡ a → (b : Bool) → fits 2 page frame left ≡ b → IsLeaf mapping (leaf (leaf_level page frame left))
    by_large true is b other =
        subst (λ (l : ℕ). IsLeaf mapping (leaf l)) (sym (ap (λ (x : Bool). cond x 1 (cond (fits 2 page frame left) 2 3)) is))
        (record {
          plain = record { level = omega arith; aligned = (fits_tells 1 page frame left is).0 };
          some = omega arith;
          block = ap (λ (x : Bool). x && true) (run_of_fit ranges range page 1 here is);
          mapped = ap is_some at;
        })
    by_large false is true other =
        subst (λ (l : ℕ). IsLeaf mapping (leaf l)) (sym (ap (λ (x : Bool). cond x 1 (cond (fits 2 page frame left) 2 3)) is ∙ ap (λ (x : Bool). cond x 2 3) other))
        (record {
          plain = record { level = omega arith; aligned = (fits_tells 2 page frame left other).0 };
          some = omega arith;
          block = ap (λ (x : Bool). x && not (is_run mapping (region_around 1 page) || false)) (run_of_fit ranges range page 2 here other)
              ∙ ap (λ (x : Bool). true && not (x || false)) (no_run ranges range page 1 here (omega arith) (omega arith) is);
          mapped = ap is_some at;
        })
    by_large false is false other =
        subst (λ (l : ℕ). IsLeaf mapping (leaf l)) (sym (ap (λ (x : Bool). cond x 1 (cond (fits 2 page frame left) 2 3)) is ∙ ap (λ (x : Bool). cond x 2 3) other))
        (record {
          plain = record { level = omega arith; aligned = (fits_tells 3 page frame left one_fits).0 };
          some = omega arith;
          block = ap (λ (x : Bool). x && not (is_run mapping (region_around 1 page) || (is_run mapping (region_around 2 page) || false))) (run_of_fit ranges range page 3 here one_fits)
              ∙ ap (λ (x : Bool). true && not (x || (is_run mapping (region_around 2 page) || false))) (no_run ranges range page 1 here (omega arith) (omega arith) is)
              ∙ ap (λ (x : Bool). true && not (x || false)) (no_run ranges range page 2 here (omega arith) (omega arith) other);
          mapped = ap is_some at;
        })
