-- The first page where the runs of two maps part is the first where the maps differ.
use Rattle.std.proofs.Common.{◌≡◌, ◌≢◌, ◌∙◌, refl, sym, ap, ap₂, subst, ℕ, ◌+◌, ◌-◌, ◌^◌, ◌<◌, ◌≤◌, ◌⊎◌, ◌&&◌, min, Bool, true, false, cond, eqb, List, [], ◌∷◌, map, Option, Some, None, arith, inl, inr}
use Rattle.std.specs.Prelude.{not, find}
use Rattle.std.specs.Option.{option_eq}
use Rattle.std.proofs.lemmas.Bool.{cases_order}
use Rattle.std.proofs.lemmas.Bool.Decides.{eqb_tells}
use Rattle.std.proofs.lemmas.List.{map-id}
use Rattle.std.proofs.lemmas.Option.{none-some, same_Some}
use Rattle.texts.specs.Consecutive.{numbers}
use Rattle.described.specs.Maps.{AreMapRanges, AreMerged}
use Rattle.described.specs.declared.map_range.MapRange.{MapRange}
use Rattle.texts.proofs.NumberLists.{find-map-numbers, find-map-numbers-none}
use Rattle.stage2_walk.specs.Pages.{Page}
use Rattle.stage2_walk.specs.Runs.{PageMap, map_of, mapped_runs}
use Rattle.stage2_walk.specs.PrivateReads.{IsGap, HasRuns}
use Rattle.stage2_walk.specs.declared.run.Run.{Run}
use Rattle.stage2_walk.proofs.RunSteps.{HasRuns-within}
use Rattle.image_audit.specs.Findings.{planned_map, are_one, differ_at, first_difference}
use Rattle.image_audit.specs.PrivatePartings.{planned_run, begin_alike, are_same, parting_page, parting}
use Rattle.image_audit.proofs.Parted.{its_runs, planned_runs}

-- two maps agree from a page on up to another
abbrev AgreeUpTo : PageMap → PageMap → ℕ → ℕ → Type 0
AgreeUpTo f g start end = (page : ℕ) → start ≤ page → page < end → f page ≡ g page

-- two maps differ first at a page
pub record DifferFirst (f g : PageMap) (start page : ℕ) : Type 0 where
  pub from : start ≤ page
  pub low : page < 2 ^ 28
  pub before : (other : ℕ) → start ≤ other → other < page → f other ≡ g other
  pub here : f page ≢ g page

-- this is the first page where they differ, or they agree
abbrev pub Told : PageMap → PageMap → ℕ → Option ℕ → Type 0
Told f g start None = AgreeUpTo f g start (2 ^ 28)
Told f g start (Some page) = DifferFirst f g start page

-- what differs first behind pages that agree
told_behind : (f g : PageMap) (start next : ℕ) (o : Option ℕ) → start ≤ next → AgreeUpTo f g start next → Told f g next o → Told f g start o
told_behind f g start next None low agree told = λ page from upto. by page from upto (cases_order page next)
  where
    by : (page : ℕ) → start ≤ page → page < 2 ^ 28 → (page ≡ next) ⊎ ((page < next) ⊎ (next < page)) → f page ≡ g page
    by page from upto (inl same) = told page (omega arith) upto
    by page from upto (inr (inl before)) = agree page from before
    by page from upto (inr (inr past)) = told page (omega arith) upto
told_behind f g start next (Some at) low agree told =
    let past = told.from in
    record { from = omega arith; low = told.low; before = λ page from upto. by page from upto (cases_order page next); here = told.here }
  where
    by : (page : ℕ) → start ≤ page → page < at → (page ≡ next) ⊎ ((page < next) ⊎ (next < page)) → f page ≡ g page
    by page from upto (inl same) = told.before page (omega arith) upto
    by page from upto (inr (inl before)) = agree page from before
    by page from upto (inr (inr past)) = told.before page (omega arith) upto

-- a frame with attributes
abbrev pair : ℕ → ℕ → ℕ × ℕ
pair frame attr = (frame, attr)

-- whether runs begin alike, and whether they are one
module _ (one other : Run) where
  pub record BeginAlike : Type 0 where
    pub page : one.page ≡ other.page
    pub first : one.first ≡ other.first
    pub attr : one.attr ≡ other.attr

  abbrev BeginOrNot : Type 0
  BeginOrNot = ((begin_alike one other ≡ true) × BeginAlike) ⊎ ((begin_alike one other ≡ false) × (one.page ≡ other.page → one.first ≡ other.first → one.attr ≡ other.attr → ⊥))

  begin_tells : BeginOrNot
  begin_tells = by (eqb_tells one.page other.page) (eqb_tells one.first other.first) (eqb_tells one.attr other.attr)
    where
      Test : ℕ → ℕ → Type 0
      Test a b = ((eqb a b ≡ true) × (a ≡ b)) ⊎ ((eqb a b ≡ false) × (a ≢ b))

      by : Test one.page other.page → Test one.first other.first → Test one.attr other.attr → BeginOrNot
      by (inl a) (inl b) (inl c) = inl (rw (a.0, b.0, c.0) refl, record { page = a.1; first = b.1; attr = c.1 })
      by (inl a) (inl b) (inr c) = inr (rw (a.0, b.0, c.0) refl, λ _ _ same. c.1 same)
      by (inl a) (inr b) c = inr (rw (a.0, b.0) refl, λ _ same _. b.1 same)
      by (inr a) b c = inr (rw a.0 refl, λ same _ _. a.1 same)

-- ---- where two lists part

module _ (f g : PageMap) where
  -- where a run of the one begins before the other has any page, they differ first
  run_alone : (start : ℕ) (run : Run) (runs : List Run) (next : ℕ) → HasRuns f start (run ∷ runs) (2 ^ 28) → IsGap g start next → run.page < next → DifferFirst f g start run.page
  run_alone start run runs next has gap less =
      let begins = has.0.0 in
      let some = has.1.0 in
      let within = HasRuns-within f (run.page + run.count) runs (2 ^ 28) has.3 in
      record {
        from = begins;
        low = omega arith;
        before = λ page from upto. has.0.1 page from upto ∙ sym (gap.1 page from (omega arith));
        here = λ e. none-some (run.first + 0, run.attr) (sym (gap.1 run.page begins less) ∙ sym e ∙ at);
      }
    where
      at : f run.page ≡ Some (run.first + 0, run.attr)
      at = let page : run.page ≡ run.page + 0 = omega arith in ap f page ∙ has.1.1 0 has.1.0

  -- where two runs begin at one page, and go elsewhere
  runs_apart : (start : ℕ) (run other : Run) (runs others : List Run) → HasRuns f start (run ∷ runs) (2 ^ 28) → HasRuns g start (other ∷ others) (2 ^ 28) → run.page ≡ other.page
      → (run.first ≡ other.first → run.attr ≡ other.attr → ⊥) → DifferFirst f g start run.page
  runs_apart start run other runs others has more same apart =
      let begins = has.0.0 in
      let some = has.1.0 in
      let within = HasRuns-within f (run.page + run.count) runs (2 ^ 28) has.3 in
      record {
        from = begins;
        low = omega arith;
        before = λ page from upto. has.0.1 page from upto ∙ sym (more.0.1 page from (omega arith));
        here = λ e. differ (same_Some (pair (run.first + 0) run.attr) (pair (other.first + 0) other.attr) (sym at ∙ e ∙ there));
      }
    where
      at : f run.page ≡ Some (run.first + 0, run.attr)
      at = let page : run.page ≡ run.page + 0 = omega arith in ap f page ∙ has.1.1 0 has.1.0

      there : g run.page ≡ Some (other.first + 0, other.attr)
      there = let page : run.page ≡ other.page + 0 = omega arith in ap g page ∙ more.1.1 0 more.1.0

      frames : run.first + 0 ≡ other.first + 0 → run.first ≡ other.first
      frames e = omega arith

      differ : pair (run.first + 0) run.attr ≡ pair (other.first + 0) other.attr → ⊥
      differ e = apart (frames (ap (λ (p : ℕ × ℕ). p.0) e)) (ap (λ (p : ℕ × ℕ). p.1) e)

  -- where two runs begin alike, their maps agree up to where the shorter one ends
  agree_along : (start : ℕ) (run other : Run) (runs others : List Run) (count : ℕ) → HasRuns f start (run ∷ runs) (2 ^ 28) → HasRuns g start (other ∷ others) (2 ^ 28) → BeginAlike run other → count ≤ run.count → count ≤ other.count
      → AgreeUpTo f g start (run.page + count)
  agree_along start run other runs others count has more alike low low_too page from upto = by (cases_order page run.page)
    where
      inside : run.page ≤ page → f page ≡ g page
      inside past =
          let same = alike.page in
          let here : page ≡ run.page + (page - run.page) = omega arith in
          let there : page ≡ other.page + (page - run.page) = omega arith in
          ap f here ∙ has.1.1 (page - run.page) (omega arith)
          ∙ ap₂ (λ (first attr : ℕ). Some (first + (page - run.page), attr)) alike.first alike.attr
          ∙ sym (ap g there ∙ more.1.1 (page - run.page) (omega arith))

      by : (page ≡ run.page) ⊎ ((page < run.page) ⊎ (run.page < page)) → f page ≡ g page
      by (inl same) = inside (omega arith)
      by (inr (inl before)) = let same = alike.page in has.0.1 page from before ∙ sym (more.0.1 page from (omega arith))
      by (inr (inr past)) = inside (omega arith)

  -- where the one ends first, they differ there
  shorter : (start : ℕ) (run other : Run) (runs others : List Run) → HasRuns f start (run ∷ runs) (2 ^ 28) → HasRuns g start (other ∷ others) (2 ^ 28) → BeginAlike run other → run.count < other.count → DifferFirst f g start (run.page + run.count)
  shorter start run other runs others has more alike less =
      let begins = has.0.0 in
      let some = has.1.0 in
      let within = HasRuns-within g (other.page + other.count) others (2 ^ 28) more.3 in
      let same = alike.page in
      record {
        from = omega arith;
        low = omega arith;
        before = agree_along start run other runs others run.count has more alike (omega arith) (omega arith);
        here = λ e. has.2 (omega arith) (e ∙ there);
      }
    where
      there : g (run.page + run.count) ≡ Some (run.first + run.count, run.attr)
      there =
          let same = alike.page in
          let page : run.page + run.count ≡ other.page + run.count = omega arith in
          ap g page ∙ more.1.1 run.count less ∙ ap₂ (λ (first attr : ℕ). Some (first + run.count, attr)) (sym alike.first) (sym alike.attr)

-- the other way round
turned : (f g : PageMap) (start page : ℕ) → DifferFirst g f start page → DifferFirst f g start page
turned f g start page told = record { from = told.from; low = told.low; before = λ other from upto. sym (told.before other from upto); here = λ e. told.here (sym e) }

module _ (f g : PageMap) where
  -- where the first runs are not one
  first_runs : (start : ℕ) (run other : Run) (runs others : List Run) → HasRuns f start (run ∷ runs) (2 ^ 28) → HasRuns g start (other ∷ others) (2 ^ 28) → (BeginAlike run other → run.count ≡ other.count → ⊥)
      → DifferFirst f g start (parting_page run other)
  first_runs start run other runs others has more apart = by (begin_tells run other)
    where
      at : (page other_page : ℕ) → page ≡ other_page → DifferFirst f g start page → DifferFirst f g start other_page
      at page other_page same told = subst (DifferFirst f g start) same told

      lengths : BeginAlike run other → (run.count ≡ other.count) ⊎ ((run.count < other.count) ⊎ (other.count < run.count)) → DifferFirst f g start (other.page + min run.count other.count)
      lengths alike (inl same) = absurd (apart alike same)
      lengths alike (inr (inl less)) = let same = alike.page in at (run.page + run.count) (other.page + min run.count other.count) (omega arith) (shorter f g start run other runs others has more alike less)
      lengths alike (inr (inr more_pages)) =
          at (other.page + other.count) (other.page + min run.count other.count) (omega arith)
          (turned f g start (other.page + other.count) (shorter g f start other run others runs more has (record { page = sym alike.page; first = sym alike.first; attr = sym alike.attr }) more_pages))

      pages : (run.page ≡ other.page → run.first ≡ other.first → run.attr ≡ other.attr → ⊥) → (run.page ≡ other.page) ⊎ ((run.page < other.page) ⊎ (other.page < run.page)) → DifferFirst f g start (min run.page other.page)
      pages not_alike (inl same) = at run.page (min run.page other.page) (omega arith) (runs_apart f g start run other runs others has more same (not_alike same))
      pages not_alike (inr (inl less)) = at run.page (min run.page other.page) (omega arith) (run_alone f g start run runs other.page has more.0 less)
      pages not_alike (inr (inr past)) = at other.page (min run.page other.page) (omega arith) (turned f g start other.page (run_alone g f start other others run.page more has.0 past))

      by : BeginOrNot run other → DifferFirst f g start (parting_page run other)
      by (inl h) = rw h.0 (lengths h.1 (cases_order run.count other.count))
      by (inr h) = rw h.0 (pages h.1 (cases_order run.page other.page))

  pub parting_tells : (start : ℕ) (runs : List Run) (ranges : List MapRange) → HasRuns f start runs (2 ^ 28) → HasRuns g start (map planned_run ranges) (2 ^ 28) → Told f g start (parting runs ranges)
  parting_tells start [] [] has more = λ page from upto. has.1 page from upto ∙ sym (more.1 page from upto)
  parting_tells start [] (range ∷ ranges) has more =
      let some = more.1.0 in
      let within = HasRuns-within g (range.page + range.count) (map planned_run ranges) (2 ^ 28) more.3 in
      turned f g start range.page (run_alone g f start (planned_run range) (map planned_run ranges) (2 ^ 28) more has (omega arith))
  parting_tells start (run ∷ runs) [] has more =
      let some = has.1.0 in
      let within = HasRuns-within f (run.page + run.count) runs (2 ^ 28) has.3 in
      run_alone f g start run runs (2 ^ 28) has more (omega arith)
  parting_tells start (run ∷ runs) (range ∷ ranges) has more =
      by (begin_tells run (planned_run range)) (eqb_tells run.count range.count) (λ behind. parting_tells (run.page + run.count) runs ranges has.3 behind)
    where
      Later : Type 0
      Later = HasRuns g (run.page + run.count) (map planned_run ranges) (2 ^ 28) → Told f g (run.page + run.count) (parting runs ranges)

      Lengths : Type 0
      Lengths = ((eqb run.count range.count ≡ true) × (run.count ≡ range.count)) ⊎ ((eqb run.count range.count ≡ false) × (run.count ≢ range.count))

      rest : BeginAlike run (planned_run range) → run.count ≡ range.count → Later → Told f g start (parting runs ranges)
      rest alike same_count later =
          let begins = has.0.0 in
          let same_page : run.page ≡ range.page = alike.page in
          let same : range.page + range.count ≡ run.page + run.count = omega arith in
          told_behind f g start (run.page + run.count) (parting runs ranges) (omega arith)
          (agree_along f g start run (planned_run range) runs (map planned_run ranges) run.count has more alike (omega arith) (omega arith))
          (later (subst (λ (next : ℕ). HasRuns g next (map planned_run ranges) (2 ^ 28)) same more.3))

      tested : (b : Bool) → are_same run (planned_run range) ≡ b → Told f g start (cond b (parting runs ranges) (Some (parting_page run (planned_run range)))) → Told f g start (parting (run ∷ runs) (range ∷ ranges))
      tested b is told = subst (λ (b : Bool). Told f g start (cond b (parting runs ranges) (Some (parting_page run (planned_run range))))) (sym is) told

      by : BeginOrNot run (planned_run range) → Lengths → Later → Told f g start (parting (run ∷ runs) (range ∷ ranges))
      by (inl h) (inl same) later = tested true (rw (h.0, same.0) refl) (rest h.1 same.1 later)
      by (inl h) (inr apart) _ = tested false (rw (h.0, apart.0) refl) (first_runs start run (planned_run range) runs (map planned_run ranges) has more (λ _ same. apart.1 same))
      by (inr h) _ _ = tested false (rw h.0 refl) (first_runs start run (planned_run range) runs (map planned_run ranges) has more (λ alike _. h.1 alike.page alike.first alike.attr))

-- ---- the test of a page

eqb_self : (a : ℕ) → eqb a a ≡ true
eqb_self a = elim (eqb_tells a a) [ inl h ↦ h.0 | inr h ↦ absurd (h.1 refl) ]

-- goals that are equal pass as one
one_goal : (goal : Option (ℕ × ℕ)) → not (option_eq are_one goal goal) ≡ false
one_goal None = refl
one_goal (Some goal) = rw (eqb_self goal.0, eqb_self goal.1) refl

-- and no others do
two_goals : (one other : Option (ℕ × ℕ)) → one ≢ other → not (option_eq are_one one other) ≡ true
two_goals None None apart = absurd (apart refl)
two_goals None (Some goal) apart = refl
two_goals (Some goal) None apart = refl
two_goals (Some (frame, attr)) (Some (other_frame, other_attr)) apart = by (eqb_tells frame other_frame) (eqb_tells attr other_attr)
  where
    Test : ℕ → ℕ → Type 0
    Test a b = ((eqb a b ≡ true) × (a ≡ b)) ⊎ ((eqb a b ≡ false) × (a ≢ b))

    by : Test frame other_frame → Test attr other_attr → not (eqb frame other_frame && eqb attr other_attr) ≡ true
    by (inl a) (inl b) = absurd (apart (ap₂ (λ (f a : ℕ). Some (f, a)) a.1 b.1))
    by (inl a) (inr b) = rw (a.0, b.0) refl
    by (inr a) b = rw a.0 refl

-- the first page that goes elsewhere
found : (f g : PageMap) (o : Option ℕ) → Told f g 0 o → first_difference f g ≡ o
unfolding first_difference
found f g None told =
    ap (find (differ_at f g)) (sym (map-id (numbers 0 (2 ^ 28))))
    ∙ find-map-numbers-none (differ_at f g) (λ k. k) 0 (2 ^ 28) (λ page from upto. ap (λ goal. not (option_eq are_one goal (g page))) (told page from upto) ∙ one_goal (g page))
found f g (Some page) told =
    ap (find (differ_at f g)) (sym (map-id (numbers 0 (2 ^ 28))))
    ∙ find-map-numbers (differ_at f g) (λ k. k) 0 (2 ^ 28) page told.from told.low (two_goals (f page) (g page) told.here)
    (λ other from upto. ap (λ goal. not (option_eq are_one goal (g other))) (told.before other from upto) ∙ one_goal (g other))

-- the first page where the runs of an image part from the ranges of a plan is the first that its walk sends elsewhere
pub first_parting : (pages : List Page) (root : ℕ) (ranges : List MapRange) → AreMapRanges ranges → AreMerged ranges → first_difference (map_of pages root) (planned_map ranges) ≡ parting (mapped_runs pages root) ranges
first_parting pages root ranges sorted merged =
    found (map_of pages root) (planned_map ranges) (parting (mapped_runs pages root) ranges)
    (parting_tells (map_of pages root) (planned_map ranges) 0 (mapped_runs pages root) ranges (its_runs (map_of pages root)) (planned_runs ranges sorted merged))

-- and such a page is below 2^28
pub parting_low : (pages : List Page) (root : ℕ) (ranges : List MapRange) (page : ℕ) → AreMapRanges ranges → AreMerged ranges → parting (mapped_runs pages root) ranges ≡ Some page → page < 2 ^ 28
parting_low pages root ranges page sorted merged is =
    (subst (Told (map_of pages root) (planned_map ranges) 0) is
    (parting_tells (map_of pages root) (planned_map ranges) 0 (mapped_runs pages root) ranges (its_runs (map_of pages root)) (planned_runs ranges sorted merged))).low

-- where no page is, the maps agree
pub agree_where_none : (pages : List Page) (root : ℕ) (ranges : List MapRange) → AreMapRanges ranges → AreMerged ranges → first_difference (map_of pages root) (planned_map ranges) ≡ None
    → (page : ℕ) → page < 2 ^ 28 → map_of pages root page ≡ planned_map ranges page
agree_where_none pages root ranges sorted merged none page low =
    subst (Told (map_of pages root) (planned_map ranges) 0) (sym (first_parting pages root ranges sorted merged) ∙ none)
    (parting_tells (map_of pages root) (planned_map ranges) 0 (mapped_runs pages root) ranges (its_runs (map_of pages root)) (planned_runs ranges sorted merged)) page (omega arith) low
