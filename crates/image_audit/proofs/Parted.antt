-- Every map has its runs, and those of a plan's map are its ranges.
use Rattle.std.proofs.Common.{◌≡◌, ◌≢◌, ◌∙◌, refl, sym, ap, subst, ℕ, zero, suc, ◌+◌, ◌-◌, ◌^◌, ◌<◌, ◌≤◌, ◌⊎◌, true, false, List, [], ◌∷◌, map, Option, Some, None, arith, inl, inr}
use Rattle.std.proofs.lemmas.Bool.{cases_order}
use Rattle.std.proofs.lemmas.Option.{none-some, same_Some}
use Rattle.described.specs.Maps.{attributes, holds_page, AreSortedFrom, AreMerged, AreMergedAfter, RunsOn}
use Rattle.described.specs.declared.map_range.Kind.{Kind}
use Rattle.described.specs.declared.map_range.Kind.TheVariants.{Ram, Device, Shared}
use Rattle.described.specs.declared.map_range.MapRange.{MapRange}
use Rattle.described.proofs.RunLemmas.{holds_tells}
use Rattle.stage2_walk.specs.Runs.{PageMap, runs_of}
use Rattle.stage2_walk.specs.PrivateReads.{IsMapped, HasRuns}
use Rattle.stage2_walk.specs.JoinedRuns.{with_leaf}
use Rattle.stage2_walk.specs.declared.run.Run.{Run}
use Rattle.stage2_walk.proofs.RunSteps.{HasRuns-gap, HasRuns-leaf}
use Rattle.stage2_walk.proofs.RunsWhole.{runs_of-HasRuns}
use Rattle.image_audit.specs.Findings.{planned_map}
use Rattle.image_audit.specs.PrivatePartings.{planned_run}

-- ---- every map has its runs

some_runs : (m : PageMap) (n : ℕ) → (runs : List Run) × HasRuns m 0 runs n
some_runs m zero = ([], (omega arith, λ page from upto. absurd (omega arith)))
some_runs m (suc n) = by (m n) refl (some_runs m n)
  where
    here : (page : ℕ) → n ≤ page → page < suc n → m page ≡ m n
    here page from upto = let same : page ≡ n = omega arith in ap m same

    by : (goal : Option (ℕ × ℕ)) → m n ≡ goal → (runs : List Run) × HasRuns m 0 runs n → (runs : List Run) × HasRuns m 0 runs (suc n)
    by None at r = (r.0, HasRuns-gap m 0 r.0 n (suc n) r.1 (omega arith, λ page from upto. here page from upto ∙ at))
    by (Some goal) at r =
        let leaf : Run = record { page = n; first = goal.0; count = 1; attr = goal.1 } in
        let mapped : IsMapped m leaf = (omega arith, λ k low. (let same : n + k ≡ n = omega arith in let to : goal.0 ≡ goal.0 + k = omega arith in ap m same ∙ at ∙ ap (λ (f : ℕ). Some (f, goal.1)) to)) in
        let next : n + 1 ≡ suc n = omega arith in
        (with_leaf r.0 leaf, subst (λ (e : ℕ). HasRuns m 0 (with_leaf r.0 leaf) e) next (HasRuns-leaf m 0 r.0 leaf r.1 mapped))

pub its_runs : (m : PageMap) → HasRuns m 0 (runs_of m) (2 ^ 28)
its_runs m = let r = some_runs m (2 ^ 28) in subst (λ (runs : List Run). HasRuns m 0 runs (2 ^ 28)) (sym (runs_of-HasRuns m r.0 r.1)) r.1

-- ---- the ranges of a plan are the runs of its map

abbrev HoldsOrNot : MapRange → ℕ → Type 0
HoldsOrNot range page =
    ((holds_page range page ≡ true) × (range.page ≤ page) × (page < range.page + range.count))
    ⊎ ((holds_page range page ≡ false) × ((page < range.page) ⊎ (range.page + range.count ≤ page)))

-- nothing is planned before sorted ranges begin
unplanned_before : (ranges : List MapRange) (start page : ℕ) → AreSortedFrom start ranges → page < start → planned_map ranges page ≡ None
unplanned_before [] start page sorted less = refl
unplanned_before (range ∷ ranges) start page sorted less = by (holds_tells range page) (unplanned_before ranges (range.page + range.count) page sorted.4 (let begins : start ≤ range.page = sorted.0 in omega arith))
  where
    by : HoldsOrNot range page → planned_map ranges page ≡ None → planned_map (range ∷ ranges) page ≡ None
    by (inl h) later = absurd (let begins : start ≤ range.page = sorted.0 in let above : range.page ≤ page = h.1 in omega arith)
    by (inr h) later = rw h.0 later

-- a page of the first range
planned_at : (range : MapRange) (ranges : List MapRange) (k : ℕ) → k < range.count → planned_map (range ∷ ranges) (range.page + k) ≡ Some (range.first + k, attributes range.kind)
planned_at range ranges k less = by (holds_tells range (range.page + k))
  where
    by : HoldsOrNot range (range.page + k) → planned_map (range ∷ ranges) (range.page + k) ≡ Some (range.first + k, attributes range.kind)
    by (inl h) = let same : range.first + (range.page + k - range.page) ≡ range.first + k = omega arith in rw h.0 (ap (λ (f : ℕ). Some (f, attributes range.kind)) same)
    by (inr h) = absurd (elim h.1 [ inl below ↦ omega arith | inr above ↦ omega arith ])

-- a page that the first range does not hold
planned_on : (range : MapRange) (ranges : List MapRange) (page : ℕ) → (page < range.page) ⊎ (range.page + range.count ≤ page) → planned_map (range ∷ ranges) page ≡ planned_map ranges page
planned_on range ranges page out = by (holds_tells range page) out
  where
    by : HoldsOrNot range page → (page < range.page) ⊎ (range.page + range.count ≤ page) → planned_map (range ∷ ranges) page ≡ planned_map ranges page
    by (inl h) (inl low) = absurd (omega arith)
    by (inl h) (inr high) = absurd (omega arith)
    by (inr h) _ = rw h.0 refl

-- kinds with one number of attributes are one
one_kind : (one other : Kind) → attributes one ≡ attributes other → one ≡ other
one_kind Ram Ram e = refl
one_kind Ram Device e = absurd (omega arith)
one_kind Ram Shared e = absurd (omega arith)
one_kind Device Ram e = absurd (omega arith)
one_kind Device Device e = refl
one_kind Device Shared e = absurd (omega arith)
one_kind Shared Ram e = absurd (omega arith)
one_kind Shared Device e = absurd (omega arith)
one_kind Shared Shared e = refl

runs_on : (range next : MapRange) → range.page + range.count ≡ next.page → range.first + range.count ≡ next.first + 0 → attributes next.kind ≡ attributes range.kind → RunsOn range next
runs_on range next page frame attr = record { page = sym page; frame = omega arith; kind = one_kind next.kind range.kind attr }

-- what stands right behind a range does not run on
ends_behind : (range : MapRange) (ranges : List MapRange) → AreSortedFrom (range.page + range.count) ranges → AreMergedAfter range ranges → planned_map ranges (range.page + range.count) ≢ Some (range.first + range.count, attributes range.kind)
ends_behind range [] sorted merged some = none-some _ some
ends_behind range (next ∷ ranges) sorted merged some = by (cases_order (range.page + range.count) next.page)
  where
    begins : range.page + range.count ≤ next.page
    begins = sorted.0

    at : range.page + range.count ≡ next.page → ⊥
    at same =
        let has : 0 < next.count = sorted.1 in
        let page : range.page + range.count ≡ next.page + 0 = omega arith in
        let both : (range.first + range.count, attributes range.kind) ≡ (next.first + 0, attributes next.kind) = same_Some (range.first + range.count, attributes range.kind) (next.first + 0, attributes next.kind) (sym some ∙ ap (planned_map (next ∷ ranges)) page ∙ planned_at next ranges 0 has) in
        merged.0 (runs_on range next same (ap (λ (p : ℕ × ℕ). p.0) both) (sym (ap (λ (p : ℕ × ℕ). p.1) both)))

    by : (range.page + range.count ≡ next.page) ⊎ ((range.page + range.count < next.page) ⊎ (next.page < range.page + range.count)) → ⊥
    by (inl same) = at same
    by (inr (inl low)) = none-some _ (sym (unplanned_before (next ∷ ranges) next.page (range.page + range.count) (omega arith, sorted.1, sorted.2, sorted.3, sorted.4) low) ∙ some)
    by (inr (inr high)) = absurd (omega arith)

merged_rest : (range : MapRange) (ranges : List MapRange) → AreMergedAfter range ranges → AreMerged ranges
merged_rest range [] merged = tt
merged_rest range (next ∷ ranges) merged = merged.1

planned_runs_from : (m : PageMap) (ranges : List MapRange) (start : ℕ) → start ≤ 2 ^ 28 → AreSortedFrom start ranges → AreMerged ranges → ((page : ℕ) → start ≤ page → m page ≡ planned_map ranges page) → HasRuns m start (map planned_run ranges) (2 ^ 28)
planned_runs_from m [] start low sorted merged same = (low, λ page from upto. same page from)
planned_runs_from m (range ∷ ranges) start low sorted merged same = (
  (sorted.0, λ page from upto. same page from ∙ unplanned_before (range ∷ ranges) range.page page (omega arith, sorted.1, sorted.2, sorted.3, sorted.4) upto),
  (sorted.1, λ k less. same (range.page + k) (omega arith) ∙ planned_at range ranges k less),
  (λ upto some. ends_behind range ranges sorted.4 merged (sym (behind (range.page + range.count) (omega arith)) ∙ some)),
  planned_runs_from m ranges (range.page + range.count) sorted.2 sorted.4 (merged_rest range ranges merged) behind,
)
  where
    begins : start ≤ range.page
    begins = sorted.0

    behind : (page : ℕ) → range.page + range.count ≤ page → m page ≡ planned_map ranges page
    behind page past = same page (omega arith) ∙ planned_on range ranges page (inr past)

pub planned_runs : (ranges : List MapRange) → AreSortedFrom 0 ranges → AreMerged ranges → HasRuns (planned_map ranges) 0 (map planned_run ranges) (2 ^ 28)
planned_runs ranges sorted merged = planned_runs_from (planned_map ranges) ranges 0 (omega arith) sorted merged (λ page from. refl)
