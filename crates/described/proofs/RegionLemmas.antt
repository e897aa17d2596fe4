-- What the tests on regions tell.
use Rattle.std.proofs.Common.{◌≡◌, ℕ, zero, suc, ◌+◌, ◌-◌, ◌%◌, ◌<◌, ◌≤◌, ◌⊎◌, ◌&&◌, Bool, true, false, eqb, Option, Some, None, refl, sym, ap, ◌∙◌, arith, inl, inr}
use Rattle.std.specs.List.{range_with_len, list_all}
use Rattle.std.proofs.lemmas.Bool.{false≢true}
use Rattle.std.proofs.lemmas.Bool.Decides.{nat_tests}
use Rattle.texts.specs.Consecutive.{numbers}
use Rattle.described.specs.Maps.{Target}
use Rattle.described.specs.Regions.{Map, Region, span, same_kind, goes_to, runs_from, is_run}
use Rattle.described.specs.declared.map_range.Kind.{Kind}
use Rattle.described.specs.declared.map_range.Kind.TheVariants.{Ram, Device, Shared}

pub both_true : (a b : Bool) → (a && b) ≡ true → (a ≡ true) × (b ≡ true)
both_true true b h = (refl, h)
both_true false b h = absurd (false≢true h)

all_in_range : (p : ℕ → Bool) (a n : ℕ) → list_all p (range_with_len a n) ≡ true → (k : ℕ) → a ≤ k → k < a + n → p k ≡ true
all_in_range p a zero all k low high = absurd (omega arith)
all_in_range p a (suc n) all k low high =
    let h = both_true (p a) (list_all p (range_with_len (a + 1) n)) all in
    here_or_later (all_in_range p (a + 1) n h.1) h.0 (split a k low)
  where
    split : (a k : ℕ) → a ≤ k → (a ≡ k) ⊎ (a < k)
    split a k low = grind arith

    here_or_later : ((j : ℕ) → a + 1 ≤ j → j < (a + 1) + n → p j ≡ true) → p a ≡ true → (a ≡ k) ⊎ (a < k) → p k ≡ true
    here_or_later rest here (inl same) = ap p (sym same) ∙ here
    here_or_later rest here (inr past) = rest k (omega arith) (omega arith)

pub all-numbers : (p : ℕ → Bool) (a n : ℕ) → list_all p (numbers a n) ≡ true → (k : ℕ) → a ≤ k → k < a + n → p k ≡ true
unfolding numbers
all-numbers p a n all k low high = all_in_range p a n all k low high

all_over_range : (p : ℕ → Bool) (a n : ℕ) → ((k : ℕ) → a ≤ k → k < a + n → p k ≡ true) → list_all p (range_with_len a n) ≡ true
all_over_range p a zero each = refl
all_over_range p a (suc n) each =
    let here : p a ≡ true = each a (omega arith) (omega arith) in
    rw here (all_over_range p (a + 1) n (λ k low high. each k (omega arith) (omega arith)))

pub all-numbers-from_each : (p : ℕ → Bool) (a n : ℕ) → ((k : ℕ) → a ≤ k → k < a + n → p k ≡ true) → list_all p (numbers a n) ≡ true
unfolding numbers
all-numbers-from_each p a n each = all_over_range p a n each

same_kind_tells : (a b : Kind) → same_kind a b ≡ true → a ≡ b
same_kind_tells Ram Ram h = refl
same_kind_tells Ram Device h = absurd (false≢true h)
same_kind_tells Ram Shared h = absurd (false≢true h)
same_kind_tells Device Ram h = absurd (false≢true h)
same_kind_tells Device Device h = refl
same_kind_tells Device Shared h = absurd (false≢true h)
same_kind_tells Shared Ram h = absurd (false≢true h)
same_kind_tells Shared Device h = absurd (false≢true h)
same_kind_tells Shared Shared h = refl

same_kind_refl : (a : Kind) → same_kind a a ≡ true
same_kind_refl Ram = refl
same_kind_refl Device = refl
same_kind_refl Shared = refl

pub goes_to_tells : (o : Option Target) (frame : ℕ) (kind : Kind) → goes_to o frame kind ≡ true → o ≡ Some (record { frame = frame; kind = kind })
goes_to_tells None frame kind h = absurd (false≢true h)
goes_to_tells (Some t) frame kind h =
    let parts = both_true (eqb t.frame frame) (same_kind t.kind kind) h in
    let same_frame : t.frame ≡ frame = from_test t.frame frame parts.0 in
    let kinds : t.kind ≡ kind = same_kind_tells t.kind kind parts.1 in
    ap (λ (f : ℕ). Some (record { frame = f; kind = t.kind })) same_frame ∙ ap (λ (k : Kind). Some (record { frame = frame; kind = k })) kinds
  where
    from_test : (a b : ℕ) → eqb a b ≡ true → a ≡ b
    from_test a b h = grind (arith, nat_tests)

-- a run, by its pages
pub record IsRun (mapping : Map) (region : Region) (first : Target) : Type 0 where
  pub begins : mapping region.page ≡ Some first
  pub aligned : first.frame % span region.level ≡ 0
  pub each : (page : ℕ) → region.page ≤ page → page < region.page + span region.level → mapping page ≡ Some (record { frame = first.frame + (page - region.page); kind = first.kind })

pub is_run_tells : (mapping : Map) (region : Region) → is_run mapping region ≡ true → (first : Target) × IsRun mapping region first
is_run_tells mapping region h = by_first (mapping region.page) refl h
  where
    from_test : (a b : ℕ) → eqb a b ≡ true → a ≡ b
    from_test a b h = grind (arith, nat_tests)

    by_first : (o : Option Target) → mapping region.page ≡ o → runs_from mapping region o ≡ true → (first : Target) × IsRun mapping region first
    by_first None at test = absurd (false≢true test)
    by_first (Some first) at test =
        let parts = both_true (eqb (first.frame % span region.level) 0) (list_all (λ page. goes_to (mapping page) (first.frame + (page - region.page)) first.kind) (numbers region.page (span region.level))) test in (
          first,
          record {
            begins = at;
            aligned = from_test (first.frame % span region.level) 0 parts.0;
            each = λ page low high. goes_to_tells (mapping page) (first.frame + (page - region.page)) first.kind
                (all-numbers (λ page. goes_to (mapping page) (first.frame + (page - region.page)) first.kind) region.page (span region.level) parts.1 page low high);
          },
        )

pub is_run_from : (mapping : Map) (region : Region) (first : Target) → IsRun mapping region first → is_run mapping region ≡ true
is_run_from mapping region first run =
    ap (runs_from mapping region) run.begins
    ∙ joined (eqb (first.frame % span region.level) 0) _ (to_test (first.frame % span region.level) 0 run.aligned)
    (all-numbers-from_each (λ page. goes_to (mapping page) (first.frame + (page - region.page)) first.kind) region.page (span region.level)
    (λ page low high. ap (λ o. goes_to o (first.frame + (page - region.page)) first.kind) (run.each page low high) ∙ joined (eqb _ _) _ (to_test _ _ refl) (same_kind_refl first.kind)))
  where
    to_test : (a b : ℕ) → a ≡ b → eqb a b ≡ true
    to_test a b h = grind (arith, nat_tests)

    joined : (a b : Bool) → a ≡ true → b ≡ true → (a && b) ≡ true
    joined a b h k = rw (h, k) refl
