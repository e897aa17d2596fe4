-- Ranges that are laid into a bank in order.
use Rattle.std.proofs.Common.{◌≡◌, ℕ, ◌+◌, ◌<◌, ◌≤◌, Bool, true, false, ◌&&◌, ◌||◌, List, [], ◌∷◌, length, drop, get_or, refl, sym, ◌∙◌, arith}
use Rattle.std.specs.Prelude.{nat_lt}
use Rattle.std.proofs.lemmas.Bool.Decides.{nat_tests}
use Rattle.std.proofs.lemmas.List.{drop_more}
use Rattle.texts.specs.declared.ranges.BaseSize.{BaseSize}
use Rattle.ib_config_lint.specs.Rows.{crosses_behind}

-- a range that fits
pub fits : (before : ℕ) (range : BaseSize) (later : List BaseSize) → before + range.size ≤ 0xc0000000 → crosses_behind before (range ∷ later) ≡ crosses_behind (before + range.size) later
fits before range later within = let test : nat_lt 0xc0000000 (before + range.size) ≡ false = grind (arith, nat_tests) in by (nat_lt before 0xc0000000) test
  where
    by : (b : Bool) → nat_lt 0xc0000000 (before + range.size) ≡ false → ((b && nat_lt 0xc0000000 (before + range.size)) || crosses_behind (before + range.size) later) ≡ crosses_behind (before + range.size) later
    by true test = rw test refl
    by false test = refl

-- behind the end nothing crosses it
full : (before : ℕ) (ranges : List BaseSize) → 0xc0000000 ≤ before → crosses_behind before ranges ≡ false
full before [] behind = refl
full before (range ∷ later) behind =
    let test : nat_lt before 0xc0000000 ≡ false = grind (arith, nat_tests) in
    rw test (full (before + range.size) later (omega arith))

-- a range that ends behind the end crosses it if it begins before it
pub ends_behind : (before : ℕ) (range : BaseSize) (later : List BaseSize) → before ≤ 0xc0000000 → 0xc0000000 < before + range.size → crosses_behind before (range ∷ later) ≡ nat_lt before 0xc0000000
ends_behind before range later within past =
    let test : nat_lt 0xc0000000 (before + range.size) ≡ true = grind (arith, nat_tests) in
    rw (test, full (before + range.size) later (omega arith)) (by (nat_lt before 0xc0000000))
  where
    by : (b : Bool) → ((b && true) || false) ≡ b
    by true = refl
    by false = refl

-- the range at a place is the first that does not fit
pub first_past : (ranges : List BaseSize) (i used : ℕ) → i < length ranges → crosses_behind 0 ranges ≡ crosses_behind used (drop i ranges) → used ≤ 0xc0000000
    → 0xc0000000 < used + (get_or ranges i (record { base = 0; size = 0 })).size → nat_lt used 0xc0000000 ≡ crosses_behind 0 ranges
first_past ranges i used within so_far fit past =
    let none : BaseSize = record { base = 0; size = 0 } in
    sym (so_far ∙ rw (drop_more ranges i none within) (ends_behind used (get_or ranges i none) (drop (i + 1) ranges) fit past))
