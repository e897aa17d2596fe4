-- Numbers that pass a test, one after the other.
use Rattle.std.proofs.Common.{◌≡◌, ℕ, ◌+◌, ◌-◌, ◌<◌, ◌≤◌, Bool, true, false, cond, List, [], ◌∷◌, ◌++◌, refl, sym, ap, ◌∙◌, arith, append_assoc, append-nil}
use Rattle.std.specs.Prelude.{filter}
use Rattle.std.specs.Prelude.{◌==◌, ◌||◌, ◌&&◌, Some}
use Rattle.std.specs.List.{list_any}
use Rattle.std.proofs.lemmas.List.Folds.{list_any-append}
use Rattle.described.specs.declared.item.What.{What}
use Rattle.described.specs.declared.item.What.TheVariants as whats
use Rattle.item_checks.specs.Taken.{Passed, what_of, belongs_to}
use Rattle.item_checks.specs.Reasons.{is_irq}
use Rattle.domain_plan.specs.Plans.{said_by}
use Rattle.domain_plan.specs.PrivateGiving.{irq_of}
use Rattle.texts.specs.Consecutive.{numbers}
use Rattle.texts.proofs.NumberLists.{numbers-zero, numbers-cons}

front : (test : ℕ → Bool) (end i : ℕ) → i < end → filter test (numbers i (end - i)) ≡ cond (test i) (i ∷ filter test (numbers (i + 1) (end - (i + 1)))) (filter test (numbers (i + 1) (end - (i + 1))))
front test end i low =
    let one : end - i ≡ end - (i + 1) + 1 = omega arith in
    ap (λ (n : ℕ). filter test (numbers i n)) one ∙ ap (filter test) (numbers-cons i (end - (i + 1)))

pub spis_pushed : (test : ℕ → Bool) (xs : List ℕ) (end i : ℕ) → i < end → test i ≡ true → (xs ++ i ∷ []) ++ filter test (numbers (i + 1) (end - (i + 1))) ≡ xs ++ filter test (numbers i (end - i))
spis_pushed test xs end i low pass =
    append_assoc xs (i ∷ []) (filter test (numbers (i + 1) (end - (i + 1))))
    ∙ ap (λ (ys : List ℕ). xs ++ ys) (sym (front test end i low ∙ ap (λ (b : Bool). cond b (i ∷ filter test (numbers (i + 1) (end - (i + 1)))) (filter test (numbers (i + 1) (end - (i + 1))))) pass))

pub spis_passed : (test : ℕ → Bool) (xs : List ℕ) (end i : ℕ) → i < end → test i ≡ false → xs ++ filter test (numbers (i + 1) (end - (i + 1))) ≡ xs ++ filter test (numbers i (end - i))
spis_passed test xs end i low pass =
    ap (λ (ys : List ℕ). xs ++ ys) (sym (front test end i low ∙ ap (λ (b : Bool). cond b (i ∷ filter test (numbers (i + 1) (end - (i + 1)))) (filter test (numbers (i + 1) (end - (i + 1))))) pass))

pub spis_end : (test : ℕ → Bool) (xs : List ℕ) (end i : ℕ) → end ≤ i → xs ++ filter test (numbers i (end - i)) ≡ xs
spis_end test xs end i past =
    let none : end - i ≡ 0 = omega arith in
    ap (λ (n : ℕ). xs ++ filter test (numbers i n)) none ∙ ap (λ (ys : List ℕ). xs ++ filter test ys) (numbers-zero i) ∙ append-nil xs

pub spis_step : (test : ℕ → Bool) (xs : List ℕ) (end i : ℕ) (asked : Bool) → i < end → asked ≡ test i → cond asked (xs ++ i ∷ []) xs ++ filter test (numbers (i + 1) (end - (i + 1))) ≡ xs ++ filter test (numbers i (end - i))
spis_step test xs end i true low is = spis_pushed test xs end i low (sym is)
spis_step test xs end i false low is = spis_passed test xs end i low (sym is)

pub filter_same : (p q : ℕ → Bool) (xs : List ℕ) → ((x : ℕ) → p x ≡ q x) → filter p xs ≡ filter q xs
filter_same p q [] same = refl
filter_same p q (x ∷ xs) same = rw (same x, filter_same p q xs same) refl

one_irq : (spi : ℕ) (what : What) → list_any (λ (irq : ℕ). irq == spi) (irq_of what) ≡ is_irq spi what
one_irq spi what = elim what as (λ (w : What). list_any (λ (irq : ℕ). irq == spi) (irq_of w) ≡ is_irq spi w) [
  | whats.Irq number ↦ alone (number == spi)
  | _ ↦ refl
]
  where
    alone : (b : Bool) → (b || false) ≡ b
    alone true = refl
    alone false = refl

-- whether a number is among the interrupts of a guest
pub irqs_tell : (number spi : ℕ) (passed : List Passed) → list_any (λ (irq : ℕ). irq == spi) (said_by passed number irq_of) ≡ list_any (λ (one : Passed). belongs_to (Some number) one && is_irq spi (what_of one)) passed
irqs_tell number spi [] = refl
irqs_tell number spi (p ∷ ps) = by_belongs (belongs_to (Some number) p) (irqs_tell number spi ps)
  where
    by_belongs : (b : Bool) → list_any (λ (irq : ℕ). irq == spi) (said_by ps number irq_of) ≡ list_any (λ (one : Passed). belongs_to (Some number) one && is_irq spi (what_of one)) ps →
        list_any (λ (irq : ℕ). irq == spi) (cond b (irq_of (what_of p)) [] ++ said_by ps number irq_of) ≡ ((b && is_irq spi (what_of p)) || list_any (λ (one : Passed). belongs_to (Some number) one && is_irq spi (what_of one)) ps)
    by_belongs true later = list_any-append (λ (irq : ℕ). irq == spi) (irq_of (what_of p)) (said_by ps number irq_of) ∙ rw (one_irq spi (what_of p), later) refl
    by_belongs false later = later
