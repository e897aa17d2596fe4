-- Steps that are done by index.
use Rattle.std.proofs.Common.{◌≡◌, ◌∙◌, ap, refl, ℕ, zero, suc, ◌+◌, length, List, [], ◌∷◌, Option, Some, None, Result, Ok, Err, drop, slice_get, arith}
use Rattle.overlaid_trees.specs.Turns.{each, all}

-- the items from an index on begin with the item there
pub from-index : {A : Type 0} (xs : List A) (i : ℕ) (x : A) → slice_get xs i ≡ Some x → drop i xs ≡ x ∷ drop (i + 1) xs
from-index [] i x at = absurd (cc)
from-index (y ∷ xs) zero x at = let same : y ≡ x = cc in ap (λ z. z ∷ xs) same
from-index (y ∷ xs) (suc i) x at =
    let more : suc i + 1 ≡ suc (i + 1) = omega arith in
    from-index xs i x at ∙ ap (λ n. x ∷ drop n (y ∷ xs)) (next more)
  where
    next : suc i + 1 ≡ suc (i + 1) → suc (i + 1) ≡ suc i + 1
    next e = omega arith

-- no item is left
pub from-end : {A : Type 0} (xs : List A) → drop (length xs) xs ≡ []
from-end [] = refl
from-end (x ∷ xs) = from-end xs

-- one item more is done
pub all-next : {A S : Type 0} (step : S → A → Option S) (state next : S) (xs : List A) (i : ℕ) (x : A) → slice_get xs i ≡ Some x → step state x ≡ Some next → all step state (drop i xs) ≡ all step next (drop (i + 1) xs)
all-next step state next xs i x at is =
    ap (all step state) (from-index xs i x at) ∙ ap (λ o. elim o [ Some done ↦ all step done (drop (i + 1) xs) | None ↦ None ]) is

-- an item is at fault
pub all-stop : {A S : Type 0} (step : S → A → Option S) (state : S) (xs : List A) (i : ℕ) (x : A) → slice_get xs i ≡ Some x → step state x ≡ None → all step state (drop i xs) ≡ None
all-stop step state xs i x at is =
    ap (all step state) (from-index xs i x at) ∙ ap (λ o. elim o [ Some done ↦ all step done (drop (i + 1) xs) | None ↦ None ]) is

-- all items are done
pub all-end : {A S : Type 0} (step : S → A → Option S) (state : S) (xs : List A) (i : ℕ) → i ≡ length xs → all step state (drop i xs) ≡ Some state
all-end step state xs i end = ap (λ n. all step state (drop n xs)) end ∙ ap (all step state) (from-end xs)

-- one item more is done
pub each-next : {A S E : Type 0} (step : S → A → Result S E) (state next : S) (xs : List A) (i : ℕ) (x : A) → slice_get xs i ≡ Some x → step state x ≡ Ok next → each step state (drop i xs) ≡ each step next (drop (i + 1) xs)
each-next step state next xs i x at is =
    ap (each step state) (from-index xs i x at) ∙ ap (λ o. elim o [ Ok done ↦ each step done (drop (i + 1) xs) | Err fault ↦ Err fault ]) is

-- an item is refused
pub each-stop : {A S E : Type 0} (step : S → A → Result S E) (state : S) (fault : E) (xs : List A) (i : ℕ) (x : A) → slice_get xs i ≡ Some x → step state x ≡ Err fault → each step state (drop i xs) ≡ Err fault
each-stop step state fault xs i x at is =
    ap (each step state) (from-index xs i x at) ∙ ap (λ o. elim o [ Ok done ↦ each step done (drop (i + 1) xs) | Err other ↦ Err other ]) is

-- all items are done
pub each-end : {A S E : Type 0} (step : S → A → Result S E) (state : S) (xs : List A) (i : ℕ) → i ≡ length xs → each step state (drop i xs) ≡ Ok state
each-end step state xs i end = ap (λ n. each step state (drop n xs)) end ∙ ap (each step state) (from-end xs)
