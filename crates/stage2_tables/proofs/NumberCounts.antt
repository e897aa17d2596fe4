-- Counting consecutive numbers that pass a test.
use Rattle.std.proofs.Common.{◌≡◌, ℕ, zero, suc, ◌+◌, ◌<◌, ◌≤◌, ◌⊎◌, ◌||◌, Bool, true, false, cond, List, [], ◌∷◌, ◌++◌, map, refl, sym, ap, ◌∙◌, arith, inl, inr}
use Rattle.std.specs.List.{range_with_len, list_any, count_by}
use Rattle.std.proofs.lemmas.List.Sums.{sum_by-append}
use Rattle.texts.specs.Consecutive.{numbers}

any_same_range : (p q : ℕ → Bool) (a n : ℕ) → ((k : ℕ) → a ≤ k → k < a + n → p k ≡ q k) → list_any p (range_with_len a n) ≡ list_any q (range_with_len a n)
any_same_range p q a zero same = refl
any_same_range p q a (suc n) same =
    let first : p a ≡ q a = same a (omega arith) (omega arith) in
    let rest : list_any p (range_with_len (a + 1) n) ≡ list_any q (range_with_len (a + 1) n) = any_same_range p q (a + 1) n (λ k low high. same k (omega arith) (omega arith)) in
    ap (λ (b : Bool). b || list_any p (range_with_len (a + 1) n)) first ∙ ap (λ (b : Bool). q a || b) rest

any_none_range : (a n : ℕ) → list_any (λ (_ : ℕ). false) (range_with_len a n) ≡ false
any_none_range a zero = refl
any_none_range a (suc n) = any_none_range (a + 1) n

-- no number passes a test that fails each
pub any-numbers-none : (p : ℕ → Bool) (a n : ℕ) → ((k : ℕ) → a ≤ k → k < a + n → p k ≡ false) → list_any p (numbers a n) ≡ false
unfolding numbers
any-numbers-none p a n none = any_same_range p (λ (_ : ℕ). false) a n none ∙ any_none_range a n

split : (a k : ℕ) → a ≤ k → (a ≡ k) ⊎ (a < k)
split a k low = grind arith

any_some_range : (p : ℕ → Bool) (a n k : ℕ) → a ≤ k → k < a + n → p k ≡ true → list_any p (range_with_len a n) ≡ true
any_some_range p a zero k low high holds = absurd (omega arith)
any_some_range p a (suc n) k low high holds = here_or_later (λ past. any_some_range p (a + 1) n k (omega arith) (omega arith) holds) (split a k low)
  where
    or_true : (b c : Bool) → c ≡ true → (b || c) ≡ true
    or_true true c h = refl
    or_true false c h = h

    here_or_later : (a < k → list_any p (range_with_len (a + 1) n) ≡ true) → (a ≡ k) ⊎ (a < k) → (p a || list_any p (range_with_len (a + 1) n)) ≡ true
    here_or_later rest (inl same) = let here : p a ≡ true = ap p same ∙ holds in rw here refl
    here_or_later rest (inr past) = or_true (p a) (list_any p (range_with_len (a + 1) n)) (rest past)

-- some number passes where one does
pub any-numbers-some : (p : ℕ → Bool) (a n k : ℕ) → a ≤ k → k < a + n → p k ≡ true → list_any p (numbers a n) ≡ true
unfolding numbers
any-numbers-some p a n k low high holds = any_some_range p a n k low high holds

pub count-append : {X : Type 0} (p : X → Bool) (xs ys : List X) → count_by p (xs ++ ys) ≡ count_by p xs + count_by p ys
count-append p xs ys = sum_by-append (λ x. cond (p x) 1 0) xs ys

pub count-cons : {X : Type 0} (p : X → Bool) (x : X) (xs : List X) → count_by p (x ∷ xs) ≡ cond (p x) 1 0 + count_by p xs
count-cons p x xs = sum_by-append (λ y. cond (p y) 1 0) (x ∷ []) xs ∙ ap (λ (n : ℕ). n + count_by p xs) (one (cond (p x) 1 0))
  where
    one : (n : ℕ) → 0 + n ≡ n
    one n = omega arith

pub count-map : {X Y : Type 0} (p : Y → Bool) (f : X → Y) (xs : List X) → count_by p (map f xs) ≡ count_by (λ x. p (f x)) xs
count-map p f [] = refl
count-map p f (x ∷ xs) = count-cons p (f x) (map f xs) ∙ ap (λ (n : ℕ). cond (p (f x)) 1 0 + n) (count-map p f xs) ∙ sym (count-cons (λ y. p (f y)) x xs)

count_same_range : (p q : ℕ → Bool) (a n : ℕ) → ((k : ℕ) → a ≤ k → k < a + n → p k ≡ q k) → count_by p (range_with_len a n) ≡ count_by q (range_with_len a n)
count_same_range p q a zero same = refl
count_same_range p q a (suc n) same =
    let first : p a ≡ q a = same a (omega arith) (omega arith) in
    let rest : count_by p (range_with_len (a + 1) n) ≡ count_by q (range_with_len (a + 1) n) = count_same_range p q (a + 1) n (λ k low high. same k (omega arith) (omega arith)) in
    count-cons p a (range_with_len (a + 1) n) ∙ ap (λ (b : Bool). cond b 1 0 + count_by p (range_with_len (a + 1) n)) first
    ∙ ap (λ (m : ℕ). cond (q a) 1 0 + m) rest ∙ sym (count-cons q a (range_with_len (a + 1) n))

count_none_range : (a n : ℕ) → count_by (λ (_ : ℕ). false) (range_with_len a n) ≡ 0
count_none_range a zero = refl
count_none_range a (suc n) = let rest = count_none_range (a + 1) n in count-cons (λ (_ : ℕ). false) a (range_with_len (a + 1) n) ∙ omega arith

-- none is counted where each fails
pub count-numbers-none : (p : ℕ → Bool) (a n : ℕ) → ((k : ℕ) → a ≤ k → k < a + n → p k ≡ false) → count_by p (numbers a n) ≡ 0
unfolding numbers
count-numbers-none p a n none = count_same_range p (λ (_ : ℕ). false) a n none ∙ count_none_range a n
