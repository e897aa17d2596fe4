-- Lists of consecutive numbers, and maps over them.
use Rattle.std.proofs.Common.{◌≡◌, ℕ, zero, suc, ◌+◌, ◌<◌, ◌≤◌, Bool, true, false, List, [], ◌∷◌, ◌++◌, length, get_or, map, Some, None, refl, ap, arith, add-one, ⊎_elim, ◌⊎◌}
use Rattle.std.specs.List.{range_with_len, find}
use Rattle.std.proofs.lemmas.List.FromFn.{length-range_with_len, get_or-range_with_len, length-map-range_with_len, get_or-map-range_with_len, map-range_with_len_more, fill_by_all}
use Rattle.texts.specs.Consecutive.{numbers}

pub length-numbers : (a n : ℕ) → length (numbers a n) ≡ n
unfolding numbers
length-numbers a n = length-range_with_len a n

pub get_or-numbers : (a n i d : ℕ) → i < n → get_or (numbers a n) i d ≡ a + i
unfolding numbers
get_or-numbers a n i d h = get_or-range_with_len a n i d h

pub numbers-zero : (a : ℕ) → numbers a 0 ≡ []
unfolding numbers
numbers-zero a = refl

pub numbers-cons : (a n : ℕ) → numbers a (n + 1) ≡ a ∷ numbers (a + 1) n
unfolding numbers
numbers-cons a n = rw add-one refl

pub length-map-numbers : {X : Type 0} (f : ℕ → X) (a n : ℕ) → length (map f (numbers a n)) ≡ n
unfolding numbers
length-map-numbers f a n = length-map-range_with_len f a n

pub get_or-map-numbers : {X : Type 0} (f : ℕ → X) (a n i : ℕ) (d : X) → i < n → get_or (map f (numbers a n)) i d ≡ f (a + i)
unfolding numbers
get_or-map-numbers f a n i d h = get_or-map-range_with_len f a n i (a + i) d h refl

pub map-numbers-more : {X : Type 0} (f : ℕ → X) (a n : ℕ) → map f (numbers a (n + 1)) ≡ map f (numbers a n) ++ f (a + n) ∷ []
unfolding numbers
map-numbers-more f a n = map-range_with_len_more f a n (a + n) refl

-- a list that has the values of a function is the map of that function
pub map-numbers-from_all : {X : Type 0} (f : ℕ → X) (xs : List X) (n : ℕ) (d : X) → length xs ≡ n → ((k : ℕ) → k < n → get_or xs k d ≡ f k) → xs ≡ map f (numbers 0 n)
unfolding numbers
map-numbers-from_all f xs n d len all = fill_by_all f xs n d len all

same_over_range : {X : Type 0} (f g : ℕ → X) (a n : ℕ) → ((k : ℕ) → a ≤ k → k < a + n → f k ≡ g k) → map f (range_with_len a n) ≡ map g (range_with_len a n)
same_over_range f g a zero same = refl
same_over_range f g a (suc n) same =
    let first : f a ≡ g a = same a (omega arith) (omega arith) in
    let rest : map f (range_with_len (a + 1) n) ≡ map g (range_with_len (a + 1) n) = same_over_range f g (a + 1) n (λ k low high. same k (omega arith) (omega arith)) in
    cc

pub same-map-numbers : {X : Type 0} (f g : ℕ → X) (a n : ℕ) → ((k : ℕ) → a ≤ k → k < a + n → f k ≡ g k) → map f (numbers a n) ≡ map g (numbers a n)
unfolding numbers
same-map-numbers f g a n same = same_over_range f g a n same

map_map_range : {X Y : Type 0} (f : X → Y) (g : ℕ → X) (a n : ℕ) → map f (map g (range_with_len a n)) ≡ map (λ k. f (g k)) (range_with_len a n)
map_map_range f g a zero = refl
map_map_range f g a (suc n) = let rest = map_map_range f g (a + 1) n in cc

pub map-map-numbers : {X Y : Type 0} (f : X → Y) (g : ℕ → X) (a n : ℕ) → map f (map g (numbers a n)) ≡ map (λ k. f (g k)) (numbers a n)
unfolding numbers
map-map-numbers f g a n = map_map_range f g a n

find_in_range : {X : Type 0} (p : X → Bool) (g : ℕ → X) (a n k : ℕ) → a ≤ k → k < a + n → p (g k) ≡ true → ((j : ℕ) → a ≤ j → j < k → p (g j) ≡ false) → find p (map g (range_with_len a n)) ≡ Some (g k)
find_in_range p g a zero k low high here before = absurd (omega arith)
find_in_range p g a (suc n) k low high here before = ⊎_elim (λ (at : a ≡ k). first_hit p g a n k at here) (λ (past : a < k). next_hit p g a n k (before a (omega arith) past) (find_in_range p g (a + 1) n k (omega arith) (omega arith) here (λ j l h. before j (omega arith) h))) (at_or_past a k low)
  where
    first_hit : {X : Type 0} (p : X → Bool) (g : ℕ → X) (a n k : ℕ) → a ≡ k → p (g k) ≡ true → find p (map g (range_with_len a (suc n))) ≡ Some (g k)
    first_hit p g a n k at here = let e : p (g a) ≡ true = cc in let e2 : g a ≡ g k = cc in rw e (ap Some e2)

    next_hit : {X : Type 0} (p : X → Bool) (g : ℕ → X) (a n k : ℕ) → p (g a) ≡ false → find p (map g (range_with_len (a + 1) n)) ≡ Some (g k) → find p (map g (range_with_len a (suc n))) ≡ Some (g k)
    next_hit p g a n k miss rest = rw miss rest

    at_or_past : (a k : ℕ) → a ≤ k → (a ≡ k) ⊎ (a < k)
    at_or_past a k low = grind arith

-- the first number at which a test of its image holds
pub find-map-numbers : {X : Type 0} (p : X → Bool) (g : ℕ → X) (a n k : ℕ) → a ≤ k → k < a + n → p (g k) ≡ true → ((j : ℕ) → a ≤ j → j < k → p (g j) ≡ false) → find p (map g (numbers a n)) ≡ Some (g k)
unfolding numbers
find-map-numbers p g a n k low high here before = find_in_range p g a n k low high here before

find_none_in_range : {X : Type 0} (p : X → Bool) (g : ℕ → X) (a n : ℕ) → ((j : ℕ) → a ≤ j → j < a + n → p (g j) ≡ false) → find p (map g (range_with_len a n)) ≡ None
find_none_in_range p g a zero none = refl
find_none_in_range p g a (suc n) none =
    let here : p (g a) ≡ false = none a (omega arith) (omega arith) in
    rw here (find_none_in_range p g (a + 1) n (λ j l h. none j (omega arith) (omega arith)))

pub find-map-numbers-none : {X : Type 0} (p : X → Bool) (g : ℕ → X) (a n : ℕ) → ((j : ℕ) → a ≤ j → j < a + n → p (g j) ≡ false) → find p (map g (numbers a n)) ≡ None
unfolding numbers
find-map-numbers-none p g a n none = find_none_in_range p g a n none
