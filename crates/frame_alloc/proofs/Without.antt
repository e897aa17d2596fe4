-- What a range leaves of consecutive frames.
use Rattle.std.proofs.Common.{◌≡◌, ℕ, zero, suc, ◌+◌, ◌-◌, ◌<◌, ◌≤◌, ◌⊎◌, not, Bool, true, false, leb, List, [], ◌∷◌, ◌++◌, refl, sym, ap, ◌∙◌, arith, inl, inr, ⊎_elim}
use Rattle.std.specs.List.{range_with_len, filter}
use Rattle.std.proofs.lemmas.Bool.Decides.{nat_tests, leb_tells}
use Rattle.std.proofs.lemmas.List.Elements.{filter-append}
use Rattle.texts.specs.Consecutive.{numbers}
use Rattle.texts.proofs.NumberLists.{numbers-zero}
use Rattle.frame_alloc.specs.Frames.{is_within, without}

pub is_within-in : (first count frame : ℕ) → first ≤ frame → frame < first + count → is_within first count frame ≡ true
is_within-in first count frame low high =
    let a : leb first frame ≡ true = grind (arith, nat_tests) in
    let b : leb (suc frame) (first + count) ≡ true = grind (arith, nat_tests) in
    rw (a, b) refl

pub is_within-below : (first count frame : ℕ) → frame < first → is_within first count frame ≡ false
is_within-below first count frame low = let a : leb first frame ≡ false = grind (arith, nat_tests) in rw a refl

pub is_within-above : (first count frame : ℕ) → first + count ≤ frame → is_within first count frame ≡ false
is_within-above first count frame high =
    ⊎_elim (λ (h : (leb first frame ≡ true) × (first ≤ frame)). rw (h.0, above) refl) (λ (h : (leb first frame ≡ false) × (frame < first)). rw h.0 refl) (leb_tells first frame)
  where
    above : leb (suc frame) (first + count) ≡ false
    above = grind (arith, nat_tests)

pub without-append : (first count : ℕ) (xs ys : List ℕ) → without first count (xs ++ ys) ≡ without first count xs ++ without first count ys
unfolding without
without-append first count xs ys = filter-append (λ frame. not (is_within first count frame)) xs ys

filter_all_range : (p : ℕ → Bool) (a n : ℕ) → ((k : ℕ) → a ≤ k → k < a + n → p k ≡ true) → filter p (range_with_len a n) ≡ range_with_len a n
filter_all_range p a zero each = refl
filter_all_range p a (suc n) each =
    let here : p a ≡ true = each a (omega arith) (omega arith) in
    let rest : filter p (range_with_len (a + 1) n) ≡ range_with_len (a + 1) n = filter_all_range p (a + 1) n (λ k low high. each k (omega arith) (omega arith)) in
    rw here (ap (λ xs. a ∷ xs) rest)

filter_none_range : (p : ℕ → Bool) (a n : ℕ) → ((k : ℕ) → a ≤ k → k < a + n → p k ≡ false) → filter p (range_with_len a n) ≡ []
filter_none_range p a zero each = refl
filter_none_range p a (suc n) each =
    let here : p a ≡ false = each a (omega arith) (omega arith) in
    rw here (filter_none_range p (a + 1) n (λ k low high. each k (omega arith) (omega arith)))

-- frames below the range, above it and inside it
pub without-below : (first count a n : ℕ) → a + n ≤ first → without first count (numbers a n) ≡ numbers a n
unfolding without numbers
without-below first count a n low = filter_all_range (λ frame. not (is_within first count frame)) a n (λ k _ high. ap not (is_within-below first count k (omega arith)))

pub without-above : (first count a n : ℕ) → first + count ≤ a → without first count (numbers a n) ≡ numbers a n
unfolding without numbers
without-above first count a n high = filter_all_range (λ frame. not (is_within first count frame)) a n (λ k low _. ap not (is_within-above first count k (omega arith)))

pub without-inside : (first count a n : ℕ) → first ≤ a → a + n ≤ first + count → without first count (numbers a n) ≡ []
unfolding without numbers
without-inside first count a n low high = filter_none_range (λ frame. not (is_within first count frame)) a n (λ k l h. ap not (is_within-in first count k (omega arith) (omega arith)))

range_split : (a m n : ℕ) → range_with_len a (m + n) ≡ range_with_len a m ++ range_with_len (a + m) n
range_split a zero n = let e : 0 + n ≡ n = omega arith in let f : a + 0 ≡ a = omega arith in ap (range_with_len a) e ∙ ap (λ b. range_with_len b n) (sym f)
range_split a (suc m) n =
    let e : suc m + n ≡ suc (m + n) = omega arith in
    let f : (a + 1) + m ≡ a + suc m = omega arith in
    ap (range_with_len a) e ∙ ap (λ xs. a ∷ xs) (range_split (a + 1) m n ∙ ap (λ b. range_with_len (a + 1) m ++ range_with_len b n) f)

pub numbers-split : (a m n : ℕ) → numbers a (m + n) ≡ numbers a m ++ numbers (a + m) n
unfolding numbers
numbers-split a m n = range_split a m n

-- of no frames a range leaves none
pub without-nil : (first count : ℕ) → without first count [] ≡ []
unfolding without
without-nil first count = refl

low_or_none : (a first p : ℕ) → p ≡ first - a → (p ≡ 0) ⊎ (a + p ≤ first)
low_or_none a first p is = grind arith

top_or_none : (a n first count : ℕ) → a < first + count → first < a + n → let p : ℕ = first - a in let q : ℕ = (a + n) - (first + count) in (q ≡ 0) ⊎ ((a + p) + (n - p - q) ≡ first + count)
top_or_none a n first count low high = grind arith

-- consecutive frames that the range meets keep what is below it and what is above it
pub without-met : (first count a n : ℕ) → a < first + count → first < a + n → without first count (numbers a n) ≡ numbers a (first - a) ++ numbers (first + count) ((a + n) - (first + count))
without-met first count a n low high =
    let p : ℕ = first - a in
    let q : ℕ = (a + n) - (first + count) in
    let m : ℕ = n - p - q in
    let len : n ≡ p + (m + q) = omega arith in
    let cut_at : numbers a n ≡ numbers a p ++ (numbers (a + p) m ++ numbers ((a + p) + m) q) =
    ap (numbers a) len ∙ numbers-split a p (m + q) ∙ ap (λ xs. numbers a p ++ xs) (numbers-split (a + p) m q) in
    ap (without first count) cut_at
    ∙ without-append first count (numbers a p) (numbers (a + p) m ++ numbers ((a + p) + m) q)
    ∙ ap (λ xs. xs ++ without first count (numbers (a + p) m ++ numbers ((a + p) + m) q)) (without-low p (low_or_none a first p refl))
    ∙ ap (λ xs. numbers a p ++ xs) (without-append first count (numbers (a + p) m) (numbers ((a + p) + m) q)
    ∙ ap (λ xs. xs ++ without first count (numbers ((a + p) + m) q)) (without-inside first count (a + p) m (omega arith) (omega arith))
    ∙ last q ((a + p) + m) (top_or_none a n first count low high))
  where
    without-low : (p : ℕ) → (p ≡ 0) ⊎ (a + p ≤ first) → without first count (numbers a p) ≡ numbers a p
    without-low p (inl none) = ap (λ k. without first count (numbers a k)) none ∙ ap (without first count) (numbers-zero a) ∙ without-nil first count ∙ sym (ap (numbers a) none ∙ numbers-zero a)
    without-low p (inr low) = without-below first count a p low

    last : (q b : ℕ) → (q ≡ 0) ⊎ (b ≡ first + count) → without first count (numbers b q) ≡ numbers (first + count) q
    last q b (inl none) = ap (λ k. without first count (numbers b k)) none ∙ ap (without first count) (numbers-zero b) ∙ without-nil first count ∙ sym (ap (numbers (first + count)) none ∙ numbers-zero (first + count))
    last q b (inr at) = ap (λ c. without first count (numbers c q)) at ∙ without-above first count (first + count) q (omega arith)

pub without-zero : (first count : ℕ) (xs : List ℕ) → count ≡ 0 → without first count xs ≡ xs
unfolding without
without-zero first count [] none = refl
without-zero first count (x ∷ xs) none =
    let out : is_within first count x ≡ false = ⊎_elim (λ (h : (leb first x ≡ true) × (first ≤ x)). is_within-above first count x (omega arith)) (λ (h : (leb first x ≡ false) × (x < first)). is_within-below first count x h.1) (leb_tells first x) in
    rw out (ap (λ (ys : List ℕ). x ∷ ys) (without-zero first count xs none))
