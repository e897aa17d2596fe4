-- Taking a range away from ascending frames takes no more frames than the range has.
use Rattle.std.proofs.Common.{◌≡◌, ℕ, ◌+◌, ◌-◌, ◌<◌, ◌≤◌, ◌⊎◌, not, Bool, true, false, cond, max, List, [], ◌∷◌, length, ap, ◌∙◌, arith, inl, inr}
use Rattle.std.specs.List.{filter}
use Rattle.frame_alloc.specs.Frames.{AreFrames, AreFramesFrom, is_within, without}
use Rattle.frame_alloc.proofs.Without.{is_within-in, is_within-below, is_within-above}

where_is : (first count x : ℕ) → ((x < first) ⊎ ((first ≤ x) × (x < first + count))) ⊎ (first + count ≤ x)
where_is first count x = grind arith

without-kept : (first count x : ℕ) (xs : List ℕ) → is_within first count x ≡ false → without first count (x ∷ xs) ≡ x ∷ without first count xs
unfolding without
without-kept first count x xs out = ap (λ (b : Bool). cond (not b) (x ∷ filter (λ frame. not (is_within first count frame)) xs) (filter (λ frame. not (is_within first count frame)) xs)) out

without-gone : (first count x : ℕ) (xs : List ℕ) → is_within first count x ≡ true → without first count (x ∷ xs) ≡ without first count xs
unfolding without
without-gone first count x xs inside = ap (λ (b : Bool). cond (not b) (x ∷ filter (λ frame. not (is_within first count frame)) xs) (filter (λ frame. not (is_within first count frame)) xs)) inside

few_taken : (first count left : ℕ) (xs : List ℕ) (start : ℕ) → AreFramesFrom start xs → first + count ≤ max start first + left → length xs ≤ length (without first count xs) + left
few_taken first count left [] start up within = omega arith
few_taken first count left (x ∷ xs) start up within = by_place (λ n fits. few_taken first count n xs (x + 1) up.2 fits) (where_is first count x)
  where
    kept : is_within first count x ≡ false → length xs ≤ length (without first count xs) + left → length (x ∷ xs) ≤ length (without first count (x ∷ xs)) + left
    kept out rest = let same : length (without first count (x ∷ xs)) ≡ length (without first count xs) + 1 = ap (λ (list : List ℕ). length list) (without-kept first count x xs out) ∙ omega arith in omega arith

    by_place : ((n : ℕ) → first + count ≤ max (x + 1) first + n → length xs ≤ length (without first count xs) + n) → ((x < first) ⊎ ((first ≤ x) × (x < first + count))) ⊎ (first + count ≤ x) → length (x ∷ xs) ≤ length (without first count (x ∷ xs)) + left
    by_place rest (inl (inl low)) =
        let begins : start ≤ x = up.0 in
        kept (is_within-below first count x low) (rest left (omega arith))
    by_place rest (inl (inr h)) =
        let begins : start ≤ x = up.0 in
        let low : first ≤ x = h.0 in
        let high : x < first + count = h.1 in
        let fewer : length xs ≤ length (without first count xs) + (left - 1) = rest (left - 1) (omega arith) in
        let same : length (without first count (x ∷ xs)) ≡ length (without first count xs) = ap (λ (list : List ℕ). length list) (without-gone first count x xs (is_within-in first count x low high)) in
        omega arith
    by_place rest (inr high) =
        let begins : start ≤ x = up.0 in
        kept (is_within-above first count x high) (rest left (omega arith))

pub length-without : (first count : ℕ) (frames : List ℕ) → AreFrames frames → length frames ≤ length (without first count frames) + count
length-without first count frames up = few_taken first count count frames 0 up (omega arith)
