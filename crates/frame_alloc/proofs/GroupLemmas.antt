-- How many chunks and how many frames a list of extents has.
use Rattle.std.proofs.Common.{◌≡◌, ◌≢◌, ℕ, zero, suc, ◌+◌, ◌-◌, ◌/◌, ◌^◌, ◌<◌, ◌≤◌, ◌%◌, ◌⊎◌, ◌&&◌, Bool, true, false, cond, leb, List, [], ◌∷◌, length, length-append, refl, sym, ap, ◌∙◌, arith, inl, inr}
use Rattle.std.proofs.lemmas.Bool.Decides.{leb_tells, eqb_tells}
use Rattle.std.proofs.lemmas.List.Sums.{sum_by-append, sum_by-cons}
use Rattle.std.specs.Prelude.{◌==◌, nat_le}
use Rattle.std.specs.List.{range_with_len, count_by, sum_by}
use Rattle.std.specs.Int.{div_ceil}
use Rattle.texts.specs.Consecutive.{numbers}
use Rattle.texts.proofs.NumberLists.{length-numbers}
use Rattle.frame_alloc.specs.Frames.{begins_group, chunk_count}
use Rattle.frame_alloc.specs.Extents.{frames_of, AreExtentsFrom}
use Rattle.frame_alloc.specs.declared.extents.Extent.{Extent}
use Rattle.frame_alloc.proofs.ExtentMembers.{IsFrom, is_in-past, free-in_extent}

-- whether a group begins at a frame of an extent
pub begins-in_extent : (size : ℕ) (all : List ℕ) (e : Extent) (es : List Extent) (start k : ℕ) → AreExtentsFrom start (e ∷ es) → IsFrom e.first all (e ∷ es) → e.first ≤ k → k < e.first + e.count →
    begins_group size all k ≡ ((k % size == 0) && nat_le (k + size) (e.first + e.count))
begins-in_extent size all e es start k ok same low high = ap (λ b. (k % size == 0) && b) (free-in_extent size all e es start k ok same low high)

-- how many multiples of 512 in an extent begin a chunk of it
abbrev pub chunks_of : Extent → ℕ
chunks_of e = (e.first + e.count) / 512 - div_ceil e.first 512

counted : (p : ℕ → Bool) (x : ℕ) (xs : List ℕ) (b : Bool) → p x ≡ b → count_by p (x ∷ xs) ≡ cond b 1 0 + count_by p xs
counted p x xs b is = sum_by-cons (λ y. cond (p y) 1 0) x xs ∙ ap (λ c. cond c 1 0 + count_by p xs) is

count_range : (p : ℕ → Bool) (end a n : ℕ) → a + n ≡ end → ((k : ℕ) → a ≤ k → k < a + n → p k ≡ ((k % 512 == 0) && nat_le (k + 512) end)) → count_by p (range_with_len a n) ≡ end / 512 - div_ceil a 512
count_range p end a zero at each = omega arith
count_range p end a (suc n) at each = by_test (eqb_tells (a % 512) 0) (leb_tells (a + 512) end) (each a (omega arith) (omega arith)) (count_range p end (a + 1) n (omega arith) (λ k low high. each k (omega arith) (omega arith)))
  where
    by_test : (((a % 512 == 0) ≡ true) × (a % 512 ≡ 0)) ⊎ (((a % 512 == 0) ≡ false) × (a % 512 ≢ 0)) → ((leb (a + 512) end ≡ true) × (a + 512 ≤ end)) ⊎ ((leb (a + 512) end ≡ false) × (end < a + 512)) → p a ≡ ((a % 512 == 0) && nat_le (a + 512) end)
        → count_by p (range_with_len (a + 1) n) ≡ end / 512 - div_ceil (a + 1) 512 → count_by p (range_with_len a (suc n)) ≡ end / 512 - div_ceil a 512
    by_test (inl h) (inl k) test rest = let here : p a ≡ true = rw (h.0, k.0) at test in let is : a % 512 ≡ 0 = h.1 in let fits : a + 512 ≤ end = k.1 in let step : count_by p (range_with_len a (suc n)) ≡ 1 + count_by p (range_with_len (a + 1) n) = counted p a (range_with_len (a + 1) n) true here in omega arith
    by_test (inl h) (inr k) test rest = let here : p a ≡ false = rw (h.0, k.0) at test in let is : a % 512 ≡ 0 = h.1 in let short : end < a + 512 = k.1 in let step : count_by p (range_with_len a (suc n)) ≡ 0 + count_by p (range_with_len (a + 1) n) = counted p a (range_with_len (a + 1) n) false here in omega arith
    by_test (inr h) _ test rest = let here : p a ≡ false = rw h.0 at test in let is : a % 512 ≢ 0 = h.1 in let step : count_by p (range_with_len a (suc n)) ≡ 0 + count_by p (range_with_len (a + 1) n) = counted p a (range_with_len (a + 1) n) false here in omega arith

-- the frames that begin a chunk are counted extent by extent
count_chunks : (all : List ℕ) (es : List Extent) (start : ℕ) → AreExtentsFrom start es → IsFrom start all es → count_by (begins_group 512 all) (frames_of es) ≡ sum_by chunks_of es
unfolding numbers
count_chunks all [] start ok same = refl
count_chunks all (e ∷ es) start ok same =
    let begins : start ≤ e.first = ok.0 in
    let from : IsFrom e.first all (e ∷ es) = λ x low. same x (omega arith) in
    sum_by-append (λ k. cond (begins_group 512 all k) 1 0) (numbers e.first e.count) (frames_of es)
    ∙ ap (λ n. n + count_by (begins_group 512 all) (frames_of es)) (count_range (begins_group 512 all) (e.first + e.count) e.first e.count refl (λ k low high. begins-in_extent 512 all e es start k ok from low high))
    ∙ ap (λ n. chunks_of e + n) (count_chunks all es (e.first + e.count + 1) ok.3 (λ x low. from x (omega arith) ∙ is_in-past e es start x ok (omega arith)))
    ∙ sym (sum_by-cons chunks_of e es)

pub chunk_count-extents : (es : List Extent) → AreExtentsFrom 0 es → chunk_count (frames_of es) ≡ sum_by chunks_of es
unfolding chunk_count
chunk_count-extents es ok = count_chunks (frames_of es) es 0 ok (λ x low. refl)

-- all frames of the extents lie below 2^28, so there are no more of them than that
frames_within : (es : List Extent) (start : ℕ) → AreExtentsFrom start es → start ≤ 2 ^ 28 + 1 → sum_by (λ (e : Extent). e.count) es + start ≤ 2 ^ 28 + 1
frames_within [] start ok low = omega arith
frames_within (e ∷ es) start ok low =
    let begins : start ≤ e.first = ok.0 in
    let ends : e.first + e.count ≤ 2 ^ 28 = ok.2 in
    let rest : sum_by (λ (e : Extent). e.count) es + (e.first + e.count + 1) ≤ 2 ^ 28 + 1 = frames_within es (e.first + e.count + 1) ok.3 (omega arith) in
    let step = sum_by-cons (λ (e : Extent). e.count) e es in
    omega arith

pub count-bound : (es : List Extent) → AreExtentsFrom 0 es → sum_by (λ (e : Extent). e.count) es < 2 ^ 64
count-bound es ok = let all = frames_within es 0 ok (omega arith) in omega arith

chunks-bound_from : (es : List Extent) → sum_by chunks_of es ≤ sum_by (λ (e : Extent). e.count) es
chunks-bound_from [] = omega arith
chunks-bound_from (e ∷ es) =
    let rest = chunks-bound_from es in
    let step = sum_by-cons chunks_of e es in
    let frames = sum_by-cons (λ (e : Extent). e.count) e es in
    omega arith

pub chunks-bound : (es : List Extent) → AreExtentsFrom 0 es → sum_by chunks_of es < 2 ^ 64
chunks-bound es ok = let all = count-bound es ok in let fewer = chunks-bound_from es in omega arith

-- the frames are counted extent by extent
pub length-frames_of : (es : List Extent) → length (frames_of es) ≡ sum_by (λ (e : Extent). e.count) es
length-frames_of [] = refl
length-frames_of (e ∷ es) = length-append (numbers e.first e.count) (frames_of es) ∙ ap (λ n. n + length (frames_of es)) (length-numbers e.first e.count) ∙ ap (λ n. e.count + n) (length-frames_of es) ∙ sym (sum_by-cons (λ (e : Extent). e.count) e es)
