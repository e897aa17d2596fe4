-- A list of few runs and many frames has a pair.
use Rattle.std.proofs.Common.{◌≡◌, ◌≢◌, ℕ, suc, ◌+◌, ◌-◌, ◌*◌, ◌<◌, ◌≤◌, ◌%◌, ◌⊎◌, ◌||◌, Bool, true, false, cond, leb, List, [], ◌∷◌, ◌++◌, length, length-append, append-nil, Some, refl, sym, ap, subst, ◌∙◌, arith, inl, inr}
use Rattle.std.proofs.lemmas.Bool.{false≢true}
use Rattle.std.proofs.lemmas.Bool.Decides.{leb_tells, eqb_tells}
use Rattle.std.specs.Prelude.{◌==◌}
use Rattle.std.specs.List.{find}
use Rattle.texts.specs.Consecutive.{numbers, is_in}
use Rattle.texts.specs.declared.ranges.FrameRange.{FrameRange}
use Rattle.texts.proofs.NumberLists.{length-numbers}
use Rattle.frame_alloc.specs.Frames.{frames_in, begins_group, without, lowest_group, lowest_pair}
use Rattle.frame_alloc.specs.Extents.{frames_of}
use Rattle.frame_alloc.specs.declared.extents.Extent.{Extent}
use Rattle.frame_alloc.proofs.Cuts.{pieces, cut, frames_of-cut, frames_of-one}
use Rattle.frame_alloc.proofs.Without.{is_within-in}
use Rattle.frame_alloc.proofs.FreeFrames.{is_in-append, is_in-numbers, is_in_nil, is_in_cons, begins_group-from}

-- a member that passes a test makes the test find something
find-member : (p : ℕ → Bool) (xs : List ℕ) (x : ℕ) → is_in xs x ≡ true → p x ≡ true → (first : ℕ) × (find p xs ≡ Some first)
find-member p [] x there pass = absurd (false≢true (sym (is_in_nil x) ∙ there))
find-member p (y ∷ ys) x there pass = choose (p y) refl (eqb_tells y x) (sym (is_in_cons x y ys) ∙ there) (λ deep. find-member p ys x deep pass)
  where
    choose : (b : Bool) → p y ≡ b → (((y == x) ≡ true) × (y ≡ x)) ⊎ (((y == x) ≡ false) × (y ≢ x)) → ((y == x) || is_in ys x) ≡ true → (is_in ys x ≡ true → (first : ℕ) × (find p ys ≡ Some first))
        → (first : ℕ) × (cond b (Some y) (find p ys) ≡ Some first)
    choose true hit _ _ rest = (y, refl)
    choose false miss (inl h) is rest = absurd (false≢true (sym miss ∙ ap p h.1 ∙ pass))
    choose false miss (inr h) is rest = rest (rw h.0 at is)

-- two members, the first even, make a pair
pub lowest_pair-from : (frames : List ℕ) (even : ℕ) → even % 2 ≡ 0 → is_in frames even ≡ true → is_in frames (even + 1) ≡ true → (first : ℕ) × (lowest_pair frames ≡ Some first)
unfolding lowest_group
lowest_pair-from frames even at here next =
    find-member (begins_group 2 frames) frames even here
    (begins_group-from 2 frames even at (λ k low high. which k low (eqb_tells even k) high))
  where
    which : (k : ℕ) → even ≤ k → (((even == k) ≡ true) × (even ≡ k)) ⊎ (((even == k) ≡ false) × (even ≢ k)) → k < even + 2 → is_in frames k ≡ true
    which k low (inl h) high = subst (λ j. is_in frames j ≡ true) h.1 here
    which k low (inr h) high = let apart : even ≢ k = h.1 in let at_next : even + 1 ≡ k = omega arith in subst (λ j. is_in frames j ≡ true) at_next next

-- three consecutive members hold a pair
pair_of_three : (frames : List ℕ) (x : ℕ) → ((k : ℕ) → x ≤ k → k < x + 3 → is_in frames k ≡ true) → (first : ℕ) × (lowest_pair frames ≡ Some first)
pair_of_three frames x all = by_parity (eqb_tells (x % 2) 0)
  where
    by_parity : (((x % 2 == 0) ≡ true) × (x % 2 ≡ 0)) ⊎ (((x % 2 == 0) ≡ false) × (x % 2 ≢ 0)) → (first : ℕ) × (lowest_pair frames ≡ Some first)
    by_parity (inl h) = lowest_pair-from frames x h.1 (all x (omega arith) (omega arith)) (all (x + 1) (omega arith) (omega arith))
    by_parity (inr h) = let odd : x % 2 ≢ 0 = h.1 in lowest_pair-from frames (x + 1) (omega arith) (all (x + 1) (omega arith) (omega arith)) (all (x + 1 + 1) (omega arith) (omega arith))

pair_in_runs : (frames : List ℕ) (es : List Extent) → ((k : ℕ) → is_in (frames_of es) k ≡ true → is_in frames k ≡ true) → 2 * length es < length (frames_of es) → (first : ℕ) × (lowest_pair frames ≡ Some first)
pair_in_runs frames [] all many = absurd (omega arith)
pair_in_runs frames (e ∷ es) all many = by_count (leb_tells 3 e.count) (λ more. pair_in_runs frames es (λ k there. all k (is_in-append (numbers e.first e.count) (frames_of es) k ∙ later k there)) more)
  where
    either : (b : Bool) → (b || true) ≡ true
    either true = refl
    either false = refl

    later : (k : ℕ) → is_in (frames_of es) k ≡ true → (is_in (numbers e.first e.count) k || is_in (frames_of es) k) ≡ true
    later k there = ap (λ b. is_in (numbers e.first e.count) k || b) there ∙ either (is_in (numbers e.first e.count) k)

    here : (k : ℕ) → e.first ≤ k → k < e.first + e.count → is_in (frames_of (e ∷ es)) k ≡ true
    here k low high =
        is_in-append (numbers e.first e.count) (frames_of es) k
        ∙ ap (λ b. b || is_in (frames_of es) k) (is_in-numbers e.first e.count k ∙ is_within-in e.first e.count k low high)

    by_count : ((leb 3 e.count ≡ true) × (3 ≤ e.count)) ⊎ ((leb 3 e.count ≡ false) × (e.count < 3)) → (2 * length es < length (frames_of es) → (first : ℕ) × (lowest_pair frames ≡ Some first)) → (first : ℕ) × (lowest_pair frames ≡ Some first)
    by_count (inl h) rest = let three : 3 ≤ e.count = h.1 in pair_of_three frames e.first (λ k low high. all k (here k low (omega arith)))
    by_count (inr h) rest =
        let few : e.count < 3 = h.1 in
        let len : length (frames_of (e ∷ es)) ≡ e.count + length (frames_of es) = length-append (numbers e.first e.count) (frames_of es) ∙ ap (λ n. n + length (frames_of es)) (length-numbers e.first e.count) in
        rest (omega arith)

-- more than two frames a run: one of the runs has three
pub lowest_pair-in_runs : (es : List Extent) → 2 * length es < length (frames_of es) → (first : ℕ) × (lowest_pair (frames_of es) ≡ Some first)
lowest_pair-in_runs es many = pair_in_runs (frames_of es) es (λ k there. there) many

length-pieces : (first count : ℕ) (e : Extent) → length (pieces first count e) ≤ 2
length-pieces first count e = by_test (leb (e.first + e.count) first) (leb (first + count) e.first) (leb (suc e.first) first) (leb (suc (first + count)) (e.first + e.count))
  where
    by_test : (below above left right : Bool) → length (cond below (e ∷ []) (cond above (e ∷ []) (cond left (record { first = e.first; count = first - e.first } ∷ []) [] ++ cond right (record { first = first + count; count = (e.first + e.count) - (first + count) } ∷ []) []))) ≤ 2
    by_test true above left right = omega arith
    by_test false true left right = omega arith
    by_test false false true true = omega arith
    by_test false false true false = omega arith
    by_test false false false true = omega arith
    by_test false false false false = omega arith

-- a range leaves at most two pieces of each run
pub length-cut : (first count : ℕ) (es : List Extent) → length (cut first count es) ≤ 2 * length es
length-cut first count [] = omega arith
length-cut first count (e ∷ es) =
    let here = length-pieces first count e in
    let rest = length-cut first count es in
    let len : length (cut first count (e ∷ es)) ≡ length (pieces first count e) + length (cut first count es) = length-append (pieces first count e) (cut first count es) in
    omega arith

-- consecutive frames without two ranges are four runs at most, so more than eight frames hold a pair
pub lowest_pair-without_two : (first count first_taken count_taken next_taken next_count : ℕ) →
    let frames : List ℕ = without next_taken next_count (without first_taken count_taken (numbers first count)) in
    8 < length frames → (pair : ℕ) × (lowest_pair frames ≡ Some pair)
lowest_pair-without_two first count a m b n many =
    let run : Extent = record { first = first; count = count } in
    let es : List Extent = cut b n (cut a m (run ∷ [])) in
    let same : frames_of es ≡ without b n (without a m (numbers first count)) = frames_of-cut b n (cut a m (run ∷ [])) ∙ ap (without b n) (frames_of-cut a m (run ∷ []) ∙ ap (without a m) (frames_of-one run)) in
    let once = length-cut a m (run ∷ []) in
    let twice = length-cut b n (cut a m (run ∷ [])) in
    let len = ap length same in
    let found = lowest_pair-in_runs es (omega arith) in
    (found.0, ap lowest_pair (sym same) ∙ found.1)

-- the frames of one range
pub frames_in-one : (range : FrameRange) → frames_in (range ∷ []) ≡ numbers range.first range.count
frames_in-one range = append-nil (numbers range.first range.count)
