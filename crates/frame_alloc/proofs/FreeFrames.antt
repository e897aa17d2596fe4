-- Members of lists of frames, and what a draw tells of the list that it draws from.
use Rattle.std.proofs.Common.{◌≡◌, ◌≢◌, ℕ, zero, suc, ◌+◌, ◌^◌, ◌<◌, ◌≤◌, ◌%◌, ◌⊎◌, ◌&&◌, ◌||◌, not, Bool, true, false, cond, leb, List, [], ◌∷◌, ◌++◌, drop, Some, refl, sym, ap, subst, ◌∙◌, arith, inl, inr}
use Rattle.std.proofs.Math.Bool.{and-false}
use Rattle.std.proofs.lemmas.Bool.{false≢true}
use Rattle.std.proofs.lemmas.Bool.Decides.{leb_tells, eqb_tells}
use Rattle.std.proofs.lemmas.List.Folds.{list_any-append}
use Rattle.std.specs.Prelude.{◌==◌}
use Rattle.std.specs.List.{range_with_len, filter, find, list_any, list_all}
use Rattle.texts.specs.Consecutive.{numbers, is_in}
use Rattle.frame_alloc.specs.Frames.{AreFrames, AreFramesFrom, is_within, without, begins_run, begins_group, lowest_frame, lowest_run, lowest_group, lowest_pair}
use Rattle.frame_alloc.proofs.Without.{is_within-in, is_within-below, is_within-above}

-- no frame is in the empty list
pub is_in_nil : (x : ℕ) → is_in [] x ≡ false
unfolding is_in
is_in_nil x = refl

pub is_in-append : (xs ys : List ℕ) (x : ℕ) → is_in (xs ++ ys) x ≡ (is_in xs x || is_in ys x)
unfolding is_in
is_in-append xs ys x = list_any-append (λ other. other == x) xs ys

is_in_range : (a n x : ℕ) → list_any (λ other. other == x) (range_with_len a n) ≡ is_within a n x
is_in_range a zero x = none (leb_tells a x)
  where
    none : ((leb a x ≡ true) × (a ≤ x)) ⊎ ((leb a x ≡ false) × (x < a)) → false ≡ is_within a 0 x
    none (inl h) = sym (is_within-above a 0 x (omega arith))
    none (inr h) = sym (is_within-below a 0 x h.1)
is_in_range a (suc n) x = by_test (eqb_tells a x) (leb_tells a x) (is_in_range (a + 1) n x)
  where
    past : a ≢ x → ((leb a x ≡ true) × (a ≤ x)) ⊎ ((leb a x ≡ false) × (x < a)) → is_within (a + 1) n x ≡ is_within a (suc n) x
    past apart (inr h) = is_within-below (a + 1) n x (omega arith) ∙ sym (is_within-below a (suc n) x h.1)
    past apart (inl h) = above (leb_tells (a + suc n) x)
      where
        above : ((leb (a + suc n) x ≡ true) × (a + suc n ≤ x)) ⊎ ((leb (a + suc n) x ≡ false) × (x < a + suc n)) → is_within (a + 1) n x ≡ is_within a (suc n) x
        above (inl k) = is_within-above (a + 1) n x (omega arith) ∙ sym (is_within-above a (suc n) x k.1)
        above (inr k) = is_within-in (a + 1) n x (omega arith) (omega arith) ∙ sym (is_within-in a (suc n) x h.1 k.1)

    by_test : (((a == x) ≡ true) × (a ≡ x)) ⊎ (((a == x) ≡ false) × (a ≢ x)) → ((leb a x ≡ true) × (a ≤ x)) ⊎ ((leb a x ≡ false) × (x < a)) → list_any (λ other. other == x) (range_with_len (a + 1) n) ≡ is_within (a + 1) n x
        → list_any (λ other. other == x) (range_with_len a (suc n)) ≡ is_within a (suc n) x
    by_test (inl h) _ rest = rw h.0 (sym (is_within-in a (suc n) x (omega arith) (omega arith)))
    by_test (inr h) low rest = rw h.0 (rest ∙ past h.1 low)

-- the members of consecutive numbers
pub is_in-numbers : (first count frame : ℕ) → is_in (numbers first count) frame ≡ is_within first count frame
unfolding is_in numbers
is_in-numbers first count frame = is_in_range first count frame

filter_member : (p : ℕ → Bool) (xs : List ℕ) (x : ℕ) → list_any (λ other. other == x) (filter p xs) ≡ (list_any (λ other. other == x) xs && p x)
filter_member p [] x = refl
filter_member p (y ∷ ys) x = by_test (eqb_tells y x) (p y) refl (filter_member p ys x)
  where
    by_test : (((y == x) ≡ true) × (y ≡ x)) ⊎ (((y == x) ≡ false) × (y ≢ x)) → (b : Bool) → p y ≡ b → list_any (λ other. other == x) (filter p ys) ≡ (list_any (λ other. other == x) ys && p x)
        → list_any (λ other. other == x) (cond b (y ∷ filter p ys) (filter p ys)) ≡ (((y == x) || list_any (λ other. other == x) ys) && p x)
    by_test (inl h) true pass rest = let same : p x ≡ true = ap p (sym h.1) ∙ pass in rw (h.0, same) refl
    by_test (inl h) false pass rest = let same : p x ≡ false = ap p (sym h.1) ∙ pass in rest ∙ rw (h.0, same) (and-false (list_any (λ other. other == x) ys))
    by_test (inr h) true pass rest = rw h.0 rest
    by_test (inr h) false pass rest = rw h.0 rest

-- the members of what a range leaves: those that are not within it
pub is_in-without : (first count : ℕ) (frames : List ℕ) (frame : ℕ) → is_in (without first count frames) frame ≡ (is_in frames frame && not (is_within first count frame))
unfolding is_in without
is_in-without first count frames frame = filter_member (λ other. not (is_within first count other)) frames frame

both_true : (a b : Bool) → (a && b) ≡ true → (a ≡ true) × (b ≡ true)
both_true true b h = (refl, h)
both_true false b h = absurd (false≢true h)

not_true : (b : Bool) → not b ≡ true → b ≡ false
not_true true h = absurd (false≢true h)
not_true false h = refl

-- what is left after a range is taken away was there, and is not of the range
pub is_in-from_without : (first count : ℕ) (frames : List ℕ) (frame : ℕ) → is_in (without first count frames) frame ≡ true → (is_in frames frame ≡ true) × (is_within first count frame ≡ false)
is_in-from_without first count frames frame there =
    let both = both_true (is_in frames frame) (not (is_within first count frame)) (sym (is_in-without first count frames frame) ∙ there) in
    (both.0, not_true (is_within first count frame) both.1)

-- a frame of the range is no longer there
pub is_in-without_taken : (first count : ℕ) (frames : List ℕ) (frame : ℕ) → first ≤ frame → frame < first + count → is_in (without first count frames) frame ≡ false
is_in-without_taken first count frames frame low high =
    is_in-without first count frames frame ∙ ap (λ b. is_in frames frame && not b) (is_within-in first count frame low high) ∙ and-false (is_in frames frame)

pub AreFramesFrom-weaker : (frames : List ℕ) (low high : ℕ) → low ≤ high → AreFramesFrom high frames → AreFramesFrom low frames
AreFramesFrom-weaker [] low high le ok = tt
AreFramesFrom-weaker (x ∷ xs) low high le ok = (let h : high ≤ x = ok.0 in omega arith, ok.1, ok.2)

AreFramesFrom-filter : (p : ℕ → Bool) (frames : List ℕ) (start : ℕ) → AreFramesFrom start frames → AreFramesFrom start (filter p frames)
AreFramesFrom-filter p [] start ok = tt
AreFramesFrom-filter p (x ∷ xs) start ok = choose (p x) (AreFramesFrom-filter p xs (x + 1) ok.2)
  where
    choose : (b : Bool) → AreFramesFrom (x + 1) (filter p xs) → AreFramesFrom start (cond b (x ∷ filter p xs) (filter p xs))
    choose true rest = (ok.0, ok.1, rest)
    choose false rest = AreFramesFrom-weaker (filter p xs) start (x + 1) (let h : start ≤ x = ok.0 in omega arith) rest

-- what a range leaves of ascending frames is ascending
pub AreFrames-without : (first count : ℕ) (frames : List ℕ) → AreFrames frames → AreFrames (without first count frames)
unfolding without
AreFrames-without first count frames ok = AreFramesFrom-filter (λ frame. not (is_within first count frame)) frames 0 ok

-- what the lowest leaves of ascending frames is ascending
pub AreFrames-drop : (frames : List ℕ) → AreFrames frames → AreFrames (drop 1 frames)
AreFrames-drop [] ok = tt
AreFrames-drop (x ∷ xs) ok = AreFramesFrom-weaker xs 0 (x + 1) (omega arith) ok.2

-- the members of a list with one more at the front
pub is_in_cons : (x y : ℕ) (xs : List ℕ) → is_in (y ∷ xs) x ≡ ((y == x) || is_in xs x)
unfolding is_in
is_in_cons x y xs = refl

-- a member of ascending frames is at or above their start and below 2^28
pub AreFramesFrom-member : (frames : List ℕ) (start frame : ℕ) → AreFramesFrom start frames → is_in frames frame ≡ true → (start ≤ frame) × (frame < 2 ^ 28)
unfolding is_in
AreFramesFrom-member [] start frame ok there = absurd (false≢true there)
AreFramesFrom-member (x ∷ xs) start frame ok there = by_test (eqb_tells x frame) (sym (is_in_cons frame x xs) ∙ there) (λ deep. AreFramesFrom-member xs (x + 1) frame ok.2 deep)
  where
    by_test : (((x == frame) ≡ true) × (x ≡ frame)) ⊎ (((x == frame) ≡ false) × (x ≢ frame)) → ((x == frame) || is_in xs frame) ≡ true → (is_in xs frame ≡ true → (x + 1 ≤ frame) × (frame < 2 ^ 28)) → (start ≤ frame) × (frame < 2 ^ 28)
    by_test (inl h) _ _ = subst (λ y. (start ≤ y) × (y < 2 ^ 28)) h.1 (ok.0, ok.1)
    by_test (inr h) is rest =
        let up = rest (rw h.0 at is) in
        let low : start ≤ x = ok.0 in
        let above : x + 1 ≤ frame = up.0 in
        (omega arith, up.1)

-- below the start of ascending frames there is none
pub AreFramesFrom-below : (frames : List ℕ) (start frame : ℕ) → AreFramesFrom start frames → frame < start → is_in frames frame ≡ false
AreFramesFrom-below frames start frame ok low = choose (is_in frames frame) refl
  where
    choose : (b : Bool) → is_in frames frame ≡ b → b ≡ false
    choose false is = refl
    choose true is = let up : start ≤ frame = (AreFramesFrom-member frames start frame ok is).0 in absurd (omega arith)

-- the lowest frame stands before the rest
pub lowest_frame-front : (frames : List ℕ) (frame : ℕ) → lowest_frame frames ≡ Some frame → frames ≡ frame ∷ drop 1 frames
lowest_frame-front [] frame is = cc
lowest_frame-front (x ∷ xs) frame is = let same : x ≡ frame = cc in ap (λ y. y ∷ xs) same

-- the lowest frame is a member
pub lowest_frame-member : (frames : List ℕ) (frame : ℕ) → lowest_frame frames ≡ Some frame → is_in frames frame ≡ true
lowest_frame-member frames frame is = ap (λ list. is_in list frame) (lowest_frame-front frames frame is) ∙ is_in_cons frame frame (drop 1 frames) ∙ by_test (eqb_tells frame frame)
  where
    by_test : (((frame == frame) ≡ true) × (frame ≡ frame)) ⊎ (((frame == frame) ≡ false) × (frame ≢ frame)) → ((frame == frame) || is_in (drop 1 frames) frame) ≡ true
    by_test (inl h) = rw h.0 refl
    by_test (inr h) = absurd (h.1 refl)

-- the lowest frame is below 2^28
pub lowest_frame-bound : (frames : List ℕ) (frame : ℕ) → AreFrames frames → lowest_frame frames ≡ Some frame → frame < 2 ^ 28
lowest_frame-bound frames frame ok is = (AreFramesFrom-member frames 0 frame ok (lowest_frame-member frames frame is)).1

-- taking the lowest frame is taking a range of one frame
pub lowest_frame-without : (frames : List ℕ) (frame : ℕ) → AreFrames frames → lowest_frame frames ≡ Some frame → drop 1 frames ≡ without frame 1 frames
unfolding without
lowest_frame-without [] frame ok is = cc
lowest_frame-without (x ∷ xs) frame ok is =
    let same : x ≡ frame = cc in
    let taken : is_within frame 1 x ≡ true = is_within-in frame 1 x (omega arith) (omega arith) in
    rw taken (sym (kept xs (x + 1) frame ok.2 (omega arith)))
  where
    kept : (ys : List ℕ) (start frame : ℕ) → AreFramesFrom start ys → frame < start → filter (λ other. not (is_within frame 1 other)) ys ≡ ys
    kept [] start frame ok low = refl
    kept (y ∷ ys) start frame ok low =
        let above : start ≤ y = ok.0 in
        let past : is_within frame 1 y ≡ false = is_within-above frame 1 y (omega arith) in
        rw past (ap (λ zs. y ∷ zs) (kept ys (y + 1) frame ok.2 (omega arith)))

-- the lowest frame is gone from the rest
pub lowest_frame-gone : (frames : List ℕ) (frame : ℕ) → AreFrames frames → lowest_frame frames ≡ Some frame → is_in (drop 1 frames) frame ≡ false
lowest_frame-gone frames frame ok is = ap (λ list. is_in list frame) (lowest_frame-without frames frame ok is) ∙ is_in-without_taken frame 1 frames frame (omega arith) (omega arith)

-- what is left after the lowest was there
pub is_in-from_drop : (frames : List ℕ) (frame : ℕ) → is_in (drop 1 frames) frame ≡ true → is_in frames frame ≡ true
is_in-from_drop [] frame there = there
is_in-from_drop (x ∷ xs) frame there = is_in_cons frame x xs ∙ choose (x == frame)
  where
    choose : (b : Bool) → (b || is_in xs frame) ≡ true
    choose true = refl
    choose false = there

all_range_true : (p : ℕ → Bool) (a n : ℕ) → ((k : ℕ) → a ≤ k → k < a + n → p k ≡ true) → list_all p (range_with_len a n) ≡ true
all_range_true p a zero each = refl
all_range_true p a (suc n) each =
    let here : p a ≡ true = each a (omega arith) (omega arith) in
    rw here (all_range_true p (a + 1) n (λ k low high. each k (omega arith) (omega arith)))

all_range_tells : (p : ℕ → Bool) (a n : ℕ) → list_all p (range_with_len a n) ≡ true → (k : ℕ) → a ≤ k → k < a + n → p k ≡ true
all_range_tells p a zero all k low high = absurd (omega arith)
all_range_tells p a (suc n) all k low high = at_or_past (eqb_tells a k) (λ deep past. all_range_tells p (a + 1) n deep k past (omega arith))
  where
    both : (p a ≡ true) × (list_all p (range_with_len (a + 1) n) ≡ true)
    both = both_true (p a) (list_all p (range_with_len (a + 1) n)) all

    at_or_past : (((a == k) ≡ true) × (a ≡ k)) ⊎ (((a == k) ≡ false) × (a ≢ k)) → (list_all p (range_with_len (a + 1) n) ≡ true → a + 1 ≤ k → p k ≡ true) → p k ≡ true
    at_or_past (inl h) rest = subst (λ j. p j ≡ true) h.1 both.0
    at_or_past (inr h) rest = let apart : a ≢ k = h.1 in rest both.1 (omega arith)

-- a test that each of consecutive numbers passes
pub list_all-numbers : (p : ℕ → Bool) (a n : ℕ) → ((k : ℕ) → a ≤ k → k < a + n → p k ≡ true) → list_all p (numbers a n) ≡ true
unfolding numbers
list_all-numbers p a n each = all_range_true p a n each

pub list_all-numbers_tells : (p : ℕ → Bool) (a n : ℕ) → list_all p (numbers a n) ≡ true → (k : ℕ) → a ≤ k → k < a + n → p k ≡ true
unfolding numbers
list_all-numbers_tells p a n all k low high = all_range_tells p a n all k low high

-- a group begins at a multiple of its size from which on all its frames are there
pub begins_group-from : (size : ℕ) (frames : List ℕ) (first : ℕ) → first % size ≡ 0 → ((frame : ℕ) → first ≤ frame → frame < first + size → is_in frames frame ≡ true) → begins_group size frames first ≡ true
begins_group-from size frames first at all = ap (λ n. (n == 0) && list_all (is_in frames) (numbers first size)) at ∙ list_all-numbers (is_in frames) first size all

-- no group begins where one of its frames is missing
pub begins_group-missing : (size : ℕ) (frames : List ℕ) (first frame : ℕ) → first ≤ frame → frame < first + size → is_in frames frame ≡ false → begins_group size frames first ≡ false
begins_group-missing size frames first frame low high missing = ap (λ b. (first % size == 0) && b) (choose (list_all (is_in frames) (numbers first size)) refl) ∙ and-false (first % size == 0)
  where
    choose : (b : Bool) → list_all (is_in frames) (numbers first size) ≡ b → b ≡ false
    choose false is = refl
    choose true is = absurd (false≢true (sym missing ∙ list_all-numbers_tells (is_in frames) first size is frame low high))

-- what is found passes the test
find_passes : (p : ℕ → Bool) (xs : List ℕ) (x : ℕ) → find p xs ≡ Some x → p x ≡ true
find_passes p [] x is = cc
find_passes p (y ∷ ys) x is = choose (p y) refl is (λ deep. find_passes p ys x deep)
  where
    choose : (b : Bool) → p y ≡ b → cond b (Some y) (find p ys) ≡ Some x → (find p ys ≡ Some x → p x ≡ true) → p x ≡ true
    choose true pass is rest = let same : y ≡ x = cc in subst (λ z. p z ≡ true) same pass
    choose false pass is rest = rest is

-- what the lowest group tells: its first frame is a multiple of its size, and all its frames are there
pub lowest_group-tells : (size : ℕ) (frames : List ℕ) (first : ℕ) → lowest_group size frames ≡ Some first → (first % size ≡ 0) × ((frame : ℕ) → first ≤ frame → frame < first + size → is_in frames frame ≡ true)
unfolding lowest_group
lowest_group-tells size frames first is =
    let both = both_true (first % size == 0) (list_all (is_in frames) (numbers first size)) (find_passes (begins_group size frames) frames first is) in
    (at_zero (eqb_tells (first % size) 0) both.0, list_all-numbers_tells (is_in frames) first size both.1)
  where
    at_zero : (((first % size == 0) ≡ true) × (first % size ≡ 0)) ⊎ (((first % size == 0) ≡ false) × (first % size ≢ 0)) → (first % size == 0) ≡ true → first % size ≡ 0
    at_zero (inl h) _ = h.1
    at_zero (inr h) is = absurd (false≢true (sym h.0 ∙ is))

-- what the lowest run tells: all its frames are there
pub lowest_run-tells : (count : ℕ) (frames : List ℕ) (first : ℕ) → lowest_run count frames ≡ Some first → (frame : ℕ) → first ≤ frame → frame < first + count → is_in frames frame ≡ true
unfolding lowest_run
lowest_run-tells count frames first is = list_all-numbers_tells (is_in frames) first count (find_passes (begins_run count frames) frames first is)

-- what the lowest pair tells: its first frame is even, and both frames are there
pub lowest_pair-tells : (frames : List ℕ) (first : ℕ) → lowest_pair frames ≡ Some first → (first % 2 ≡ 0) × (is_in frames first ≡ true) × (is_in frames (first + 1) ≡ true)
lowest_pair-tells frames first is =
    let told = lowest_group-tells 2 frames first is in
    (told.0, told.1 first (omega arith) (omega arith), told.1 (first + 1) (omega arith) (omega arith))

-- one more member of consecutive ones
pub members_more : (frames : List ℕ) (start end : ℕ) → ((frame : ℕ) → start ≤ frame → frame < end → is_in frames frame ≡ true) → is_in frames end ≡ true → (frame : ℕ) → start ≤ frame → frame < end + 1 → is_in frames frame ≡ true
members_more frames start end all last frame low high = by_test (eqb_tells end frame)
  where
    by_test : (((end == frame) ≡ true) × (end ≡ frame)) ⊎ (((end == frame) ≡ false) × (end ≢ frame)) → is_in frames frame ≡ true
    by_test (inl h) = subst (λ x. is_in frames x ≡ true) h.1 last
    by_test (inr h) = let apart : end ≢ frame = h.1 in all frame low (omega arith)
