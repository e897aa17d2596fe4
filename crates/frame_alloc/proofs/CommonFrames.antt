-- That ranges have a frame in common, told without listing frames.
use Rattle.std.proofs.Common.{◌≡◌, ℕ, suc, ◌+◌, ◌<◌, ◌≤◌, ◌⊎◌, ◌&&◌, ◌||◌, min, max, Bool, true, false, leb, List, [], ◌∷◌, refl, sym, ap, ◌∙◌, arith, inl, inr}
use Rattle.std.specs.Prelude.{nat_lt, ◌==◌}
use Rattle.std.specs.List.{list_any}
use Rattle.std.proofs.lemmas.Bool.Decides.{leb_tells, eqb_tells, nat_tests}
use Rattle.texts.specs.Consecutive.{numbers, is_in}
use Rattle.texts.specs.declared.ranges.FrameRange.{FrameRange}
use Rattle.frame_alloc.specs.Frames.{frames_in, is_within}
use Rattle.frame_alloc.proofs.FreeFrames.{is_in_nil, is_in_cons, is_in-append, is_in-numbers}
use Rattle.frame_alloc.proofs.Without.{is_within-in, is_within-below, is_within-above}
use Rattle.frame_alloc.specs.Ranges.{holds, have_common}

pub true_or_false : (b : Bool) → (b ≡ true) ⊎ (b ≡ false)
true_or_false true = inl refl
true_or_false false = inr refl

pub not_both : {A : Type 0} (b : Bool) → b ≡ true → b ≡ false → A
not_both b here missing = cc

-- tests that imply each other are equal
pub same_test : (a b : Bool) → (a ≡ true → b ≡ true) → (b ≡ true → a ≡ true) → a ≡ b
same_test true b there back = sym (there refl)
same_test false true there back = back refl
same_test false false there back = refl

pub or_tells : (a b : Bool) → (a || b) ≡ true → (a ≡ true) ⊎ (b ≡ true)
or_tells true b h = inl refl
or_tells false b h = inr h

pub or_left : (a b : Bool) → a ≡ true → (a || b) ≡ true
or_left a b h = rw h refl

pub or_right : (a b : Bool) → b ≡ true → (a || b) ≡ true
or_right true b h = refl
or_right false b h = h

pub or_none : (a b : Bool) → (a || b) ≡ false → (a ≡ false) × (b ≡ false)
or_none true b h = absurd cc
or_none false b h = (refl, h)

pub and_tells : (a b : Bool) → (a && b) ≡ true → (a ≡ true) × (b ≡ true)
and_tells true b h = (refl, h)
and_tells false b h = absurd cc

-- whether a range holds a frame, and what follows
pub within_tells : (first count frame : ℕ) → ((is_within first count frame ≡ true) × (first ≤ frame) × (frame < first + count)) ⊎ ((is_within first count frame ≡ false) × ((frame < first) ⊎ (first + count ≤ frame)))
within_tells first count frame = both (leb_tells first frame) (leb_tells (first + count) frame)
  where
    both : ((leb first frame ≡ true) × (first ≤ frame)) ⊎ ((leb first frame ≡ false) × (frame < first)) → ((leb (first + count) frame ≡ true) × (first + count ≤ frame)) ⊎ ((leb (first + count) frame ≡ false) × (frame < first + count))
        → ((is_within first count frame ≡ true) × (first ≤ frame) × (frame < first + count)) ⊎ ((is_within first count frame ≡ false) × ((frame < first) ⊎ (first + count ≤ frame)))
    both (inr a) b = inr (is_within-below first count frame a.1, inl a.1)
    both (inl a) (inl b) = inr (is_within-above first count frame b.1, inr b.1)
    both (inl a) (inr b) = inl (is_within-in first count frame a.1 b.1, a.1, b.1)

pub within_bounds : (first count frame : ℕ) → is_within first count frame ≡ true → (first ≤ frame) × (frame < first + count)
within_bounds first count frame h = by_test (within_tells first count frame)
  where
    by_test : ((is_within first count frame ≡ true) × (first ≤ frame) × (frame < first + count)) ⊎ ((is_within first count frame ≡ false) × ((frame < first) ⊎ (first + count ≤ frame))) → (first ≤ frame) × (frame < first + count)
    by_test (inl k) = (k.1, k.2)
    by_test (inr k) = not_both _ h k.0

-- the frames of ranges are those that the ranges hold
pub is_in-frames_in : (ranges : List FrameRange) (frame : ℕ) → is_in (frames_in ranges) frame ≡ holds ranges frame
is_in-frames_in [] frame = is_in_nil frame
is_in-frames_in (range ∷ ranges) frame =
    is_in-append (numbers range.first range.count) (frames_in ranges) frame
    ∙ rw (is_in-numbers range.first range.count frame, is_in-frames_in ranges frame) refl

-- a test that some number of a list passes
pub any_tells : (p : ℕ → Bool) (xs : List ℕ) → list_any p xs ≡ true → (x : ℕ) × (is_in xs x ≡ true) × (p x ≡ true)
any_tells p [] h = absurd cc
any_tells p (x ∷ xs) h = by_test (λ later. any_tells p xs later) (or_tells (p x) (list_any p xs) h)
  where
    by_test : (list_any p xs ≡ true → (y : ℕ) × (is_in xs y ≡ true) × (p y ≡ true)) → (p x ≡ true) ⊎ (list_any p xs ≡ true) → (y : ℕ) × (is_in (x ∷ xs) y ≡ true) × (p y ≡ true)
    by_test rest (inl here) = (x, is_in_cons x x xs ∙ or_left (x == x) (is_in xs x) (same x), here)
      where
        same : (y : ℕ) → (y == y) ≡ true
        same y = grind (arith, nat_tests)
    by_test rest (inr later) = let found = rest later in (found.0, is_in_cons found.0 x xs ∙ or_right (x == found.0) (is_in xs found.0) found.1, found.2)

pub any_hits : (p : ℕ → Bool) (xs : List ℕ) (x : ℕ) → is_in xs x ≡ true → p x ≡ true → list_any p xs ≡ true
any_hits p [] x member pass = not_both _ member (is_in_nil x)
any_hits p (y ∷ ys) x member pass = by_test (λ later. any_hits p ys x later pass) (or_tells (y == x) (is_in ys x) (sym (is_in_cons x y ys) ∙ member)) (eqb_tells y x)
  where
    by_test : (is_in ys x ≡ true → list_any p ys ≡ true) → ((y == x) ≡ true) ⊎ (is_in ys x ≡ true) → (((y == x) ≡ true) × (y ≡ x)) ⊎ (((y == x) ≡ false) × (y ≡ x → ⊥)) → list_any p (y ∷ ys) ≡ true
    by_test rest (inr later) _ = or_right (p y) (list_any p ys) (rest later)
    by_test rest (inl here) (inl h) = or_left (p y) (list_any p ys) (ap p h.1 ∙ pass)
    by_test rest (inl here) (inr h) = not_both _ here h.0

-- a frame of both lists, where there is one
pub common_tells : (xs ys : List FrameRange) → have_common xs ys ≡ true → (frame : ℕ) × (holds xs frame ≡ true) × (holds ys frame ≡ true)
unfolding have_common
common_tells xs ys h =
    let found = any_tells (holds xs) (frames_in ys) h in
    (found.0, found.2, sym (is_in-frames_in ys found.0) ∙ found.1)

pub common_hits : (xs ys : List FrameRange) (frame : ℕ) → holds xs frame ≡ true → holds ys frame ≡ true → have_common xs ys ≡ true
unfolding have_common
common_hits xs ys frame one other = any_hits (holds xs) (frames_in ys) frame (is_in-frames_in ys frame ∙ other) one

pub common_misses : (xs ys : List FrameRange) (frame : ℕ) → have_common xs ys ≡ false → holds xs frame ≡ true → holds ys frame ≡ true → ⊥
common_misses xs ys frame apart one other = not_both _ (common_hits xs ys frame one other) apart

-- two ranges have a frame in common where both have a frame and each begins before the other ends
unfoldable pub meets : FrameRange → FrameRange → Bool
meets one other = nat_lt (max one.first other.first) (min (one.first + one.count) (other.first + other.count))

pub holds_one : (range : FrameRange) (frame : ℕ) → holds (range ∷ []) frame ≡ is_within range.first range.count frame
holds_one range frame = by_test (is_within range.first range.count frame)
  where
    by_test : (b : Bool) → (b || false) ≡ b
    by_test true = refl
    by_test false = refl

pub common_yes : (one other : FrameRange) → max one.first other.first < min (one.first + one.count) (other.first + other.count) → have_common (one ∷ []) (other ∷ []) ≡ true
common_yes one other m =
    let frame : ℕ = max one.first other.first in
    common_hits (one ∷ []) (other ∷ []) frame
    (holds_one one frame ∙ is_within-in one.first one.count frame (omega arith) (omega arith))
    (holds_one other frame ∙ is_within-in other.first other.count frame (omega arith) (omega arith))

pub common_no : (one other : FrameRange) → min (one.first + one.count) (other.first + other.count) ≤ max one.first other.first → have_common (one ∷ []) (other ∷ []) ≡ false
common_no one other m = by_test (true_or_false (have_common (one ∷ []) (other ∷ [])))
  where
    by_test : (have_common (one ∷ []) (other ∷ []) ≡ true) ⊎ (have_common (one ∷ []) (other ∷ []) ≡ false) → have_common (one ∷ []) (other ∷ []) ≡ false
    by_test (inr apart) = apart
    by_test (inl h) = absurd (
        let found = common_tells (one ∷ []) (other ∷ []) h in
        let a = within_bounds one.first one.count found.0 (sym (holds_one one found.0) ∙ found.1) in
        let b = within_bounds other.first other.count found.0 (sym (holds_one other found.0) ∙ found.2) in
        omega (arith, a.0, a.1, b.0, b.1))

pub common-meets : (one other : FrameRange) → have_common (one ∷ []) (other ∷ []) ≡ meets one other
unfolding meets
common-meets one other = by_test (leb_tells (suc (max one.first other.first)) (min (one.first + one.count) (other.first + other.count)))
  where
    by_test : ((leb (suc (max one.first other.first)) (min (one.first + one.count) (other.first + other.count)) ≡ true) × (suc (max one.first other.first) ≤ min (one.first + one.count) (other.first + other.count)))
        ⊎ ((leb (suc (max one.first other.first)) (min (one.first + one.count) (other.first + other.count)) ≡ false) × (min (one.first + one.count) (other.first + other.count) < suc (max one.first other.first)))
        → have_common (one ∷ []) (other ∷ []) ≡ leb (suc (max one.first other.first)) (min (one.first + one.count) (other.first + other.count))
    by_test (inl h) = common_yes one other (omega (arith, h.1)) ∙ sym h.0
    by_test (inr h) = common_no one other (omega (arith, h.1)) ∙ sym h.0

-- one range against several
pub common-any : (ranges : List FrameRange) (other : FrameRange) → have_common ranges (other ∷ []) ≡ list_any (λ (range : FrameRange). meets range other) ranges
common-any [] other = same_test _ _ (λ h. let found = common_tells [] (other ∷ []) h in absurd (not_both false found.1 refl)) (λ h. absurd cc)
common-any (range ∷ ranges) other = same_test _ _ (there (common-any ranges other)) (back (common-any ranges other))
  where
    there : have_common ranges (other ∷ []) ≡ list_any (λ (one : FrameRange). meets one other) ranges → have_common (range ∷ ranges) (other ∷ []) ≡ true → list_any (λ (one : FrameRange). meets one other) (range ∷ ranges) ≡ true
    there rest h =
        let found = common_tells (range ∷ ranges) (other ∷ []) h in
        by_test found.0 found.2 (or_tells (is_within range.first range.count found.0) (holds ranges found.0) found.1)
      where
        by_test : (frame : ℕ) → holds (other ∷ []) frame ≡ true → (is_within range.first range.count frame ≡ true) ⊎ (holds ranges frame ≡ true) → list_any (λ (one : FrameRange). meets one other) (range ∷ ranges) ≡ true
        by_test frame it (inl here) = or_left (meets range other) _ (sym (common-meets range other) ∙ common_hits (range ∷ []) (other ∷ []) frame (holds_one range frame ∙ here) it)
        by_test frame it (inr later) = or_right (meets range other) _ (sym rest ∙ common_hits ranges (other ∷ []) frame later it)

    back : have_common ranges (other ∷ []) ≡ list_any (λ (one : FrameRange). meets one other) ranges → list_any (λ (one : FrameRange). meets one other) (range ∷ ranges) ≡ true → have_common (range ∷ ranges) (other ∷ []) ≡ true
    back rest h = by_test (or_tells (meets range other) _ h)
      where
        by_test : (meets range other ≡ true) ⊎ (list_any (λ (one : FrameRange). meets one other) ranges ≡ true) → have_common (range ∷ ranges) (other ∷ []) ≡ true
        by_test (inl here) =
            let found = common_tells (range ∷ []) (other ∷ []) (common-meets range other ∙ here) in
            common_hits (range ∷ ranges) (other ∷ []) found.0 (or_left _ _ (sym (holds_one range found.0) ∙ found.1)) found.2
        by_test (inr later) =
            let found = common_tells ranges (other ∷ []) (rest ∙ later) in
            common_hits (range ∷ ranges) (other ∷ []) found.0 (or_right _ _ found.1) found.2

pub common_none : (ranges : List FrameRange) → have_common ranges [] ≡ false
unfolding have_common
common_none ranges = refl

pub none_common : (ranges : List FrameRange) → have_common [] ranges ≡ false
none_common ranges = by_test (true_or_false (have_common [] ranges))
  where
    by_test : (have_common [] ranges ≡ true) ⊎ (have_common [] ranges ≡ false) → have_common [] ranges ≡ false
    by_test (inr apart) = apart
    by_test (inl h) = let found = common_tells [] ranges h in absurd (not_both false found.1 refl)

pub common-cons_right : (ranges : List FrameRange) (other : FrameRange) (others : List FrameRange) → have_common ranges (other ∷ others) ≡ (have_common ranges (other ∷ []) || have_common ranges others)
common-cons_right ranges other others = same_test _ _ there back
  where
    there : have_common ranges (other ∷ others) ≡ true → (have_common ranges (other ∷ []) || have_common ranges others) ≡ true
    there h = let found = common_tells ranges (other ∷ others) h in by_test found.0 found.1 (or_tells _ _ found.2)
      where
        by_test : (frame : ℕ) → holds ranges frame ≡ true → (is_within other.first other.count frame ≡ true) ⊎ (holds others frame ≡ true) → (have_common ranges (other ∷ []) || have_common ranges others) ≡ true
        by_test frame it (inl here) = or_left _ _ (common_hits ranges (other ∷ []) frame it (holds_one other frame ∙ here))
        by_test frame it (inr later) = or_right _ _ (common_hits ranges others frame it later)

    back : (have_common ranges (other ∷ []) || have_common ranges others) ≡ true → have_common ranges (other ∷ others) ≡ true
    back h = by_test (or_tells _ _ h)
      where
        by_test : (have_common ranges (other ∷ []) ≡ true) ⊎ (have_common ranges others ≡ true) → have_common ranges (other ∷ others) ≡ true
        by_test (inl here) = let found = common_tells ranges (other ∷ []) here in common_hits ranges (other ∷ others) found.0 found.1 (or_left _ _ (sym (holds_one other found.0) ∙ found.2))
        by_test (inr later) = let found = common_tells ranges others later in common_hits ranges (other ∷ others) found.0 found.1 (or_right _ _ found.2)

pub common-cons_left : (one : FrameRange) (ones : List FrameRange) (others : List FrameRange) → have_common (one ∷ ones) others ≡ (have_common (one ∷ []) others || have_common ones others)
common-cons_left one ones others = same_test _ _ there back
  where
    there : have_common (one ∷ ones) others ≡ true → (have_common (one ∷ []) others || have_common ones others) ≡ true
    there h = let found = common_tells (one ∷ ones) others h in by_test found.0 found.2 (or_tells _ _ found.1)
      where
        by_test : (frame : ℕ) → holds others frame ≡ true → (is_within one.first one.count frame ≡ true) ⊎ (holds ones frame ≡ true) → (have_common (one ∷ []) others || have_common ones others) ≡ true
        by_test frame it (inl here) = or_left _ _ (common_hits (one ∷ []) others frame (holds_one one frame ∙ here) it)
        by_test frame it (inr later) = or_right _ _ (common_hits ones others frame later it)

    back : (have_common (one ∷ []) others || have_common ones others) ≡ true → have_common (one ∷ ones) others ≡ true
    back h = by_test (or_tells _ _ h)
      where
        by_test : (have_common (one ∷ []) others ≡ true) ⊎ (have_common ones others ≡ true) → have_common (one ∷ ones) others ≡ true
        by_test (inl here) = let found = common_tells (one ∷ []) others here in common_hits (one ∷ ones) others found.0 (or_left _ _ (sym (holds_one one found.0) ∙ found.1)) found.2
        by_test (inr later) = let found = common_tells ones others later in common_hits (one ∷ ones) others found.0 (or_right _ _ found.1) found.2
