-- That sorted ranges hold every frame of a range, told range by range.
use Rattle.std.proofs.Common.{◌≡◌, ℕ, ◌+◌, ◌<◌, ◌≤◌, ◌⊎◌, ◌&&◌, ◌||◌, max, Bool, true, false, leb, List, [], ◌∷◌, refl, ◌∙◌, arith, inl, inr}
use Rattle.std.specs.List.{list_all}
use Rattle.std.proofs.lemmas.List.Folds.{list_all-append}
use Rattle.std.proofs.lemmas.Bool.Decides.{leb_tells, nat_tests}
use Rattle.texts.specs.Consecutive.{numbers}
use Rattle.texts.specs.declared.ranges.FrameRange.{FrameRange}
use Rattle.frame_alloc.specs.Frames.{frames_in, is_within, AreFrameRangesFrom}
use Rattle.frame_alloc.proofs.FreeFrames.{list_all-numbers, list_all-numbers_tells}
use Rattle.frame_alloc.proofs.PairLemmas.{frames_in-one}
use Rattle.frame_alloc.proofs.Without.{is_within-below}
use Rattle.frame_alloc.specs.Ranges.{holds, lie_in}
use Rattle.frame_alloc.proofs.CommonFrames.{not_both, same_test, or_tells, or_left, or_right, and_tells, within_tells, within_bounds}

-- the ranges hold each frame from next on that lies before end
unfoldable pub covers : List FrameRange → ℕ → ℕ → Bool
covers [] next end = leb end next
covers (range ∷ ranges) next end = leb end next || (leb range.first next && covers ranges (max next (range.first + range.count)) end)

-- below sorted ranges no frame is held
pub holds_below : (ranges : List FrameRange) (start frame : ℕ) → AreFrameRangesFrom start ranges → frame < start → holds ranges frame ≡ false
holds_below [] start frame sorted low = refl
holds_below (range ∷ ranges) start frame sorted low =
    let a : start ≤ range.first = sorted.0 in
    rw (is_within-below range.first range.count frame (omega arith)) (holds_below ranges (range.first + range.count) frame sorted.2 (omega arith))

AreCovered : List FrameRange → ℕ → ℕ → Type 0
AreCovered ranges next end = (frame : ℕ) → next ≤ frame → frame < end → holds ranges frame ≡ true

covers_tells : (ranges : List FrameRange) (next end : ℕ) → covers ranges next end ≡ true → (frame : ℕ) → next ≤ frame → frame < end → holds ranges frame ≡ true
unfolding covers
covers_tells [] next end h frame low high = by_test (leb_tells end next)
  where
    by_test : ((leb end next ≡ true) × (end ≤ next)) ⊎ ((leb end next ≡ false) × (next < end)) → holds [] frame ≡ true
    by_test (inl k) = absurd (let a : end ≤ next = k.1 in omega arith)
    by_test (inr k) = not_both _ h k.0
covers_tells (range ∷ ranges) next end h frame low high =
    by_test (leb_tells end next) (within_tells range.first range.count frame) (or_tells (leb end next) _ h) (λ rest above. covers_tells ranges (max next (range.first + range.count)) end rest frame (omega arith) high)
  where
    by_test : ((leb end next ≡ true) × (end ≤ next)) ⊎ ((leb end next ≡ false) × (next < end))
        → ((is_within range.first range.count frame ≡ true) × (range.first ≤ frame) × (frame < range.first + range.count)) ⊎ ((is_within range.first range.count frame ≡ false) × ((frame < range.first) ⊎ (range.first + range.count ≤ frame)))
        → (leb end next ≡ true) ⊎ ((leb range.first next && covers ranges (max next (range.first + range.count)) end) ≡ true)
        → (covers ranges (max next (range.first + range.count)) end ≡ true → range.first + range.count ≤ frame → holds ranges frame ≡ true)
        → holds (range ∷ ranges) frame ≡ true
    by_test (inl k) _ _ _ = absurd (let a : end ≤ next = k.1 in omega arith)
    by_test (inr k) _ (inl past) _ = not_both _ past k.0
    by_test (inr k) (inl inside) (inr both) _ = or_left _ _ inside.0
    by_test (inr k) (inr outside) (inr both) rest =
        let parts = and_tells (leb range.first next) _ both in
        later outside.1 (leb_tells range.first next) parts.0 parts.1
      where
        later : (frame < range.first) ⊎ (range.first + range.count ≤ frame) → ((leb range.first next ≡ true) × (range.first ≤ next)) ⊎ ((leb range.first next ≡ false) × (next < range.first)) → leb range.first next ≡ true
            → covers ranges (max next (range.first + range.count)) end ≡ true → holds (range ∷ ranges) frame ≡ true
        later _ (inr under) over _ = not_both _ over under.0
        later (inl below) (inl at) _ _ = absurd (let a : range.first ≤ next = at.1 in omega arith)
        later (inr above) (inl at) _ more = or_right _ _ (rest more above)

both_hold : (a b : Bool) → a ≡ true → b ≡ true → (a && b) ≡ true
both_hold a b h k = rw (h, k) refl

none_of_two : (a b : Bool) → a ≡ false → b ≡ false → (a || b) ≡ false
none_of_two a b h k = rw (h, k) refl

covers_from : (ranges : List FrameRange) (start next end : ℕ) → AreFrameRangesFrom start ranges → ((frame : ℕ) → next ≤ frame → frame < end → holds ranges frame ≡ true) → covers ranges next end ≡ true
unfolding covers
covers_from [] start next end sorted each = by_test (leb_tells end next)
  where
    by_test : ((leb end next ≡ true) × (end ≤ next)) ⊎ ((leb end next ≡ false) × (next < end)) → leb end next ≡ true
    by_test (inl k) = k.0
    by_test (inr k) = absurd (let e : false ≡ true = each next (omega arith) k.1 in cc)
covers_from (range ∷ ranges) start next end sorted each = by_test (leb_tells end next) (leb_tells range.first next)
    (covers_from ranges (range.first + range.count) (max next (range.first + range.count)) end sorted.2 rest)
  where
    rest : (frame : ℕ) → max next (range.first + range.count) ≤ frame → frame < end → holds ranges frame ≡ true
    rest frame low high = pick (or_tells (is_within range.first range.count frame) _ (each frame (omega arith) high))
      where
        pick : (is_within range.first range.count frame ≡ true) ⊎ (holds ranges frame ≡ true) → holds ranges frame ≡ true
        pick (inl inside) = absurd (let b = within_bounds range.first range.count frame inside in omega (arith, b.1))
        pick (inr later) = later

    by_test : ((leb end next ≡ true) × (end ≤ next)) ⊎ ((leb end next ≡ false) × (next < end)) → ((leb range.first next ≡ true) × (range.first ≤ next)) ⊎ ((leb range.first next ≡ false) × (next < range.first))
        → covers ranges (max next (range.first + range.count)) end ≡ true → covers (range ∷ ranges) next end ≡ true
    by_test (inl k) _ _ = or_left _ _ k.0
    by_test (inr k) (inl at) more = or_right _ _ (both_hold _ _ at.0 more)
    by_test (inr k) (inr below) more =
        let b : next < range.first = below.1 in
        let past : next < range.first + range.count = omega arith in
        let none : holds (range ∷ ranges) next ≡ false = none_of_two _ _ (is_within-below range.first range.count next b) (holds_below ranges (range.first + range.count) next sorted.2 past) in
        let low : next ≤ next = omega arith in
        not_both _ (each next low k.1) none

-- the ranges hold every frame of one range
pub lie_in-covers : (ranges : List FrameRange) (range : FrameRange) → AreFrameRangesFrom 0 ranges → lie_in ranges (range ∷ []) ≡ covers ranges range.first (range.first + range.count)
unfolding lie_in
lie_in-covers ranges range sorted = rw (frames_in-one range) (same_test _ _ there back)
  where
    there : list_all (holds ranges) (numbers range.first range.count) ≡ true → covers ranges range.first (range.first + range.count) ≡ true
    there h = covers_from ranges 0 range.first (range.first + range.count) sorted (λ frame low high. list_all-numbers_tells (holds ranges) range.first range.count h frame low high)

    back : covers ranges range.first (range.first + range.count) ≡ true → list_all (holds ranges) (numbers range.first range.count) ≡ true
    back h = list_all-numbers (holds ranges) range.first range.count (λ frame low high. covers_tells ranges range.first (range.first + range.count) h frame low high)

pub covers_done : (ranges : List FrameRange) (next end : ℕ) → end ≤ next → covers ranges next end ≡ true
unfolding covers
covers_done [] next end past = let a : leb end next ≡ true = grind (arith, nat_tests) in a
covers_done (range ∷ ranges) next end past = let a : leb end next ≡ true = grind (arith, nat_tests) in or_left _ _ a

pub covers_short : (range : FrameRange) (ranges : List FrameRange) (next end : ℕ) → next < end → next < range.first → covers (range ∷ ranges) next end ≡ false
unfolding covers
covers_short range ranges next end more below =
    let a : leb end next ≡ false = grind (arith, nat_tests) in
    let b : leb range.first next ≡ false = grind (arith, nat_tests) in
    rw (a, b) refl

pub covers_next : (range : FrameRange) (ranges : List FrameRange) (next end : ℕ) → next < end → range.first ≤ next → covers (range ∷ ranges) next end ≡ covers ranges (max next (range.first + range.count)) end
unfolding covers
covers_next range ranges next end more at =
    let a : leb end next ≡ false = grind (arith, nat_tests) in
    let b : leb range.first next ≡ true = grind (arith, nat_tests) in
    rw (a, b) refl

pub covers_end : (next end : ℕ) → covers [] next end ≡ leb end next
unfolding covers
covers_end next end = refl

pub lie_in-none : (ranges : List FrameRange) → lie_in ranges [] ≡ true
unfolding lie_in
lie_in-none ranges = refl

pub lie_in-cons : (ranges : List FrameRange) (other : FrameRange) (others : List FrameRange) → lie_in ranges (other ∷ others) ≡ (lie_in ranges (other ∷ []) && lie_in ranges others)
unfolding lie_in
lie_in-cons ranges other others =
    list_all-append (holds ranges) (numbers other.first other.count) (frames_in others)
    ∙ rw (frames_in-one other) refl
