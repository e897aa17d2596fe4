-- Sorted ranges without those that end before a range.
use Rattle.std.proofs.Common.{◌≡◌, ◌∙◌, ap, sym, refl, ℕ, zero, suc, ◌+◌, ◌^◌, ◌<◌, ◌≤◌, true, false, ◌||◌, List, [], ◌∷◌, length, drop, slice_index_or, arith}
use Rattle.std.specs.List.{list_all}
use Rattle.texts.specs.Consecutive.{numbers}
use Rattle.texts.specs.declared.ranges.FrameRange.{FrameRange}
use Rattle.frame_alloc.specs.Frames.{is_within, AreFrameRangesFrom}
use Rattle.frame_alloc.proofs.ExtentLemmas.{AreFrameRanges-weaker}
use Rattle.frame_alloc.proofs.FreeFrames.{list_all-numbers, list_all-numbers_tells}
use Rattle.frame_alloc.proofs.PairLemmas.{frames_in-one}
use Rattle.frame_alloc.proofs.Without.{is_within-above}
use Rattle.frame_alloc.specs.Ranges.{holds, lie_in}
use Rattle.frame_alloc.proofs.CommonFrames.{same_test}

-- the end of a range
abbrev pub end_at : List FrameRange → ℕ → FrameRange → ℕ
end_at ranges k d = (slice_index_or ranges k d).first + (slice_index_or ranges k d).count

-- each ends low, and the ends rise
pub end_low : (ranges : List FrameRange) (start k : ℕ) (d : FrameRange) → AreFrameRangesFrom start ranges → k < length ranges → (start ≤ end_at ranges k d) × (end_at ranges k d ≤ 2 ^ 28)
end_low [] start k d sorted less = absurd (omega arith)
end_low (range ∷ ranges) start zero d sorted less = let above : start ≤ range.first = sorted.0 in (omega arith, sorted.1)
end_low (range ∷ ranges) start (suc k) d sorted less =
    let above : start ≤ range.first = sorted.0 in
    let later = end_low ranges (range.first + range.count) k d sorted.2 (omega arith) in
    (omega (arith, later.0), later.1)

pub ends_rise : (ranges : List FrameRange) (start j k : ℕ) (d e : FrameRange) → AreFrameRangesFrom start ranges → j ≤ k → k < length ranges → end_at ranges j d ≤ end_at ranges k e
ends_rise [] start j k d e sorted order less = absurd (omega arith)
ends_rise (range ∷ ranges) start zero zero d e sorted order less = omega arith
ends_rise (range ∷ ranges) start zero (suc k) d e sorted order less = let later = end_low ranges (range.first + range.count) k e sorted.2 (omega arith) in later.0
ends_rise (range ∷ ranges) start (suc j) zero d e sorted order less = absurd (omega arith)
ends_rise (range ∷ ranges) start (suc j) (suc k) d e sorted order less = ends_rise ranges (range.first + range.count) j k d e sorted.2 (omega arith) (omega arith)

-- the later ranges are sorted too
pub later_sorted : (ranges : List FrameRange) (start k : ℕ) → AreFrameRangesFrom start ranges → AreFrameRangesFrom start (drop k ranges)
later_sorted ranges start zero sorted = sorted
later_sorted [] start (suc k) sorted = tt
later_sorted (range ∷ ranges) start (suc k) sorted =
    let above : start ≤ range.first = sorted.0 in
    AreFrameRanges-weaker (drop k ranges) start (range.first + range.count) (omega arith) (later_sorted ranges (range.first + range.count) k sorted.2)

-- and hold the same frames from there on
holds_later : (ranges : List FrameRange) (k frame : ℕ) → ((j : ℕ) → (d : FrameRange) → j < k → end_at ranges j d ≤ frame) → k ≤ length ranges → holds (drop k ranges) frame ≡ holds ranges frame
holds_later ranges zero frame ended within = refl
holds_later [] (suc k) frame ended within = refl
holds_later (range ∷ ranges) (suc k) frame ended within =
    let first : range.first + range.count ≤ frame = ended 0 range (omega arith) in
    let none : is_within range.first range.count frame ≡ false = is_within-above range.first range.count frame first in
    holds_later ranges k frame (λ j d less. ended (suc j) d (omega arith)) (omega arith) ∙ ap (λ b. b || holds ranges frame) (sym none)

pub lie_in-later : (ranges : List FrameRange) (range : FrameRange) (k : ℕ) → ((j : ℕ) → (d : FrameRange) → j < k → end_at ranges j d ≤ range.first) → k ≤ length ranges
    → lie_in (drop k ranges) (range ∷ []) ≡ lie_in ranges (range ∷ [])
unfolding lie_in
lie_in-later ranges range k ended within = rw (frames_in-one range) (same_test _ _ there back)
  where
    same : (frame : ℕ) → range.first ≤ frame → holds (drop k ranges) frame ≡ holds ranges frame
    same frame low = holds_later ranges k frame (λ j d less. (let before : end_at ranges j d ≤ range.first = ended j d less in omega arith)) within

    there : list_all (holds (drop k ranges)) (numbers range.first range.count) ≡ true → list_all (holds ranges) (numbers range.first range.count) ≡ true
    there h = list_all-numbers (holds ranges) range.first range.count (λ frame low high. sym (same frame low) ∙ list_all-numbers_tells (holds (drop k ranges)) range.first range.count h frame low high)

    back : list_all (holds ranges) (numbers range.first range.count) ≡ true → list_all (holds (drop k ranges)) (numbers range.first range.count) ≡ true
    back h = list_all-numbers (holds (drop k ranges)) range.first range.count (λ frame low high. same frame low ∙ list_all-numbers_tells (holds ranges) range.first range.count h frame low high)
