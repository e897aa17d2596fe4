-- Merged ranges of frames are determined by their frames.
use Rattle.std.proofs.Common.{◌≡◌, ◌≢◌, ◌∙◌, ap, sym, subst, refl, ℕ, zero, suc, ◌+◌, ◌<◌, ◌==◌, ◌⊎◌, inl, inr, true, false, List, [], ◌∷◌, ◌++◌, arith}
use Rattle.std.specs.List.{range_with_len}
use Rattle.std.proofs.lemmas.Bool.Decides.{eqb_tells}
use Rattle.texts.specs.Consecutive.{numbers}
use Rattle.texts.specs.declared.ranges.FrameRange.{FrameRange}
use Rattle.frame_alloc.specs.Frames.{frames_in}
use Rattle.domain_bindings.specs.Ram.{AreMergedFrom}
use Rattle.domain_plan.specs.Descriptions.{with_frame, frames_as_ranges}

-- the first of the ranges, where there is one, begins past a frame
abbrev BeginPast : ℕ → List FrameRange → Type 0
BeginPast end [] = Unit {0}
BeginPast end (range ∷ ranges) = end < range.first

begin_past : (end : ℕ) (ranges : List FrameRange) → AreMergedFrom (end + 1) ranges → BeginPast end ranges
begin_past end [] merged = tt
begin_past end (range ∷ ranges) merged = omega arith

-- a frame that no range runs on from
alone : (frame : ℕ) (ranges : List FrameRange) → BeginPast (frame + 1) ranges → with_frame frame ranges ≡ record { first = frame; count = 1 } ∷ ranges
alone frame [] past = refl
alone frame (range ∷ ranges) past = by_test (eqb_tells range.first (frame + 1))
  where
    by_test : (((range.first == frame + 1) ≡ true) × (range.first ≡ frame + 1)) ⊎ (((range.first == frame + 1) ≡ false) × (range.first ≢ frame + 1))
        → with_frame frame (range ∷ ranges) ≡ record { first = frame; count = 1 } ∷ range ∷ ranges
    by_test (inl h) = absurd (let same : range.first ≡ frame + 1 = h.1 in omega arith)
    by_test (inr h) = rw h.0 refl

-- a frame right before a range
one_more : (frame count : ℕ) (ranges : List FrameRange) → with_frame frame (record { first = frame + 1; count = count } ∷ ranges) ≡ record { first = frame; count = count + 1 } ∷ ranges
one_more frame count ranges = by_test (eqb_tells (frame + 1) (frame + 1))
  where
    by_test : (((frame + 1 == frame + 1) ≡ true) × (frame + 1 ≡ frame + 1)) ⊎ (((frame + 1 == frame + 1) ≡ false) × (frame + 1 ≢ frame + 1))
        → with_frame frame (record { first = frame + 1; count = count } ∷ ranges) ≡ record { first = frame; count = count + 1 } ∷ ranges
    by_test (inl h) = rw h.0 refl
    by_test (inr h) = absurd (h.1 refl)

-- consecutive frames before ranges that begin past their end
run_before : (count first : ℕ) (frames : List ℕ) (ranges : List FrameRange) → frames_as_ranges frames ≡ ranges → BeginPast (first + suc count) ranges
    → frames_as_ranges (range_with_len first (suc count) ++ frames) ≡ record { first = first; count = suc count } ∷ ranges
unfolding frames_as_ranges
run_before zero first frames ranges is past = ap (with_frame first) is ∙ alone first ranges past
run_before (suc count) first frames ranges is past =
    let shift : first + suc (suc count) ≡ first + 1 + suc count = omega arith in
    let longer : suc count + 1 ≡ suc (suc count) = omega arith in
    ap (with_frame first) (run_before count (first + 1) frames ranges is (subst (λ (end : ℕ). BeginPast end ranges) shift past))
    ∙ one_more first (suc count) ranges ∙ ap (λ (c : ℕ). record { first = first; count = c } ∷ ranges) longer

pub frames_as_ranges-frames_in : (ranges : List FrameRange) (start : ℕ) → AreMergedFrom start ranges → frames_as_ranges (frames_in ranges) ≡ ranges
unfolding frames_as_ranges numbers
frames_as_ranges-frames_in [] start merged = refl
frames_as_ranges-frames_in (range ∷ ranges) start merged = by range.count refl (frames_as_ranges-frames_in ranges (range.first + range.count + 1) merged.3)
  where
    by : (count : ℕ) → range.count ≡ count → frames_as_ranges (frames_in ranges) ≡ ranges → frames_as_ranges (frames_in (range ∷ ranges)) ≡ range ∷ ranges
    by zero is later = absurd (let some : 0 < range.count = merged.1 in omega arith)
    by (suc count) is later =
        let past : BeginPast (range.first + range.count) ranges = begin_past (range.first + range.count) ranges merged.3 in
        ap (λ (c : ℕ). frames_as_ranges (range_with_len range.first c ++ frames_in ranges)) is
        ∙ run_before count range.first (frames_in ranges) ranges later (subst (λ (c : ℕ). BeginPast (range.first + c) ranges) is past)
        ∙ ap (λ (c : ℕ). record { first = range.first; count = c } ∷ ranges) (sym is)
