-- The host's memory as ranges of frames is sorted and apart.
use Rattle.std.proofs.Common.{◌≡◌, ◌≢◌, ◌⊎◌, inl, inr, subst, ℕ, zero, suc, ◌+◌, ◌^◌, ◌<◌, ◌≤◌, ◌==◌, Bool, true, false, cond, List, [], ◌∷◌, filter, arith}
use Rattle.std.specs.List.{range_with_len}
use Rattle.std.proofs.lemmas.Bool.Decides.{eqb_tells}
use Rattle.texts.specs.Consecutive.{numbers}
use Rattle.texts.specs.declared.ranges.BaseSize.{BaseSize}
use Rattle.texts.specs.declared.ranges.FrameRange.{FrameRange}
use Rattle.frame_alloc.specs.Frames.{AreFrameRangesFrom, AreFrameRanges, AreFramesFrom}
use Rattle.frame_alloc.proofs.FreeFrames.{AreFramesFrom-weaker}
use Rattle.domain_bindings.specs.Hosts.{ram_regions}
use Rattle.domain_bindings.specs.Ram.{is_ram, ram_frames}
use Rattle.domain_plan.specs.Descriptions.{Description, host_of, with_frame, frames_as_ranges}

-- consecutive numbers below a bound are ascending frames
ascending_numbers : (first count : ℕ) → first + count ≤ 2 ^ 28 → AreFramesFrom first (range_with_len first count)
ascending_numbers first zero low = tt
ascending_numbers first (suc count) low = (omega arith, omega arith, ascending_numbers (first + 1) count (omega arith))

ascending_filter : (p : ℕ → Bool) (frames : List ℕ) (start : ℕ) → AreFramesFrom start frames → AreFramesFrom start (filter p frames)
ascending_filter p [] start ok = tt
ascending_filter p (x ∷ xs) start ok = choose (p x) (ascending_filter p xs (x + 1) ok.2)
  where
    choose : (b : Bool) → AreFramesFrom (x + 1) (filter p xs) → AreFramesFrom start (cond b (x ∷ filter p xs) (filter p xs))
    choose true rest = (ok.0, ok.1, rest)
    choose false rest = AreFramesFrom-weaker (filter p xs) start (x + 1) (let h : start ≤ x = ok.0 in omega arith) rest

-- a frame before ranges
one_before : (frame start : ℕ) (ranges : List FrameRange) → start ≤ frame → frame < 2 ^ 28 → AreFrameRangesFrom (frame + 1) ranges → AreFrameRangesFrom start (with_frame frame ranges)
one_before frame start [] above low ok = (above, omega arith, tt)
one_before frame start (range ∷ ranges) above low ok = by (eqb_tells range.first (frame + 1))
  where
    by : (((range.first == frame + 1) ≡ true) × (range.first ≡ frame + 1)) ⊎ (((range.first == frame + 1) ≡ false) × (range.first ≢ frame + 1)) → AreFrameRangesFrom start (with_frame frame (range ∷ ranges))
    by (inl h) =
        let next : range.first ≡ frame + 1 = h.1 in
        let end : range.first + range.count ≡ frame + (range.count + 1) = omega arith in
        let fits : range.first + range.count ≤ 2 ^ 28 = ok.1 in
        rw h.0 (above, omega arith, subst (λ (e : ℕ). AreFrameRangesFrom e ranges) end ok.2)
    by (inr h) = rw h.0 (above, omega arith, ok)

ranges_ascending : (frames : List ℕ) (start : ℕ) → AreFramesFrom start frames → AreFrameRangesFrom start (frames_as_ranges frames)
unfolding frames_as_ranges
ranges_ascending [] start ok = tt
ranges_ascending (frame ∷ frames) start ok = one_before frame start (frames_as_ranges frames) ok.0 ok.1 (ranges_ascending frames (frame + 1) ok.2)

memory_ascending : (p : ℕ → Bool) (bound : ℕ) → bound ≤ 2 ^ 28 → AreFramesFrom 0 (filter p (numbers 0 bound))
unfolding numbers
memory_ascending p bound low = ascending_filter p (range_with_len 0 bound) 0 (ascending_numbers 0 bound (omega arith))

frames_ascending : (ranges : List BaseSize) → AreFramesFrom 0 (ram_frames ranges)
unfolding ram_frames
frames_ascending ranges = memory_ascending (is_ram ranges) (2 ^ 28) (omega arith)

-- of a description
pub described_ram : (description : Description) → AreFrameRanges (host_of description).ram
described_ram description = ranges_ascending (ram_frames (ram_regions description.root)) 0 (frames_ascending (ram_regions description.root))
