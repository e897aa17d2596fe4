-- The frames of ranges and of extents are ascending and below 2^28.
use Rattle.std.proofs.Common.{◌≡◌, ℕ, zero, suc, ◌+◌, ◌-◌, ◌^◌, ◌<◌, ◌≤◌, List, [], ◌∷◌, ◌++◌, Some, arith}
use Rattle.std.specs.List.{range_with_len}
use Rattle.texts.specs.Consecutive.{numbers}
use Rattle.texts.specs.declared.ranges.FrameRange.{FrameRange}
use Rattle.frame_alloc.specs.Frames.{frames_in, AreFrameRanges, AreFrameRangesFrom, AreFrames, AreFramesFrom, lowest_run, lowest_group}
use Rattle.frame_alloc.specs.Extents.{frames_of, AreExtentsFrom}
use Rattle.frame_alloc.specs.declared.extents.Extent.{Extent}
use Rattle.frame_alloc.proofs.FreeFrames.{AreFramesFrom-weaker, AreFramesFrom-member, lowest_run-tells, lowest_group-tells}

-- consecutive frames before ascending ones
ascending_front : (a n start : ℕ) (rest : List ℕ) → start ≤ a → a + n ≤ 2 ^ 28 → AreFramesFrom (a + n) rest → AreFramesFrom start (range_with_len a n ++ rest)
ascending_front a zero start rest low high ok = AreFramesFrom-weaker rest start (a + 0) (omega arith) ok
ascending_front a (suc n) start rest low high ok = (low, omega arith, ascending_front (a + 1) n (a + 1) rest (omega arith) (omega arith) (AreFramesFrom-weaker rest (a + 1 + n) (a + suc n) (omega arith) ok))

extents_ascend : (es : List Extent) (start : ℕ) → AreExtentsFrom start es → AreFramesFrom start (frames_of es)
unfolding numbers
extents_ascend [] start ok = tt
extents_ascend (e ∷ es) start ok =
    ascending_front e.first e.count start (frames_of es) ok.0 ok.2
    (AreFramesFrom-weaker (frames_of es) (e.first + e.count) (e.first + e.count + 1) (omega arith) (extents_ascend es (e.first + e.count + 1) ok.3))

-- the frames of extents
pub AreFrames-frames_of : (es : List Extent) → AreExtentsFrom 0 es → AreFrames (frames_of es)
AreFrames-frames_of es ok = extents_ascend es 0 ok

ranges_ascend : (ranges : List FrameRange) (start : ℕ) → AreFrameRangesFrom start ranges → AreFramesFrom start (frames_in ranges)
unfolding numbers
ranges_ascend [] start ok = tt
ranges_ascend (range ∷ ranges) start ok = ascending_front range.first range.count start (frames_in ranges) ok.0 ok.1 (ranges_ascend ranges (range.first + range.count) ok.2)

-- the frames of sorted ranges
pub AreFrames-frames_in : (ranges : List FrameRange) → AreFrameRanges ranges → AreFrames (frames_in ranges)
AreFrames-frames_in ranges ok = ranges_ascend ranges 0 ok

-- a group ends at or below frame 2^28
pub lowest_group-bound : (size : ℕ) (frames : List ℕ) (first : ℕ) → 0 < size → AreFrames frames → lowest_group size frames ≡ Some first → first + size ≤ 2 ^ 28
lowest_group-bound size frames first some ok is =
    let told = lowest_group-tells size frames first is in
    let last = AreFramesFrom-member frames 0 (first + size - 1) ok (told.1 (first + size - 1) (omega arith) (omega arith)) in
    let below : first + size - 1 < 2 ^ 28 = last.1 in
    omega arith

-- so does a run
pub lowest_run-bound : (count : ℕ) (frames : List ℕ) (first : ℕ) → 0 < count → AreFrames frames → lowest_run count frames ≡ Some first → first + count ≤ 2 ^ 28
lowest_run-bound count frames first some ok is =
    let last = AreFramesFrom-member frames 0 (first + count - 1) ok (lowest_run-tells count frames first is (first + count - 1) (omega arith) (omega arith)) in
    let below : first + count - 1 < 2 ^ 28 = last.1 in
    omega arith
