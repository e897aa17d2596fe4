-- Frames that are left when some are taken. Only private contracts and proofs use this file.
use Rattle.std.specs.Prelude.{◌≡◌, ◌^◌, ◌<◌, ◌&&◌, ℕ, not, Bool, List}
use Rattle.texts.specs.Consecutive.{is_in}
use Rattle.texts.specs.declared.ranges.FrameRange.{FrameRange}
use Rattle.described.specs.declared.map_range.MapRange.{MapRange}
use Rattle.frame_alloc.specs.Frames.{AreFrameRanges}
use Rattle.frame_alloc.specs.Ranges.{holds}

-- no range holds the frame
abbrev pub is_outside : List FrameRange → ℕ → Bool
is_outside ranges frame = not (holds ranges frame)

-- the frames that a range of a plan goes to
abbrev pub host_frames : MapRange → FrameRange
host_frames range = record { first = range.first; count = range.count }

-- one frame alone
abbrev pub one_frame : ℕ → FrameRange
one_frame frame = record { first = frame; count = 1 }

-- sorted ranges that are apart hold the frames below 2^28 that are not taken
pub record IsRest (taken : ℕ → Bool) (ranges : List FrameRange) : Type 0 where
  pub apart : AreFrameRanges ranges
  pub rest : (frame : ℕ) → frame < 2 ^ 28 → holds ranges frame ≡ not (taken frame)

-- sorted ranges that are apart hold the frames of others but for these
pub record IsLeft (ranges : List FrameRange) (frames : List ℕ) (rest : List FrameRange) : Type 0 where
  pub apart : AreFrameRanges rest
  pub left : (frame : ℕ) → holds rest frame ≡ (holds ranges frame && not (is_in frames frame))
