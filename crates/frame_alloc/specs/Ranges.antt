-- Ranges of frames: which frames they hold, what two lists of them have in common, and which frames a range of bytes touches. A frame is 4,096 bytes, and frames are below 2^28. A range of guest pages is written as one of frames is.
use Rattle.std.specs.Prelude.{ℕ, ◌+◌, ◌-◌, ◌/◌, ◌^◌, ◌==◌, Bool, min, if◌then◌else◌, List}
use Rattle.std.specs.List.{list_any, list_all}
use Rattle.texts.specs.declared.ranges.BaseSize.{BaseSize}
use Rattle.texts.specs.declared.ranges.FrameRange.{FrameRange}
use Rattle.frame_alloc.specs.Frames.{frames_in, is_within}

-- the frames from first on that lie before end
abbrev pub between : ℕ → ℕ → FrameRange
between first end = record { first = first; count = end - first }

-- a frame's number, or 2^28 where it would be larger
abbrev pub cut : ℕ → ℕ
cut frame = min frame (2 ^ 28)

-- the frames that hold one of the bytes of a range, cut at 2^40; an empty range touches none
abbrev pub touched : BaseSize → FrameRange
touched range =
    if range.size == 0 then between 0 0
    else between (cut (range.base / 4096)) (cut ((range.base + range.size + 4095) / 4096))

-- a frame lies in one of the ranges
abbrev pub holds : List FrameRange → ℕ → Bool
holds ranges frame = list_any (λ (range : FrameRange). is_within range.first range.count frame) ranges

-- some frame lies in both lists of ranges
unfoldable pub have_common : List FrameRange → List FrameRange → Bool
have_common ones others = list_any (holds ones) (frames_in others)

-- every frame of the others lies in one of the ranges
unfoldable pub lie_in : List FrameRange → List FrameRange → Bool
lie_in ranges others = list_all (holds ranges) (frames_in others)
