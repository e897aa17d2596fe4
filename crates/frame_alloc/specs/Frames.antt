-- Lists of free host frames, ascending, and what is drawn from them. A frame is a host page of 4,096 bytes, by its number.
use Rattle.std.specs.Prelude.{ℕ, ◌+◌, ◌%◌, ◌^◌, ◌<◌, ◌≤◌, ◌==◌, ◌&&◌, nat_lt, nat_le, not, Bool, List, [], ◌∷◌, filter, flat_map, find, count_by, slice_get, Option}
use Rattle.std.specs.List.{list_all}
use Rattle.texts.specs.Consecutive.{numbers, is_in}
use Rattle.texts.specs.declared.ranges.FrameRange.{FrameRange}

-- the frames of a list of ranges, in order
abbrev pub frames_in : List FrameRange → List ℕ
frames_in ranges = flat_map (λ (range : FrameRange). numbers range.first range.count) ranges

-- the ranges begin at or above a frame, each begins at or above the end of the one before, and all end at or below frame 2^28
abbrev pub AreFrameRangesFrom : ℕ → List FrameRange → Type 0
AreFrameRangesFrom start [] = Unit {0}
AreFrameRangesFrom start (range ∷ ranges) =
    (start ≤ range.first) × (range.first + range.count ≤ 2 ^ 28) × AreFrameRangesFrom (range.first + range.count) ranges

-- sorted ranges that are apart, though they may touch or be empty, and end at or below frame 2^28
abbrev pub AreFrameRanges : List FrameRange → Type 0
AreFrameRanges ranges = AreFrameRangesFrom 0 ranges

-- the frames begin at or above a frame, each is above the one before, and all are below 2^28
abbrev pub AreFramesFrom : ℕ → List ℕ → Type 0
AreFramesFrom start [] = Unit {0}
AreFramesFrom start (frame ∷ frames) = (start ≤ frame) × (frame < 2 ^ 28) × AreFramesFrom (frame + 1) frames

-- ascending frames below 2^28: none stands twice
abbrev pub AreFrames : List ℕ → Type 0
AreFrames frames = AreFramesFrom 0 frames

-- whether a frame is one of count frames from first on
abbrev pub is_within : ℕ → ℕ → ℕ → Bool
is_within first count frame = nat_le first frame && nat_lt frame (first + count)

-- the frames but for those among count frames from first on
unfoldable pub without : ℕ → ℕ → List ℕ → List ℕ
without first count frames = filter (λ frame. not (is_within first count frame)) frames

-- the lowest frame
abbrev pub lowest_frame : List ℕ → Option ℕ
lowest_frame frames = slice_get frames 0

-- whether a run begins at a frame: that many consecutive frames from it on are free
abbrev pub begins_run : ℕ → List ℕ → ℕ → Bool
begins_run count frames first = list_all (is_in frames) (numbers first count)

-- the first frame of the lowest run of so many consecutive frames
unfoldable pub lowest_run : ℕ → List ℕ → Option ℕ
lowest_run count frames = find (begins_run count frames) frames

-- whether a group begins at a frame: a run of its size that begins at a multiple of it
abbrev pub begins_group : ℕ → List ℕ → ℕ → Bool
begins_group size frames first = (first % size == 0) && begins_run size frames first

-- the first frame of the lowest group of a size
unfoldable pub lowest_group : ℕ → List ℕ → Option ℕ
lowest_group size frames = find (begins_group size frames) frames

-- the first frame of the lowest chunk: 512 consecutive free frames, the first a multiple of 512
abbrev pub lowest_chunk : List ℕ → Option ℕ
lowest_chunk frames = lowest_group 512 frames

-- the first frame of the lowest pair: two consecutive free frames, the first even
abbrev pub lowest_pair : List ℕ → Option ℕ
lowest_pair frames = lowest_group 2 frames

-- how many chunks can still be taken: two chunks have no frame in common, so it is how many frames begin one
unfoldable pub chunk_count : List ℕ → ℕ
chunk_count frames = count_by (begins_group 512 frames) frames
