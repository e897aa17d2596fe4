-- Where two lists of runs part. Only private contracts and proofs use this file.
use Rattle.std.specs.Prelude.{ℕ, ◌+◌, ◌==◌, ◌&&◌, min, Bool, if◌then◌else◌, List, [], ◌∷◌, Option, Some, None}
use Rattle.described.specs.Maps.{attributes}
use Rattle.described.specs.declared.map_range.MapRange.{MapRange}
use Rattle.stage2_walk.specs.declared.run.Run.{Run}

-- the run that a range of a plan is
abbrev pub planned_run : MapRange → Run
planned_run range = record { page = range.page; first = range.first; count = range.count; attr = attributes range.kind }

-- two runs begin at one page, and go to the same frames with the same attributes
abbrev pub begin_alike : Run → Run → Bool
begin_alike one other = (one.page == other.page) && (one.first == other.first) && (one.attr == other.attr)

-- two runs are one
abbrev pub are_same : Run → Run → Bool
are_same one other = begin_alike one other && (one.count == other.count)

-- the first page where two runs part: where the shorter one ends, if they begin alike, and else where the first of them begins
abbrev pub parting_page : Run → Run → ℕ
parting_page one other = if begin_alike one other then other.page + min one.count other.count else min one.page other.page

-- the first page where runs part from the runs of a plan
abbrev pub parting : List Run → List MapRange → Option ℕ
parting [] [] = None
parting [] (range ∷ ranges) = Some range.page
parting (run ∷ runs) [] = Some run.page
parting (run ∷ runs) (range ∷ ranges) =
    if are_same run (planned_run range) then parting runs ranges else Some (parting_page run (planned_run range))
