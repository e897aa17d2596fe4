-- What files, outputs and streams in memory hold.
use Rattle.std.specs.Prelude.{ℕ, ◌==◌, ◌/◌, Bool, List, [], ◌∷◌, length, take, Option, Some, None}
use Rattle.std.specs.List.{list_any}
use Rattle.outside.specs.Outside.{File}
use Rattle.outside.specs.Reads.{Counts}

-- the number stands in the list
abbrev pub is_listed : List ℕ → ℕ → Bool
is_listed numbers n = list_any (λ number. number == n) numbers

-- files in memory: the calls made so far, the numbers of those that are to fail, and the three counts
pub record HeldFiles : Type 0 where
  pub files : List File
  pub calls : ℕ
  pub failing : List ℕ
  pub faults : ℕ
  pub absents : ℕ
  pub overlong : ℕ

-- all files are told
abbrev pub told_files : HeldFiles → Option (List File)
told_files held = Some held.files

-- the three counts
abbrev pub file_counts : HeldFiles → Counts
file_counts held = record { failed = held.faults; absent = held.absents; overlong = held.overlong }

-- the three counts of files none of whose calls fails
abbrev pub sure_counts : HeldFiles → Counts
sure_counts held = record { failed = 0; absent = held.absents; overlong = held.overlong }

-- outputs in memory, and the room that is left: of files, and of bytes of names and contents
pub record TakenFiles : Type 0 where
  pub written : List File
  pub room : ℕ × ℕ
  pub calls : ℕ
  pub failing : List ℕ
  pub faults : ℕ

-- a stream in memory, and the room that is left in bytes
pub record TakenBytes : Type 0 where
  pub bytes : List ℕ
  pub room : ℕ
  pub calls : ℕ
  pub failing : List ℕ
  pub faults : ℕ

-- the first half, rounded down, of what is to fail by its number
abbrev pub first_half : List ℕ → List ℕ
first_half bytes = take (length bytes / 2) bytes

-- the room is told where no call is to fail
abbrev pub told_room : {R : Type 0} → List ℕ → R → Option R
told_room [] room = Some room
told_room (call ∷ calls) room = None
