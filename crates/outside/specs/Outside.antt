-- What files, outputs and streams are: what they hold or took, where that is told, and counts that never fall.
use Rattle.std.specs.Prelude.{◌≡◌, ℕ, ◌+◌, ◌-◌, ◌^◌, ◌≤◌, min, ◌⊎◌, ◌&&◌, Bool, if◌then◌else◌, nat_le, ⊤, bytes_eq, List, [], ◌∷◌, ◌++◌, length, take, find, Option, Some, None, option_map, Result, Ok, Err, Vec}
use Rattle.std.specs.declared.alloc.Global.{Global}
use Rattle.outside.specs.declared.files.FileError.{FileError}
use Rattle.outside.specs.declared.files.FileError.TheVariants as read_errors
use Rattle.outside.specs.declared.files.SizeError.{SizeError}
use Rattle.outside.specs.declared.files.SizeError.TheVariants as size_errors

-- the last value of a counter
abbrev pub last_count : ℕ
last_count = 2 ^ 64 - 1

-- a count after one more
abbrev pub one_more : ℕ → ℕ
one_more count = min (count + 1) last_count

-- the count rose: it is greater than before, or stands at its last value
abbrev pub Rose : ℕ → ℕ → Type 0
Rose before now = one_more before ≤ now

-- a file: its name and its bytes
abbrev pub File : Type 0
File = List ℕ × List ℕ

-- the bytes of the first file of that name
abbrev pub bytes_of : List File → List ℕ → Option (List ℕ)
bytes_of files name = option_map (λ file. file.1) (find (λ file. bytes_eq file.0 name) files)

-- the bytes, unless there are more than the limit
abbrev pub within_limit : ℕ → Option (List ℕ) → Result (List ℕ) FileError
within_limit limit None = Err read_errors.Absent
within_limit limit (Some bytes) = if nat_le (length bytes) limit then Ok bytes else Err read_errors.Longer

-- what a read of these files is to give
abbrev pub reading : List File → List ℕ → ℕ → Result (List ℕ) FileError
reading files name limit = within_limit limit (bytes_of files name)

-- a read gave that, or it failed, or memory ran out
abbrev pub ReadGives : Result (List ℕ) FileError → Result (Vec ℕ Global) FileError → Type 0
ReadGives told (Ok bytes) = told ≡ Ok bytes.items
ReadGives told (Err read_errors.Absent) = told ≡ Err read_errors.Absent
ReadGives told (Err read_errors.Longer) = told ≡ Err read_errors.Longer
ReadGives told (Err read_errors.Failed) = ⊤
ReadGives told (Err read_errors.Memory) = ⊤

-- the size of a held file was given, or the call failed
abbrev pub SizeGives : Option (List ℕ) → Result ℕ SizeError → Type 0
SizeGives told (Ok size) = option_map (λ bytes. length bytes) told ≡ Some size
SizeGives told (Err size_errors.Absent) = told ≡ None
SizeGives told (Err size_errors.Failed) = ⊤

-- the files that were taken, where they are told, with one more
abbrev pub and_file : Option (List File) → List ℕ → List ℕ → Option (List File)
and_file taken name bytes = option_map (λ files. files ++ (name, bytes) ∷ []) taken

-- the bytes that were taken, where they are told, with more
abbrev pub and_bytes : Option (List ℕ) → List ℕ → Option (List ℕ)
and_bytes taken bytes = option_map (λ before. before ++ bytes) taken

-- a failed write took nothing, or the name with a prefix of the bytes
abbrev pub TookPart : Option (List File) → Option (List File) → List ℕ → List ℕ → Type 0
TookPart old new name bytes = (new ≡ old) ⊎ ((k : ℕ) × (new ≡ and_file old name (take k bytes)))

-- a failed put took a prefix of the bytes
abbrev pub TookPrefix : Option (List ℕ) → Option (List ℕ) → List ℕ → Type 0
TookPrefix old new bytes = (k : ℕ) × (new ≡ and_bytes old (take k bytes))

-- the room that one file takes: one of files, and of bytes those of its name and contents
abbrev pub fits_file : ℕ × ℕ → List ℕ → List ℕ → Bool
fits_file room name bytes = nat_le 1 room.0 && nat_le (length name + length bytes) room.1

-- the room that is left after one file
abbrev pub less_file : ℕ × ℕ → List ℕ → List ℕ → ℕ × ℕ
less_file room name bytes = (room.0 - 1, room.1 - (length name + length bytes))
