-- How a run may end, and what it leaves in the outputs and the streams.
use Rattle.std.specs.Prelude.{◌≡◌, ℕ, ◌≤◌, ◌⊎◌, Bool, true, ◌&&◌, IsTrue, List, [], ◌∷◌, ◌++◌, length, Option, Some, None, option_map}
use Rattle.outside.specs.Outside.{File, Rose, and_bytes, TookPart, TookPrefix, fits_file, less_file}
use Rattle.outside.specs.declared.status.Status.{Status}

-- what a run is called to do: to refuse with a status and a message, to build outputs and a report, to find something, which is a list
-- on standard output with a status of its own, and no output, or to stop where a call for the file of a name fails
pub data Outcome : Type 0 where
  Refuses : Status → List ℕ → Outcome
  Builds : List File → List ℕ → Outcome
  Finds : Status → List ℕ → Outcome
  Fails : List ℕ → Outcome

-- the files that were taken, where they are told, with these
abbrev pub and_files : Option (List File) → List File → Option (List File)
and_files taken outputs = option_map (λ files. files ++ outputs) taken

-- all outputs before the one of that name were taken, and then nothing or the name with a prefix of its bytes
abbrev pub TookUpTo : Option (List File) → Option (List File) → List File → List ℕ → Type 0
TookUpTo old new outputs name =
    (before : List File) × (bytes : List ℕ) × (after : List File)
    × (outputs ≡ before ++ (name, bytes) ∷ after)
    × TookPart (and_files old before) new name bytes

-- the stream was given the line, or a prefix of it where its count of faults rose
abbrev pub Said : {S : Type 0} → (S → Option (List ℕ)) → (S → ℕ) → S → S → List ℕ → Type 0
Said taken faults old new line =
    (taken new ≡ and_bytes (taken old) line) ⊎ (Rose (faults old) (faults new) × TookPrefix (taken old) (taken new) line)

-- there is room for these files, one after the other
abbrev pub fits_files : ℕ × ℕ → List File → Bool
fits_files room [] = true
fits_files room (file ∷ rest) = fits_file room file.0 file.1 && fits_files (less_file room file.0 file.1) rest

-- outputs that tell what room they have, and it is enough for these files
abbrev pub TakesFiles : Option (ℕ × ℕ) → List File → Type 0
TakesFiles (Some room) files = IsTrue (fits_files room files)
TakesFiles None files = ⊥

-- a stream that tells what room it has, and it is enough for these bytes
abbrev pub TakesBytes : Option ℕ → List ℕ → Type 0
TakesBytes (Some room) bytes = length bytes ≤ room
TakesBytes None bytes = ⊥

-- there is room for these outputs and this report
abbrev pub HasRoom : Option (ℕ × ℕ) → Option ℕ → List File → List ℕ → Type 0
HasRoom outputs_room stream_room outputs report = TakesFiles outputs_room outputs × TakesBytes stream_room report
