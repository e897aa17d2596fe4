-- What a program's relations owe, so that its run is exact.
use Rattle.std.specs.Prelude.{ℕ, List, Option, Some}
use Rattle.outside.specs.Outside.{File}
use Rattle.outside.specs.declared.status.Status.{Status}
use Rattle.outside.specs.declared.status.Status.TheVariants as statuses
use Rattle.run_steps.specs.Endings.{Outcome, Refuses, Finds}
use Rattle.run_steps.specs.Laws.{IsDetermined}

-- the words and the files call for one outcome
abbrev pub IsOneOutcome : (List (List ℕ) → Option (List File) → Outcome → Type 0) → Type 0
IsOneOutcome calls_for = (words : List (List ℕ)) (held : List File) → IsDetermined (calls_for words (Some held))

-- words that are refused call for nothing
abbrev pub AsksNothing : (List (List ℕ) → List ℕ → Type 0) → (List (List ℕ) → Option (List File) → Outcome → Type 0) → Type 0
AsksNothing refuses calls_for =
    (words : List (List ℕ)) (text : List ℕ) (told : Option (List File)) (outcome : Outcome) → refuses words text → calls_for words told outcome → ⊥

-- ---- what a program may owe besides

-- no list is called for: all that a run puts on standard output is a report
abbrev pub FindsNothing : (List (List ℕ) → Option (List File) → Outcome → Type 0) → Type 0
FindsNothing calls_for = (words : List (List ℕ)) (told : Option (List File)) (status : Status) (list : List ℕ) → calls_for words told (Finds status list) → ⊥

-- nothing is audited: no run is refused because what it looked at differs from what it is to be
abbrev pub AuditsNothing : (List (List ℕ) → Option (List File) → Outcome → Type 0) → Type 0
AuditsNothing calls_for = (words : List (List ℕ)) (told : Option (List File)) (message : List ℕ) → calls_for words told (Refuses statuses.Differs message) → ⊥
