-- What a filter is called to do by its words.
use Rattle.std.specs.Prelude.{◌≡◌, ℕ, List, codes, Option, Some, None, IsNone}
use Rattle.run_steps.specs.Messages.{line}
use Rattle.run_steps.specs.Endings.{Outcome}
use Rattle.filters.specs.Words.{asked_file}

-- the words ask for no file, and the line of usage of the program of this name is said
abbrev pub AreRefused : List ℕ → List (List ℕ) → List ℕ → Type 0
AreRefused program words text = IsNone (asked_file words) × (text ≡ line program (codes "usage"))

-- what the file that is asked for calls for; where none is, nothing is called for
abbrev pub OnAsked : (List ℕ → Outcome → Type 0) → Option (List ℕ) → Outcome → Type 0
OnAsked job None outcome = ⊥
OnAsked job (Some file) outcome = job file outcome
