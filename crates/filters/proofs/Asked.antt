-- What the words of a filter call for is one outcome, and words that are refused call for none.
use Rattle.std.proofs.Common.{ℕ, List, Some, None}
use Rattle.std.specs.Prelude.{Option, IsNone}
use Rattle.run_steps.specs.Endings.{Outcome}
use Rattle.run_steps.specs.Laws.{IsDetermined}
use Rattle.run_steps.proofs.OneOutcome.{never_agrees}
use Rattle.filters.specs.Filters.{OnAsked}

-- where each file calls for one outcome, so do the words
pub asked_agrees : (job : List ℕ → Outcome → Type 0) → ((file : List ℕ) → IsDetermined (job file)) → (asked : Option (List ℕ)) → IsDetermined (OnAsked job asked)
asked_agrees job one None = never_agrees
asked_agrees job one (Some file) = one file

never_none : (file : List ℕ) → IsNone (Some file) → ⊥
never_none file none = cc

-- where no file is asked for, nothing is called for
pub none_asked : (job : List ℕ → Outcome → Type 0) (asked : Option (List ℕ)) (outcome : Outcome) → IsNone asked → OnAsked job asked outcome → ⊥
none_asked job None outcome none called = called
none_asked job (Some file) outcome none called = absurd (never_none file none)

-- where no file calls for an outcome, nor do the words
pub never_asked : (job : List ℕ → Outcome → Type 0) (outcome : Outcome) → ((file : List ℕ) → job file outcome → ⊥) → (asked : Option (List ℕ)) → OnAsked job asked outcome → ⊥
never_asked job outcome never None called = called
never_asked job outcome never (Some file) called = never file called
