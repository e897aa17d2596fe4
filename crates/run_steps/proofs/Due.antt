-- A stop that is due for a step of a run is due for the run.
use Rattle.std.proofs.Common.{◌≤◌, ℕ, List, inl, inr, arith}
use Rattle.std.specs.Prelude.{Result, Ok, Err, IfOk, IfErr}
use Rattle.outside.specs.Outside.{Rose}
use Rattle.outside.specs.declared.status.Status.{Status}
use Rattle.outside.specs.declared.status.Status.TheVariants as statuses
use Rattle.outside.specs.Reads.{Counts, Grew}
use Rattle.run_steps.specs.declared.stop.Stop.{Stop}
use Rattle.run_steps.specs.declared.stop.Stop.TheVariants.{Memory, Because}
use Rattle.run_steps.specs.Endings.{Outcome}
use Rattle.run_steps.specs.PrivateOutcomes.{outcome_of}
use Rattle.run_steps.specs.declared.output.Build.{Build}
use Rattle.run_steps.specs.Stops.{IsCause, IsDue, IsOwnCause, IsOwnDue}

-- a count that rose later rose
pub rose_later : (old mid new : ℕ) → old ≤ mid → Rose mid new → Rose old new
rose_later old mid new grew rose = grind (arith)

-- a count that is 0 always does not rise
pub never_rises : Rose 0 0 → ⊥
never_rises rose = absurd (omega arith)

-- counts that grew twice grew
pub grew_twice : (old mid new : Counts) → Grew old mid → Grew mid new → Grew old new
grew_twice old mid new one other = (grind (arith), grind (arith), grind (arith))

module _ (job other : Outcome → Type 0) (implied : (outcome : Outcome) → job outcome → other outcome) where
  -- the same stop is due for what is called for where the step's is
  module _ (old mid new : Counts) (grew : Grew old mid) where
    cause_later : (status : Status) (message : List ℕ) → IsCause job mid new status message → IsCause other old new status message
    cause_later statuses.Refused message cause = implied _ cause
    cause_later statuses.Format message cause = implied _ cause
    cause_later statuses.Read message (inl failed) = inl (rose_later _ _ _ grew.0 failed.0, (failed.1.0, failed.1.1, implied _ failed.1.2))
    cause_later statuses.Read message (inr absent) = inr (rose_later _ _ _ grew.1 absent.0, implied _ absent.1)
    cause_later statuses.Longer message cause = (rose_later _ _ _ grew.2 cause.0, implied _ cause.1)
    cause_later statuses.Built message cause = elim cause [ ]
    cause_later statuses.Memory message cause = elim cause [ ]
    cause_later statuses.Words message cause = elim cause [ ]
    cause_later statuses.Write message cause = elim cause [ ]
    cause_later statuses.Differs message cause = implied _ cause

    pub due_later : (stop : Stop) → IsDue job mid new stop → IsDue other old new stop
    due_later Memory due = tt
    due_later (Because status message) due = cause_later status message due

  own_cause : (status : Status) (message : List ℕ) → IsOwnCause job status message → IsOwnCause other status message
  own_cause statuses.Refused message cause = implied _ cause
  own_cause statuses.Format message cause = implied _ cause
  own_cause statuses.Built message cause = elim cause [ ]
  own_cause statuses.Memory message cause = elim cause [ ]
  own_cause statuses.Words message cause = elim cause [ ]
  own_cause statuses.Read message cause = elim cause [ ]
  own_cause statuses.Write message cause = elim cause [ ]
  own_cause statuses.Longer message cause = elim cause [ ]
  own_cause statuses.Differs message cause = implied _ cause

  -- a step that reaches no file stops for the same as what follows from it
  pub own_due : (stop : Stop) → IsOwnDue job stop → IsOwnDue other stop
  own_due Memory due = tt
  own_due (Because status message) due = own_cause status message due

  -- and for the same whatever the counts are
  module _ (old new : Counts) where
    cause_anyway : (status : Status) (message : List ℕ) → IsOwnCause job status message → IsCause other old new status message
    cause_anyway statuses.Refused message cause = implied _ cause
    cause_anyway statuses.Format message cause = implied _ cause
    cause_anyway statuses.Built message cause = elim cause [ ]
    cause_anyway statuses.Memory message cause = elim cause [ ]
    cause_anyway statuses.Words message cause = elim cause [ ]
    cause_anyway statuses.Read message cause = elim cause [ ]
    cause_anyway statuses.Write message cause = elim cause [ ]
    cause_anyway statuses.Longer message cause = elim cause [ ]
    cause_anyway statuses.Differs message cause = implied _ cause

    pub due_anyway : (stop : Stop) → IsOwnDue job stop → IsDue other old new stop
    due_anyway Memory due = tt
    due_anyway (Because status message) due = cause_anyway status message due

-- counts that stand still
grew_none : (counts : Counts) → Grew counts counts
grew_none counts = (grind (arith), grind (arith), grind (arith))

-- a stop that is due for a step is due for what begins with it
pub due_here : (job other : Outcome → Type 0) (implied : (outcome : Outcome) → job outcome → other outcome) (old new : Counts) → (stop : Stop) → IsDue job old new stop → IsDue other old new stop
due_here job other implied old new stop due = due_later job other implied old old new (grew_none old) stop due

-- the same of what a step answers
pub stopped_later : {A : Type 0} (job other : Outcome → Type 0) (implied : (outcome : Outcome) → job outcome → other outcome) (old mid new : Counts) → Grew old mid
    → (result : Result A Stop) → IfErr result (λ stop. IsDue job mid new stop) → IfErr result (λ stop. IsDue other old new stop)
stopped_later job other implied old mid new grew (Ok value) due = tt
stopped_later job other implied old mid new grew (Err stop) due = due_later job other implied old mid new grew stop due

pub stopped_anyway : {A : Type 0} (job other : Outcome → Type 0) (implied : (outcome : Outcome) → job outcome → other outcome) (old new : Counts)
    → (result : Result A Stop) → IfErr result (λ stop. IsOwnDue job stop) → IfErr result (λ stop. IsDue other old new stop)
stopped_anyway job other implied old new (Ok value) due = tt
stopped_anyway job other implied old new (Err stop) due = due_anyway job other implied old new stop due

-- what is made for a step is made for the run
pub built_for : (job other : Outcome → Type 0) (implied : (outcome : Outcome) → job outcome → other outcome)
    → (result : Result Build Stop) → IfOk result (λ build. job (outcome_of build)) → IfOk result (λ build. other (outcome_of build))
built_for job other implied (Ok build) made = implied _ made
built_for job other implied (Err stop) made = tt
