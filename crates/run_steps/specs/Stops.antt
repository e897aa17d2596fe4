-- Why a run stops before its first write, status by status.
use Rattle.std.specs.Prelude.{◌≡◌, ℕ, ◌⊎◌, ⊤, List, codes}
use Rattle.outside.specs.Outside.{Rose}
use Rattle.outside.specs.Reads.{Counts}
use Rattle.outside.specs.declared.status.Status.{Status}
use Rattle.outside.specs.declared.status.Status.TheVariants as statuses
use Rattle.run_steps.specs.declared.stop.Stop.{Stop}
use Rattle.run_steps.specs.declared.stop.Stop.TheVariants.{Memory, Because}
use Rattle.run_steps.specs.Messages.{file_message}
use Rattle.run_steps.specs.Endings.{Outcome, Refuses, Fails}

-- the message says that the call for a file failed that is called for, so no earlier step refuses
abbrev pub IsReadFailure : (Outcome → Type 0) → List ℕ → Type 0
IsReadFailure called message = (name : List ℕ) × (message ≡ file_message name (codes "read failed")) × called (Fails name)

-- why a run ends with this status and message before it writes: it is called for, and the count of its cause rose
abbrev pub IsCause : (Outcome → Type 0) → Counts → Counts → Status → List ℕ → Type 0
IsCause called before after statuses.Refused message = called (Refuses statuses.Refused message)
IsCause called before after statuses.Format message = called (Refuses statuses.Format message)
IsCause called before after statuses.Read message =
    (Rose before.failed after.failed × IsReadFailure called message) ⊎ (Rose before.absent after.absent × called (Refuses statuses.Read message))
IsCause called before after statuses.Longer message = Rose before.overlong after.overlong × called (Refuses statuses.Longer message)
IsCause called before after statuses.Differs message = called (Refuses statuses.Differs message)
IsCause called before after status message = ⊥

-- a stop is due: memory ran out, or its cause is there
abbrev pub IsDue : (Outcome → Type 0) → Counts → Counts → Stop → Type 0
IsDue called before after Memory = ⊤
IsDue called before after (Because status message) = IsCause called before after status message

-- a stop is due for what a step over files calls for, by what was counted
abbrev pub StopsFor : {F : Type 0} → (F → Counts) → F → F → (Outcome → Type 0) → Stop → Type 0
StopsFor counts old new called stop = IsDue called (counts old) (counts new) stop

-- why a step that reaches no file ends a run: it is called for
abbrev pub IsOwnCause : (Outcome → Type 0) → Status → List ℕ → Type 0
IsOwnCause called statuses.Refused message = called (Refuses statuses.Refused message)
IsOwnCause called statuses.Format message = called (Refuses statuses.Format message)
IsOwnCause called statuses.Differs message = called (Refuses statuses.Differs message)
IsOwnCause called status message = ⊥

-- such a stop is due
abbrev pub IsOwnDue : (Outcome → Type 0) → Stop → Type 0
IsOwnDue called Memory = ⊤
IsOwnDue called (Because status message) = IsOwnCause called status message
