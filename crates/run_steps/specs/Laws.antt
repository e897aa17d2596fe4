-- The words and the files call for one outcome, and a run answers it.
use Rattle.std.specs.Prelude.{◌≡◌, ◌⊎◌, ⊤}
use Rattle.outside.specs.declared.status.Status.{Status}
use Rattle.outside.specs.declared.status.Status.TheVariants as statuses
use Rattle.run_steps.specs.Endings.{Outcome, Refuses, Builds, Finds, Fails}

-- two outcomes refuse with one status and one message, both build the same outputs and one report, or find one list with one status;
-- a call that fails agrees with all
abbrev pub Agree : Outcome → Outcome → Type 0
Agree (Refuses status message) (Refuses other_status other_message) = (status ≡ other_status) × (message ≡ other_message)
Agree (Builds outputs report) (Builds other_outputs other_report) = (outputs ≡ other_outputs) × (report ≡ other_report)
Agree (Finds status list) (Finds other_status other_list) = (status ≡ other_status) × (list ≡ other_list)
Agree (Fails name) other = ⊤
Agree one (Fails name) = ⊤
Agree one other = ⊥

-- what is called for is one outcome
abbrev pub IsDetermined : (Outcome → Type 0) → Type 0
IsDetermined called = (one other : Outcome) → called one → called other → Agree one other

-- the status answers the outcome: that of the refusal or of the list, or that all was written; or a write failed; where a call fails, any
abbrev pub Answers : Status → Outcome → Type 0
Answers status (Refuses wanted message) = status ≡ wanted
Answers status (Builds outputs report) = (status ≡ statuses.Built) ⊎ (status ≡ statuses.Write)
Answers status (Finds wanted list) = (status ≡ wanted) ⊎ (status ≡ statuses.Write)
Answers status (Fails name) = ⊤

-- it does, unless a read failed or memory ran out
abbrev pub AnswersUnless : Type 0 → Status → Outcome → Type 0
AnswersUnless failed status outcome = failed ⊎ ((status ≡ statuses.Memory) ⊎ Answers status outcome)
