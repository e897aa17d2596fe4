-- A run that ends as its words and files call for answers exactly that.
use Rattle.std.proofs.Common.{◌≡◌, subst, refl, ℕ, List, Some, None, inl, inr}
use Rattle.std.specs.Prelude.{◌⊎◌, Option, IfSome}
use Rattle.outside.specs.Outside.{File, Rose}
use Rattle.outside.specs.declared.status.Status.{Status}
use Rattle.outside.specs.declared.status.Status.TheVariants as statuses
use Rattle.outside.specs.Reads.{Counts}
use Rattle.run_steps.specs.Endings.{Outcome, Refuses, Builds, Finds, Fails}
use Rattle.run_steps.specs.Laws.{Agree, Answers, AnswersUnless, IsDetermined}
use Rattle.run_steps.specs.Stops.{IsCause, IsDue}
use Rattle.run_steps.specs.declared.stop.Stop.{Stop}
use Rattle.run_steps.specs.declared.stop.Stop.TheVariants.{Because}
use Rattle.program.specs.Programs.{IsFault}
use Rattle.program.specs.declared.fault.Fault.{Fault}
use Rattle.program.specs.declared.fault.Fault.TheVariants.{Stops}

refuses_answers : (status : Status) (message : List ℕ) (outcome : Outcome) → Agree (Refuses status message) outcome → Answers status outcome
refuses_answers status message (Refuses wanted other) agree = agree.0
refuses_answers status message (Builds outputs report) agree = elim agree [ ]
refuses_answers status message (Finds wanted list) agree = elim agree [ ]
refuses_answers status message (Fails name) agree = tt

builds_answers : (outputs : List File) (report : List ℕ) (status : Status) (outcome : Outcome) → (status ≡ statuses.Built) ⊎ (status ≡ statuses.Write) → Agree (Builds outputs report) outcome → Answers status outcome
builds_answers outputs report status (Builds others other) done agree = done
builds_answers outputs report status (Refuses wanted message) done agree = elim agree [ ]
builds_answers outputs report status (Finds wanted list) done agree = elim agree [ ]
builds_answers outputs report status (Fails name) done agree = tt

finds_answers : (found : Status) (list : List ℕ) (status : Status) (outcome : Outcome) → (status ≡ found) ⊎ (status ≡ statuses.Write) → Agree (Finds found list) outcome → Answers status outcome
finds_answers found list status (Finds wanted other) done agree = subst (λ (s : Status). (status ≡ s) ⊎ (status ≡ statuses.Write)) agree.0 done
finds_answers found list status (Refuses wanted message) done agree = elim agree [ ]
finds_answers found list status (Builds outputs report) done agree = elim agree [ ]
finds_answers found list status (Fails name) done agree = tt

-- what is called for is one outcome, where the files tell what they hold
module _ (called : Option (List File) → Outcome → Type 0) (one : (held : List File) → IsDetermined (called (Some held))) (told : Option (List File)) (failed : Type 0) where
  abbrev Exact : Status → Type 0
  Exact status = IfSome told (λ held. (outcome : Outcome) → called told outcome → AnswersUnless failed status outcome)

  exact_refusal : (status : Status) (message : List ℕ) → called told (Refuses status message) → Exact status
  exact_refusal status message calls = by_told told calls
    where
      by_told : (told : Option (List File)) → called told (Refuses status message) → IfSome told (λ held. (outcome : Outcome) → called told outcome → AnswersUnless failed status outcome)
      by_told None calls = tt
      by_told (Some held) calls = λ outcome job. inr (inr (refuses_answers status message outcome (one held (Refuses status message) outcome calls job)))

  pub exact_build : (outputs : List File) (report : List ℕ) (status : Status) → called told (Builds outputs report) → (status ≡ statuses.Built) ⊎ (status ≡ statuses.Write) → Exact status
  exact_build outputs report status calls done = by_told told calls
    where
      by_told : (told : Option (List File)) → called told (Builds outputs report) → IfSome told (λ held. (outcome : Outcome) → called told outcome → AnswersUnless failed status outcome)
      by_told None calls = tt
      by_told (Some held) calls = λ outcome job. inr (inr (builds_answers outputs report status outcome done (one held (Builds outputs report) outcome calls job)))

  -- where it writes, its outputs and its report are those that the told files call for
  pub same_build : (outputs : List File) (report : List ℕ) (Taken : List File → List ℕ → Type 0) → called told (Builds outputs report) → Taken outputs report
      → IfSome told (λ held. (o : List File) (r : List ℕ) → called told (Builds o r) → Taken o r)
  same_build outputs report Taken calls taken = by_told told calls
    where
      by_told : (told : Option (List File)) → called told (Builds outputs report) → IfSome told (λ held. (o : List File) (r : List ℕ) → called told (Builds o r) → Taken o r)
      by_told None calls = tt
      by_told (Some held) calls = λ o r job.
          let agree = one held (Builds outputs report) (Builds o r) calls job in
          subst (λ (files : List File). Taken files r) agree.0 (subst (Taken outputs) agree.1 taken)

  pub exact_finding : (found : Status) (list : List ℕ) (status : Status) → called told (Finds found list) → (status ≡ found) ⊎ (status ≡ statuses.Write) → Exact status
  exact_finding found list status calls done = by_told told calls
    where
      by_told : (told : Option (List File)) → called told (Finds found list) → IfSome told (λ held. (outcome : Outcome) → called told outcome → AnswersUnless failed status outcome)
      by_told None calls = tt
      by_told (Some held) calls = λ outcome job. inr (inr (finds_answers found list status outcome done (one held (Finds found list) outcome calls job)))

  -- where something is found, nothing is built
  pub no_build : (found : Status) (list : List ℕ) (Taken : List File → List ℕ → Type 0) → called told (Finds found list)
      → IfSome told (λ held. (o : List File) (r : List ℕ) → called told (Builds o r) → Taken o r)
  no_build found list Taken calls = by_told told calls
    where
      by_told : (told : Option (List File)) → called told (Finds found list) → IfSome told (λ held. (o : List File) (r : List ℕ) → called told (Builds o r) → Taken o r)
      by_told None calls = tt
      by_told (Some held) calls = λ o r job. absurd (one held (Finds found list) (Builds o r) calls job)

  read_failed : failed → (status : Status) → Exact status
  read_failed fell status = by_told told
    where
      by_told : (told : Option (List File)) → IfSome told (λ held. (outcome : Outcome) → called told outcome → AnswersUnless failed status outcome)
      by_told None = tt
      by_told (Some held) = λ outcome job. inl fell

  -- words that ask for nothing call for nothing
  pub exact_unasked : ((outcome : Outcome) → called told outcome → ⊥) → (status : Status) → Exact status
  exact_unasked never status = by_told told never
    where
      by_told : (told : Option (List File)) → ((outcome : Outcome) → called told outcome → ⊥) → IfSome told (λ held. (outcome : Outcome) → called told outcome → AnswersUnless failed status outcome)
      by_told None never = tt
      by_told (Some held) never = λ outcome job. absurd (never outcome job)

  -- want of memory is answered freely
  pub exact_memory : Exact statuses.Memory
  exact_memory = by_told told
    where
      by_told : (told : Option (List File)) → IfSome told (λ held. (outcome : Outcome) → called told outcome → AnswersUnless failed statuses.Memory outcome)
      by_told None = tt
      by_told (Some held) = λ outcome job. inr (inl refl)

-- so does one that stops before its first write
module _ (called : Option (List File) → Outcome → Type 0) (one : (held : List File) → IsDetermined (called (Some held))) (told : Option (List File)) (before after : Counts) where
  pub exact_stop : (status : Status) (message : List ℕ) → IsCause (called told) before after status message → Exact called one told (Rose before.failed after.failed) status
  exact_stop statuses.Refused message cause = exact_refusal called one told _ statuses.Refused message cause
  exact_stop statuses.Format message cause = exact_refusal called one told _ statuses.Format message cause
  exact_stop statuses.Differs message cause = exact_refusal called one told _ statuses.Differs message cause
  exact_stop statuses.Read message (inl failed) = read_failed called one told _ failed.0 statuses.Read
  exact_stop statuses.Read message (inr absent) = exact_refusal called one told _ statuses.Read message absent.1
  exact_stop statuses.Longer message cause = exact_refusal called one told _ statuses.Longer message cause.1
  exact_stop statuses.Built message cause = elim cause [ ]
  exact_stop statuses.Memory message cause = elim cause [ ]
  exact_stop statuses.Words message cause = elim cause [ ]
  exact_stop statuses.Write message cause = elim cause [ ]

-- the cause of a fault that is a stop
pub fault_cause : (name : List ℕ) (refused : List ℕ → Type 0) (called : Outcome → Type 0) (before after : Counts) (fault : Fault) (stop : Stop) (status : Status) (message : List ℕ) → IsFault name refused called before after fault
    → fault ≡ Stops stop → stop ≡ Because status message → IsCause called before after status message
fault_cause name refused called before after fault stop status message due is because_is =
    subst (λ (s : Stop). IsDue called before after s) because_is (subst (λ (f : Fault). IsFault name refused called before after f) is due)
