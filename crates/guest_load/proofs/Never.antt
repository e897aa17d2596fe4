-- Words and files call for no list, and for no audit.
use Rattle.std.proofs.Common.{ℕ, List, Option, Some, None, inl, inr}
use Rattle.outside.specs.Outside.{File}
use Rattle.outside.specs.declared.status.Status.{Status}
use Rattle.outside.specs.declared.status.Status.TheVariants as statuses
use Rattle.run_steps.specs.Endings.{Refuses, Finds}
use Rattle.run_steps.proofs.Step.{found_before}
use Rattle.program.specs.Laws.{FindsNothing, AuditsNothing}
use Rattle.guest_load.specs.declared.places.LoadPart.{LoadPart}
use Rattle.guest_load.specs.LoadPlaces.{first_past}
use Rattle.guest_load.specs.Words.{Asked, asked}
use Rattle.guest_load.specs.Parts.{Parts, AfterParts, AreParts}
use Rattle.guest_load.specs.Job.{plan_of, OnRoom, IsLoading, IsWordsJob, CallsFor}
use Rattle.guest_load.proofs.PartSteps.{parts_step}
use Rattle.guest_load.proofs.Avoided.{job_avoids}

room_finds_none : (out : List ℕ) (parts : Parts) (found : Option LoadPart) (status : Status) (list : List ℕ) → OnRoom out parts found (Finds status list) → ⊥
room_finds_none out parts (Some part) status list p = p
room_finds_none out parts None status list p = p

loading_finds_none : (out : List ℕ) (parts : Parts) (status : Status) (list : List ℕ) → IsLoading out parts (Finds status list) → ⊥
loading_finds_none out parts status list (inl refused) = refused.1
loading_finds_none out parts status list (inr fits) = room_finds_none out parts (first_past parts.bank (plan_of parts)) status list fits.1

words_find_none : (told : Option (List File)) (asked : Option Asked) (status : Status) (list : List ℕ) → IsWordsJob told asked (Finds status list) → ⊥
words_find_none told None status list job = job
words_find_none told (Some asked) status list job =
    let found = found_before (AreParts told asked) (AfterParts told asked) (parts_step told asked) (IsLoading asked.out) status list job in
    loading_finds_none asked.out found.0 status list found.2

words_audit_none : (told : Option (List File)) (asked : Option Asked) (message : List ℕ) → IsWordsJob told asked (Refuses statuses.Differs message) → ⊥
words_audit_none told None message job = job
words_audit_none told (Some asked) message job = job_avoids told asked message job

pub finds_nothing : FindsNothing CallsFor
finds_nothing words told status list job = words_find_none told (asked words) status list job

pub audits_nothing : AuditsNothing CallsFor
audits_nothing words told message job = words_audit_none told (asked words) message job
