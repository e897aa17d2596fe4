-- What the words and the files call for: no list is found, what is refused for its format has a fault, and what is refused else is too long.
use Rattle.std.proofs.Common.{◌≡◌, ◌<◌, ℕ, List, Some, None, length, refl, inl, inr}
use Rattle.std.specs.Prelude.{Option, Result, Ok, Err}
use Rattle.outside.specs.Outside.{File}
use Rattle.outside.specs.declared.files.FileError.{FileError}
use Rattle.outside.specs.declared.files.FileError.TheVariants as read_errors
use Rattle.outside.specs.declared.status.Status.{Status}
use Rattle.outside.specs.declared.status.Status.TheVariants as statuses
use Rattle.fdt_read.specs.declared.fault.FdtFault.{FdtFault}
use Rattle.fdt_read.specs.FaultTexts.{fault_text}
use Rattle.fdt_read.specs.Refusals.{refusal}
use Rattle.fdt_write.specs.Flattened.{length_limit}
use Rattle.run_steps.specs.Messages.{file_message}
use Rattle.run_steps.specs.Endings.{Outcome, Refuses, Finds, Fails}
use Rattle.run_steps.specs.Steps.{OnResult, IsReading, IsReadRefusal}
use Rattle.run_steps.proofs.Step.{found_before}
use Rattle.tree_files.specs.Lengths.{too_long_message}
use Rattle.tree_files.specs.Trees.{tree_limit, FlatTree, AfterTree, AfterTreeFile, IsTreeFile}
use Rattle.tree_files.proofs.TreeSteps.{tree_file_step}
use Rattle.program.specs.Laws.{FindsNothing}
use Rattle.filters.specs.Words.{asked_file}
use Rattle.filters.specs.Filters.{OnAsked}
use Rattle.filters.proofs.Asked.{never_asked}
use Rattle.fdt_canonical.specs.Canonical.{IsCanonicalOf}
use Rattle.fdt_canonical.specs.Job.{spelling, IsRespelling, IsFileRespelling, CallsFor}

no_failure : {status : Status} {name message : List ℕ} → Refuses status message ≡ Fails name → ⊥
no_failure e = cc

module _ (status : Status) (list : List ℕ) where
  respelling_finds_none : (name : List ℕ) (tree : FlatTree) → IsRespelling name tree (Finds status list) → ⊥
  respelling_finds_none name tree (inl refused) = refused.1
  respelling_finds_none name tree (inr written) = written.1

  file_finds_none : (told : Option (List File)) (name : List ℕ) → IsFileRespelling told name (Finds status list) → ⊥
  file_finds_none told name job =
      let found = found_before (IsTreeFile told name) (AfterTreeFile told name) (tree_file_step told name) (IsRespelling name) status list job in
      respelling_finds_none name found.0 found.2

pub finds_nothing : FindsNothing CallsFor
finds_nothing words told status list job = never_asked (IsFileRespelling told) (Finds status list) (file_finds_none status list told) (asked_file words) job

module _ (told : Option (List File)) where
  module _ (name message : List ℕ) where
    -- a file of this name is no flattened tree, and this is the message of its first fault
    pub record IsFaulty : Type 0 where
      pub file : List ℕ
      pub fault : FdtFault
      pub read : IsReading told name tree_limit (Ok file)
      pub faulty : refusal file ≡ Some fault
      pub said : message ≡ file_message name (fault_text fault)

    -- a file of this name has a canonical spelling that is too long, of which this is the message
    pub record IsTooLong : Type 0 where
      pub file : List ℕ
      pub bytes : List ℕ
      pub read : IsReading told name tree_limit (Ok file)
      pub canonical : IsCanonicalOf file bytes
      pub longer : length_limit < length bytes
      pub said : message ≡ too_long_message name (length bytes)

    format_is_not_refused : statuses.Format ≡ statuses.Refused → ⊥
    format_is_not_refused e = cc

    refused_is_not_format : statuses.Refused ≡ statuses.Format → ⊥
    refused_is_not_format e = cc

    tree_faulty : (file : List ℕ) → IsReading told name tree_limit (Ok file) → AfterTree name file (IsRespelling name) (Refuses statuses.Format message) → IsFaulty
    tree_faulty file read (inl refused) = record { file = file; fault = refused.0; read = read; faulty = refused.1; said = refused.2.1 }
    tree_faulty file read (inr (tree, is, inl long)) = absurd (format_is_not_refused long.1.0)
    tree_faulty file read (inr (tree, is, inr written)) = elim written.1 [ ]

    tree_too_long : (file : List ℕ) → IsReading told name tree_limit (Ok file) → AfterTree name file (IsRespelling name) (Refuses statuses.Refused message) → IsTooLong
    tree_too_long file read (inl refused) = absurd (refused_is_not_format refused.2.0)
    tree_too_long file read (inr (tree, is, inl long)) = record {
      file = file;
      bytes = spelling tree;
      read = read;
      canonical = record { reserves = tree.reserves; boot = tree.boot; whole = tree.root; spelled = is.spelled; canonical = refl };
      longer = long.0;
      said = long.1.1;
    }
    tree_too_long file read (inr (tree, is, inr written)) = elim written.1 [ ]

    module _ (status : Status) (read_not : status ≡ statuses.Read → ⊥) (longer_not : status ≡ statuses.Longer → ⊥) (Found : Type 0)
        (found : (file : List ℕ) → IsReading told name tree_limit (Ok file) → AfterTree name file (IsRespelling name) (Refuses status message) → Found) where
      result_refused : (result : Result (List ℕ) FileError) → IsReading told name tree_limit result → OnResult (IsReadRefusal name tree_limit) (λ file. AfterTree name file (IsRespelling name)) result (Refuses status message) → Found
      result_refused (Ok file) read job = found file read job
      result_refused (Err read_errors.Absent) read job = absurd (read_not job.0)
      result_refused (Err read_errors.Longer) read job = absurd (longer_not job.0)
      result_refused (Err read_errors.Failed) read job = elim job [ ]
      result_refused (Err read_errors.Memory) read job = elim job [ ]

      file_refused : IsFileRespelling told name (Refuses status message) → Found
      file_refused (inl fails) = absurd (no_failure fails)
      file_refused (inr job) = result_refused job.0 job.1 job.2

    file_faulty : IsFileRespelling told name (Refuses statuses.Format message) → IsFaulty
    file_faulty job = file_refused statuses.Format (λ e. cc) (λ e. cc) IsFaulty tree_faulty job

    file_too_long : IsFileRespelling told name (Refuses statuses.Refused message) → IsTooLong
    file_too_long job = file_refused statuses.Refused (λ e. cc) (λ e. cc) IsTooLong tree_too_long job

  asked_faulty : (asked : Option (List ℕ)) (message : List ℕ) → OnAsked (IsFileRespelling told) asked (Refuses statuses.Format message) → (name : List ℕ) × (asked ≡ Some name) × IsFaulty name message
  asked_faulty None message job = elim job [ ]
  asked_faulty (Some name) message job = (name, refl, file_faulty name message job)

  pub faulty : (words : List (List ℕ)) (message : List ℕ) → CallsFor words told (Refuses statuses.Format message) → (name : List ℕ) × (asked_file words ≡ Some name) × IsFaulty name message
  faulty words message job = asked_faulty (asked_file words) message job

  asked_too_long : (asked : Option (List ℕ)) (message : List ℕ) → OnAsked (IsFileRespelling told) asked (Refuses statuses.Refused message) → (name : List ℕ) × (asked ≡ Some name) × IsTooLong name message
  asked_too_long None message job = elim job [ ]
  asked_too_long (Some name) message job = (name, refl, file_too_long name message job)

  pub too_long : (words : List (List ℕ)) (message : List ℕ) → CallsFor words told (Refuses statuses.Refused message) → (name : List ℕ) × (asked_file words ≡ Some name) × IsTooLong name message
  too_long words message job = asked_too_long (asked_file words) message job
