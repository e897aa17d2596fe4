-- What the words and the files call for: no list is found, and what is refused for its format is a configuration with a fault.
use Rattle.std.proofs.Common.{◌≡◌, ℕ, List, [], Some, None, refl}
use Rattle.std.specs.Prelude.{Option}
use Rattle.outside.specs.Outside.{File}
use Rattle.outside.specs.declared.status.Status.{Status}
use Rattle.outside.specs.declared.status.Status.TheVariants as statuses
use Rattle.run_steps.specs.Endings.{Refuses, Finds}
use Rattle.run_steps.specs.Steps.{IsWriting}
use Rattle.run_steps.proofs.Step.{found_before}
use Rattle.program.specs.Laws.{FindsNothing}
use Rattle.filters.specs.Words.{asked_file}
use Rattle.filters.specs.Filters.{OnAsked}
use Rattle.filters.proofs.Asked.{never_asked}
use Rattle.config_files.specs.Configs.{AfterConfigFile, IsConfigFile}
use Rattle.config_files.proofs.ConfigSteps.{config_file_step, IsFaulty, file_faulty}
use Rattle.ib_config_show.specs.Shown.{config_lines}
use Rattle.ib_config_show.specs.Job.{IsShowing, CallsFor}

module _ (told : Option (List File)) where
  asked_faulty : (asked : Option (List ℕ)) (message : List ℕ) → OnAsked (IsShowing told) asked (Refuses statuses.Format message) → (file : List ℕ) × (asked ≡ Some file) × IsFaulty told file message
  asked_faulty None message job = elim job [ ]
  asked_faulty (Some file) message job =
      (file, refl, file_faulty told file message (λ settings. IsWriting [] (config_lines settings)) (λ settings job. job) job)

  pub faulty : (words : List (List ℕ)) (message : List ℕ) → CallsFor words told (Refuses statuses.Format message) → (file : List ℕ) × (asked_file words ≡ Some file) × IsFaulty told file message
  faulty words message job = asked_faulty (asked_file words) message job

-- showing a file finds no list
file_finds_none : (told : Option (List File)) (status : Status) (list file : List ℕ) → IsShowing told file (Finds status list) → ⊥
file_finds_none told status list file job =
    let found = found_before (IsConfigFile told file) (AfterConfigFile told file) (config_file_step told file) (λ settings. IsWriting [] (config_lines settings)) status list job in
    found.2

pub finds_nothing : FindsNothing CallsFor
finds_nothing words told status list job = never_asked (IsShowing told) (Finds status list) (file_finds_none told status list) (asked_file words) job
