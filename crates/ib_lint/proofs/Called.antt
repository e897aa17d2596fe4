-- What the words and the files call for: what is refused for its format is a configuration with a fault, and a list that is found is that of warnings.
use Rattle.std.proofs.Common.{◌≡◌, ℕ, List, Some, None, refl, inl, inr}
use Rattle.std.specs.Prelude.{Option, Bool, true, false}
use Rattle.outside.specs.Outside.{File}
use Rattle.outside.specs.declared.status.Status.{Status}
use Rattle.outside.specs.declared.status.Status.TheVariants as statuses
use Rattle.ib_config.specs.declared.settings.Settings.{Settings}
use Rattle.ib_config_lint.specs.Warnings.{warnings}
use Rattle.run_steps.specs.Endings.{Refuses, Finds}
use Rattle.run_steps.proofs.Step.{found_before}
use Rattle.run_steps.proofs.Avoided.{IsOfNoFile}
use Rattle.filters.specs.Words.{asked_file}
use Rattle.filters.specs.Filters.{OnAsked}
use Rattle.filters.proofs.Asked.{never_asked}
use Rattle.config_files.specs.Configs.{AfterConfigFile, IsConfigFile}
use Rattle.config_files.proofs.ConfigSteps.{config_file_step, config_file_avoids, IsFaulty, file_faulty}
use Rattle.ib_lint.specs.Verdicts.{lines, is_clean, OnVerdict, IsJudging}
use Rattle.ib_lint.specs.Job.{IsLinting, CallsFor}

-- warnings are no refusal
verdict_refuses_none : (said : List ℕ) (clean : Bool) (status : Status) (message : List ℕ) → OnVerdict said clean (Refuses status message) → ⊥
verdict_refuses_none said true status message job = job
verdict_refuses_none said false status message job = job

judging_refuses_none : (status : Status) (message : List ℕ) (settings : Settings) → IsJudging settings (Refuses status message) → ⊥
judging_refuses_none status message settings job = verdict_refuses_none (lines (warnings settings)) (is_clean (warnings settings)) status message job

-- a list is that of warnings of which one is no remark
verdict_lists : (said : List ℕ) (clean : Bool) (status : Status) (list : List ℕ) → OnVerdict said clean (Finds status list) → (clean ≡ false) × (status ≡ statuses.Differs) × (list ≡ said)
verdict_lists said true status list job = elim job [ ]
verdict_lists said false status list job = (refl, job.0, job.1)

no_file_differs : IsOfNoFile statuses.Differs
no_file_differs = record { read = λ e. cc; longer = λ e. cc; format = λ e. cc }

module _ (told : Option (List File)) where
  -- no file is refused as one that differs
  file_differs_none : (message file : List ℕ) → IsLinting told file (Refuses statuses.Differs message) → ⊥
  file_differs_none message file job = elim ((config_file_step told file).splits IsJudging (Refuses statuses.Differs message) job) [
    | inl given ↦ judging_refuses_none statuses.Differs message given.0 given.2
    | inr refused ↦ config_file_avoids told file statuses.Differs no_file_differs message refused
  ]

  pub differs_none : (words : List (List ℕ)) (message : List ℕ) → CallsFor words told (Refuses statuses.Differs message) → ⊥
  differs_none words message job = never_asked (IsLinting told) (Refuses statuses.Differs message) (file_differs_none message) (asked_file words) job

  asked_faulty : (asked : Option (List ℕ)) (message : List ℕ) → OnAsked (IsLinting told) asked (Refuses statuses.Format message) → (file : List ℕ) × (asked ≡ Some file) × IsFaulty told file message
  asked_faulty None message job = elim job [ ]
  asked_faulty (Some file) message job =
      (file, refl, file_faulty told file message IsJudging (judging_refuses_none statuses.Format message) job)

  pub faulty : (words : List (List ℕ)) (message : List ℕ) → CallsFor words told (Refuses statuses.Format message) → (file : List ℕ) × (asked_file words ≡ Some file) × IsFaulty told file message
  faulty words message job = asked_faulty (asked_file words) message job

  -- the list of a configuration's warnings, of which one is no remark
  pub record IsListed (file : List ℕ) (status : Status) (list : List ℕ) : Type 0 where
    pub settings : Settings
    pub read : IsConfigFile told file settings
    pub warned : is_clean (warnings settings) ≡ false
    pub differs : status ≡ statuses.Differs
    pub said : list ≡ lines (warnings settings)

  file_lists : (file : List ℕ) (status : Status) (list : List ℕ) → IsLinting told file (Finds status list) → IsListed file status list
  file_lists file status list job =
      let given = found_before (IsConfigFile told file) (AfterConfigFile told file) (config_file_step told file) IsJudging status list job in
      let found = verdict_lists (lines (warnings given.0)) (is_clean (warnings given.0)) status list given.2 in
      record { settings = given.0; read = given.1; warned = found.0; differs = found.1; said = found.2 }

  asked_lists : (asked : Option (List ℕ)) (status : Status) (list : List ℕ) → OnAsked (IsLinting told) asked (Finds status list) → (file : List ℕ) × (asked ≡ Some file) × IsListed file status list
  asked_lists None status list job = elim job [ ]
  asked_lists (Some file) status list job = (file, refl, file_lists file status list job)

  pub listed : (words : List (List ℕ)) (status : Status) (list : List ℕ) → CallsFor words told (Finds status list) → (file : List ℕ) × (asked_file words ≡ Some file) × IsListed file status list
  listed words status list job = asked_lists (asked_file words) status list job
