-- The words and files that tell what they hold call for one outcome; words that are refused call for none.
use Rattle.std.proofs.Common.{List, Some, None}
use Rattle.std.specs.Prelude.{Option, IsNone}
use Rattle.outside.specs.Outside.{File}
use Rattle.run_steps.specs.Endings.{Outcome}
use Rattle.run_steps.specs.Laws.{IsDetermined}
use Rattle.run_steps.proofs.OneOutcome.{on_result_decides, refusals_agree, writings_agree, never_agrees}
use Rattle.tree_files.proofs.TreeSteps.{tree_file_decides}
use Rattle.program.specs.Laws.{IsOneOutcome, AsksNothing}
use Rattle.domain_plan.specs.Descriptions.{Description}
use Rattle.domain_plan.specs.TreePlans.{plan_of}
use Rattle.image_audit.proofs.AuditSteps.{audits_decide}
use Rattle.dom0less_words.specs.Words.{Word, Source, Asked, Build, Check, Script, Show, Generate}
use Rattle.dom0less_words.specs.Settings.{settings}
use Rattle.build_sources.specs.Sources.{Stand, folder_of}
use Rattle.build_sources.proofs.OneOutcome.{made_decides, source_decides, partials_decide}
use Rattle.build_outputs.specs.Builds.{IsItemRefusal, built_of}
use Rattle.dom0less.specs.Builds.{IsPlanWriting, IsDescribedJob, IsStandJob}
use Rattle.dom0less.specs.Checks.{IsCheckedWriting, IsPlanCheck, IsDescribedCheck, IsStandCheck}
use Rattle.dom0less.specs.Generated.{generated_description, IsTotalsWriting}
use Rattle.dom0less.specs.Job.{IsScriptWriting, IsAskedJob, IsSettingsJob, AreRefused, CallsFor}

-- what is described
described_agree : (folder : Option Word) (stand : Stand) (description : Description) → IsDetermined (IsDescribedJob folder stand description)
described_agree folder stand description =
    on_result_decides IsItemRefusal (λ fault. refusals_agree _ _) (built_of stand.boot description) (IsPlanWriting folder stand description) (λ plan. writings_agree _ _)

module _ (held : List File) where
  -- an audit of what is described
  checks_agree : (folder : Option Word) (description : Description) → IsDetermined (IsDescribedCheck (Some held) folder description)
  checks_agree folder description =
      on_result_decides IsItemRefusal (λ fault. refusals_agree _ _) (plan_of description) (IsPlanCheck (Some held) folder)
      (λ plan. audits_decide folder plan.guests held (λ images. IsCheckedWriting plan) (λ images. writings_agree _ _))

  stand_checks_agree : (source : Source) (folder : Option Word) (stand : Stand) → IsDetermined (IsStandCheck (Some held) source folder stand)
  stand_checks_agree source folder stand = partials_decide held (folder_of source) stand (IsDescribedCheck (Some held) folder) (checks_agree folder)

  stand_agree : (source : Source) (folder : Option Word) (stand : Stand) → IsDetermined (IsStandJob (Some held) source folder stand)
  stand_agree source folder stand = partials_decide held (folder_of source) stand (IsDescribedJob folder stand) (described_agree folder stand)

  asked_agree : (asked : Asked) → IsDetermined (IsAskedJob (Some held) asked)
  asked_agree (Build source folder) = source_decides held source folder (IsStandJob (Some held) source folder) (stand_agree source folder)
  asked_agree (Check source folder) = source_decides held source folder (IsStandCheck (Some held) source folder) (stand_checks_agree source folder)
  asked_agree (Script ask) = made_decides held ask.config ask.files ask.kind (IsScriptWriting ask.outputs) (λ made. writings_agree _ _)
  asked_agree (Show tree) = tree_file_decides held tree _ (λ read. writings_agree _ _)
  asked_agree (Generate number) =
      on_result_decides IsItemRefusal (λ fault. refusals_agree _ _) (built_of 0 (generated_description number)) (IsTotalsWriting number) (λ plan. writings_agree _ _)

  settings_agree : (asked : Option Asked) → IsDetermined (IsSettingsJob (Some held) asked)
  settings_agree None = never_agrees
  settings_agree (Some asked) = asked_agree asked

-- no words and files call for two outcomes that differ
pub one_outcome : IsOneOutcome CallsFor
one_outcome words held = settings_agree held (settings words)

never_none : (asked : Asked) → IsNone (Some asked) → ⊥
never_none asked none = cc

none_job : (told : Option (List File)) (asked : Option Asked) (outcome : Outcome) → IsNone asked → IsSettingsJob told asked outcome → ⊥
none_job told None outcome none job = job
none_job told (Some asked) outcome none job = absurd (never_none asked none)

-- words that are refused call for nothing
pub asks_nothing : AsksNothing AreRefused CallsFor
asks_nothing words text told outcome refused job = none_job told (settings words) outcome refused.0 job
