-- A build of what its files describe, step by step.
use Rattle.std.proofs.Common.{◌≡◌, sym, ap, subst, ℕ, List, ◌++◌}
use Rattle.std.specs.Prelude.{Option, Result, Ok, Err, IfOk, IfErr}
use Rattle.outside.specs.Outside.{File}
use Rattle.outside.specs.Reads.{Counts, Grew}
use Rattle.run_steps.specs.Endings.{Outcome, Builds}
use Rattle.run_steps.specs.Outputs.{files_of, report_of}
use Rattle.run_steps.specs.PrivateOutcomes.{outcome_of}
use Rattle.run_steps.specs.Steps.{nothing}
use Rattle.run_steps.specs.Stops.{IsDue, IsOwnDue}
use Rattle.run_steps.specs.declared.output.Build.{Build}
use Rattle.run_steps.specs.declared.stop.Stop.{Stop}
use Rattle.run_steps.proofs.Due.{due_here, own_due, stopped_later, stopped_anyway}
use Rattle.run_steps.proofs.Step.{IsStep, on_result_step}
use Rattle.domain_plan.specs.Descriptions.{Description}
use Rattle.dom0less_words.specs.Words.{Word, Source}
use Rattle.build_sources.specs.Sources.{Stand, AfterSource, StandsOn, folder_of}
use Rattle.build_sources.specs.Edited.{HasEditedTree}
use Rattle.build_sources.specs.Partials.{AfterPartials, Describes}
use Rattle.build_sources.proofs.SourceSteps.{source_step, partials_step}
use Rattle.build_outputs.specs.Builds.{IsItemRefusal, AfterItems, built_of}
use Rattle.build_outputs.specs.Promises.{IsBuildOf}
use Rattle.build_outputs.specs.declared.totals.Totals.{Totals}
use Rattle.dom0less.specs.Builds.{IsPlanWriting, IsDescribedJob, IsStandJob, IsBuildJob}
use Rattle.dom0less.specs.Headline.{IsStandBuild, IsDescribedBuild}

-- what is described is a step: its first refused item, or its plan
pub items_step : (boot : ℕ) (description : Description) → IsStep (λ plan. built_of boot description ≡ Ok plan) (AfterItems boot description)
items_step boot description = on_result_step IsItemRefusal (λ fault outputs report p. p) (λ fault status list p. p) (built_of boot description)

module _ (folder : Option Word) (stand : Stand) (description : Description) where
  -- the files and the report of a build are those that the plan calls for
  pub written : (files : List File) (lines : List ℕ) (totals : Totals) → IsBuildOf stand.boot description folder files lines totals
      → IsDescribedJob folder stand description (Builds (stand.before ++ files) (stand.lines ++ lines))
  written files lines totals built =
      (items_step stand.boot description).gives built.plan built.planned (IsPlanWriting folder stand description) (Builds (stand.before ++ files) (stand.lines ++ lines))
      (ap (λ (more : List File). stand.before ++ more) built.written, ap (λ (more : List ℕ). stand.lines ++ more) built.reported)

  pub described : (files : List File) (lines : List ℕ) (totals : Totals) (outputs : List File) (report : List ℕ) → IsBuildOf stand.boot description folder files lines totals
      → outputs ≡ stand.before ++ files → report ≡ stand.lines ++ lines → IsDescribedJob folder stand description (Builds outputs report)
  described files lines totals outputs report built of_outputs of_report =
      subst (λ (o : List File). IsDescribedJob folder stand description (Builds o report)) (sym of_outputs)
      (subst (λ (r : List ℕ). IsDescribedJob folder stand description (Builds (stand.before ++ files) r)) (sym of_report) (written files lines totals built))

  -- what is refused is refused whatever follows
  pub items_due : (stop : Stop) → IsOwnDue (AfterItems stand.boot description nothing) stop → IsOwnDue (IsDescribedJob folder stand description) stop
  items_due =
      own_due (AfterItems stand.boot description nothing) (IsDescribedJob folder stand description) ((items_step stand.boot description).stays (IsPlanWriting folder stand description))

module _ (told : Option (List File)) (source : Source) (folder : Option Word) where
  module _ (stand : Stand) (stands : StandsOn told source folder stand) where
    -- what stands there is built
    stood : (outcome : Outcome) → IsStandJob told source folder stand outcome → IsBuildJob told source folder outcome
    stood = (source_step told source folder).gives stand stands (IsStandJob told source folder)

    -- reading the partial trees stops
    pub partials_due : (old mid new : Counts) → Grew old mid → (stop : Stop) → IsDue (AfterPartials told (folder_of source) stand nothing) mid new stop → IsDue (IsBuildJob told source folder) old new stop
    partials_due old mid new grew stop due =
        stopped_due (Err stop) due
      where
        stopped_due : (result : Result (Unit {0}) Stop) → IfErr result (λ s. IsDue (AfterPartials told (folder_of source) stand nothing) mid new s) → IfErr result (λ s. IsDue (IsBuildJob told source folder) old new s)
        stopped_due =
            stopped_later (AfterPartials told (folder_of source) stand nothing) (IsBuildJob told source folder)
            (λ outcome p. stood outcome ((partials_step told (folder_of source) stand).stays (IsDescribedJob folder stand) outcome p)) old mid new grew

    module _ (description : Description) (describes : Describes told (folder_of source) stand description) where
      -- what is described then is built
      pub described_here : (outcome : Outcome) → IsDescribedJob folder stand description outcome → IsBuildJob told source folder outcome
      described_here outcome p =
          stood outcome ((partials_step told (folder_of source) stand).gives description describes (IsDescribedJob folder stand) outcome p)

      pub build_made : (result : Result Build Stop) → IfOk result (λ build. IsDescribedJob folder stand description (outcome_of build)) → IfOk result (λ build. IsBuildJob told source folder (outcome_of build))
      build_made (Ok build) made = described_here (outcome_of build) made
      build_made (Err stop) made = tt

      pub build_promised : HasEditedTree told source folder stand → (result : Result Build Stop) → IfOk result (λ build. IsStandBuild folder stand description (files_of build) (report_of build))
          → IfOk result (λ build. IsDescribedBuild told source folder (files_of build) (report_of build))
      build_promised edited (Ok build) made = record { stand = stand; stands = stands; description = description; described = describes; built = made; edited = edited }
      build_promised edited (Err stop) made = tt

      pub build_stopped : (old new : Counts) (result : Result Build Stop) → IfErr result (λ stop. IsOwnDue (IsDescribedJob folder stand description) stop)
          → IfErr result (λ stop. IsDue (IsBuildJob told source folder) old new stop)
      build_stopped old new = stopped_anyway (IsDescribedJob folder stand description) (IsBuildJob told source folder) described_here old new

  -- reading what a build stands on stops
  pub source_due : (old new : Counts) (stop : Stop) → IsDue (AfterSource told source folder nothing) old new stop → IsDue (IsBuildJob told source folder) old new stop
  source_due = due_here (AfterSource told source folder nothing) (IsBuildJob told source folder) ((source_step told source folder).stays (IsStandJob told source folder))
