-- What a refused build names.
use Rattle.std.proofs.Common.{◌≡◌, refl, subst, ℕ, List, inl, inr}
use Rattle.std.specs.Prelude.{◌⊎◌, Option, Some, Result, Ok, Err}
use Rattle.outside.specs.Outside.{File}
use Rattle.outside.specs.declared.status.Status.{Status}
use Rattle.outside.specs.declared.status.Status.TheVariants as statuses
use Rattle.item_checks.specs.Refusals.{Refusal}
use Rattle.run_steps.specs.Endings.{Refuses}
use Rattle.described.specs.Items.{refusal_text}
use Rattle.run_steps.specs.Steps.{OnResult, nothing}
use Rattle.domain_plan.specs.Descriptions.{Description}
use Rattle.domain_plan.specs.TreePlans.{TreePlan}
use Rattle.dom0less_words.specs.Words.{Word, Source, Config, Replay, Ready, Asked, Build}
use Rattle.dom0less_words.specs.Settings.{settings}
use Rattle.build_sources.specs.Sources.{Stand, AfterSource, folder_of}
use Rattle.build_sources.specs.PrivateReplays.{AfterMadeRun}
use Rattle.build_sources.proofs.Avoided.{item_of_no_file, made_run_avoids, replay_avoids, ready_avoids, partials_avoid}
use Rattle.build_sources.proofs.ConfigSteps.{made_step}
use Rattle.build_sources.proofs.SourceSteps.{source_step, partials_step}
use Rattle.build_outputs.specs.Builds.{IsItemRefusal, built_of}
use Rattle.dom0less.specs.Builds.{IsPlanWriting, IsDescribedJob, IsStandJob, IsBuildJob}
use Rattle.dom0less.specs.Headline.{NamesFirstRefused, IsRefusedBefore}
use Rattle.dom0less.specs.Job.{IsSettingsJob, CallsFor}

-- the refused item of what is described
item_named : (folder : Option Word) (stand : Stand) (description : Description) (message : List ℕ) (built : Result TreePlan Refusal) → built_of stand.boot description ≡ built
    → OnResult IsItemRefusal (IsPlanWriting folder stand description) built (Refuses statuses.Refused message)
    → (refusal : Refusal) × (built_of stand.boot description ≡ Err refusal) × (message ≡ refusal_text refusal.0 refusal.1)
item_named folder stand description message (Ok plan) is p = elim p [ ]
item_named folder stand description message (Err refusal) is p = (refusal, is, p.1)

module _ (told : Option (List File)) where
  -- before all items a configuration alone is refused with that status
  refused_before : (source : Source) (folder : Option Word) (message : List ℕ) → AfterSource told source folder nothing (Refuses statuses.Refused message) → IsRefusedBefore told source message
  refused_before (Config config files kind) folder message p =
      elim ((made_step told config files kind).splits (λ made. AfterMadeRun folder made nothing) (Refuses statuses.Refused message) p) [
        | inl given ↦ absurd (made_run_avoids statuses.Refused item_of_no_file folder given.0 message given.2)
        | inr refused ↦ refused
      ]
  refused_before (Replay script tree files) folder message p = absurd (replay_avoids statuses.Refused item_of_no_file told script tree files message p)
  refused_before (Ready tree) folder message p = absurd (ready_avoids statuses.Refused item_of_no_file told tree message p)

  -- a refused build names the first refused item, or what stands before all items
  pub refusal_names : (source : Source) (folder : Option Word) (message : List ℕ) → IsBuildJob told source folder (Refuses statuses.Refused message)
      → NamesFirstRefused told source folder message ⊎ IsRefusedBefore told source message
  refusal_names source folder message job =
      elim ((source_step told source folder).splits (IsStandJob told source folder) (Refuses statuses.Refused message) job) [
        | inr refused ↦ inr (refused_before source folder message refused)
        | inl found ↦
            elim ((partials_step told (folder_of source) found.0).splits (IsDescribedJob folder found.0) (Refuses statuses.Refused message) found.2) [
              | inr refused ↦ absurd (partials_avoid statuses.Refused item_of_no_file told (folder_of source) found.0 message refused)
              | inl read ↦
                  let named = item_named folder found.0 read.0 message (built_of found.0.boot read.0) refl read.2 in
                  inl (record {
                    stand = found.0;
                    stands = found.1;
                    description = read.0;
                    described = read.1;
                    refusal = named.0;
                    first = named.1;
                    named = named.2;
                  })
            ]
      ]

  -- so does a build that answers that status
  pub first_refused : (words : List (List ℕ)) (source : Source) (folder : Option Word) (status : Status) (message : List ℕ) → settings words ≡ Some (Build source folder) → status ≡ statuses.Refused
      → CallsFor words told (Refuses status message) → NamesFirstRefused told source folder message ⊎ IsRefusedBefore told source message
  first_refused words source folder status message asks is called =
      let refused : CallsFor words told (Refuses statuses.Refused message) = subst (λ (s : Status). CallsFor words told (Refuses s message)) is called in
      refusal_names source folder message (subst (λ (read : Option Asked). IsSettingsJob told read (Refuses statuses.Refused message)) asks refused)
