-- An audit of what its files describe, step by step.
use Rattle.std.proofs.Common.{◌≡◌, refl, sym, ap, subst, ℕ, List, [], length}
use Rattle.std.specs.Prelude.{Option, Result, Ok, Err, IfOk, IfErr}
use Rattle.outside.specs.Outside.{File}
use Rattle.outside.specs.Reads.{Counts, Grew}
use Rattle.item_checks.specs.Refusals.{Refusal}
use Rattle.item_checks.specs.declared.faults.PlanFault.{PlanFault}
use Rattle.item_checks.specs.declared.faults.PlanFault.TheVariants as plan_faults
use Rattle.domain_plan.specs.Apart.{ArePlannedApart}
use Rattle.image_audit.specs.Audits.{AfterAudits, FindsNothing}
use Rattle.image_audit.specs.Texts.{checked_line}
use Rattle.image_audit.proofs.AuditSteps.{audits_step}
use Rattle.run_steps.specs.Endings.{Outcome, Refuses, Builds, Finds, Fails}
use Rattle.run_steps.specs.Outputs.{report_of}
use Rattle.run_steps.specs.PrivateOutcomes.{outcome_of}
use Rattle.run_steps.specs.Steps.{OnResult, nothing}
use Rattle.run_steps.specs.Stops.{IsDue, IsOwnDue}
use Rattle.run_steps.specs.declared.output.Build.{Build}
use Rattle.run_steps.specs.declared.stop.Stop.{Stop}
use Rattle.run_steps.specs.declared.stop.Stop.TheVariants as stops
use Rattle.run_steps.proofs.Due.{due_here, due_anyway, stopped_later, due_later}
use Rattle.run_steps.proofs.Step.{IsStep, on_result_step}
use Rattle.domain_plan.specs.Descriptions.{Description}
use Rattle.domain_plan.specs.TreePlans.{TreePlan, plan_of, is_common, IsFaultOf}
use Rattle.dom0less_words.specs.Words.{Word, Source}
use Rattle.build_sources.specs.Sources.{Stand, AfterSource, StandsOn, folder_of}
use Rattle.build_sources.specs.Partials.{AfterPartials, Describes}
use Rattle.build_sources.proofs.SourceSteps.{source_step, partials_step}
use Rattle.build_outputs.specs.Builds.{IsItemRefusal}
use Rattle.dom0less.specs.Checks.{IsCheckedWriting, IsPlanCheck, IsDescribedCheck, IsStandCheck, IsCheckJob}
use Rattle.dom0less.specs.Headline.{IsPlanAudited, IsDescribedAudit}

-- the report of a build that puts this
abbrev said_in : Outcome → List ℕ
said_in (Builds outputs report) = report
said_in (Refuses status message) = []
said_in (Finds status list) = []
said_in (Fails name) = []

pub put_report : (build : Build) (text : List ℕ) → outcome_of build ≡ Builds [] text → report_of build ≡ text
put_report build text is = ap said_in is

-- the plan of what is described is a step
plan_step : (description : Description) → IsStep (λ plan. plan_of description ≡ Ok plan) (λ next outcome. OnResult IsItemRefusal next (plan_of description) outcome)
plan_step description = on_result_step IsItemRefusal (λ fault outputs report p. p) (λ fault status list p. p) (plan_of description)

module _ (told : Option (List File)) (folder : Option Word) (description : Description) where
  -- the stop where there is no plan
  refused_due : (refusal : Refusal) (stop : Stop) → plan_of description ≡ Err refusal → IsOwnDue (IsItemRefusal refusal) stop → IsOwnDue (IsDescribedCheck told folder description) stop
  refused_due refusal stop is due = subst (λ (planned : Result TreePlan Refusal). IsOwnDue (OnResult IsItemRefusal (IsPlanCheck told folder) planned) stop) (sym is) due

  plan_own_due : (fault : PlanFault) (stop : Stop) → IsFaultOf (plan_of description) fault
      → ((item : _) (why : _) → fault ≡ plan_faults.Refused item why → IsOwnDue (IsItemRefusal (item, why)) stop) → (fault ≡ plan_faults.Memory → stop ≡ stops.Memory)
      → IsOwnDue (IsDescribedCheck told folder description) stop
  plan_own_due plan_faults.Memory stop is said memory = subst (IsOwnDue (IsDescribedCheck told folder description)) (sym (memory refl)) tt
  plan_own_due (plan_faults.Refused item why) stop is said memory = refused_due (item, why) stop is (said item why refl)

  pub plan_due : (old new : Counts) (fault : PlanFault) (stop : Stop) → IsFaultOf (plan_of description) fault
      → ((item : _) (why : _) → fault ≡ plan_faults.Refused item why → IsOwnDue (IsItemRefusal (item, why)) stop) → (fault ≡ plan_faults.Memory → stop ≡ stops.Memory)
      → IsDue (IsDescribedCheck told folder description) old new stop
  plan_due old new fault stop is said memory =
      due_anyway (IsDescribedCheck told folder description) (IsDescribedCheck told folder description) (λ outcome p. p) old new stop (plan_own_due fault stop is said memory)

  module _ (plan : TreePlan) (planned : plan_of description ≡ Ok plan) where
    planned_here : (outcome : Outcome) → IsPlanCheck told folder plan outcome → IsDescribedCheck told folder description outcome
    planned_here = (plan_step description).gives plan planned (IsPlanCheck told folder)

    -- the stop at what is found
    pub audit_due : (old new : Counts) (stop : Stop) → IsDue (AfterAudits told folder plan.guests nothing) old new stop → IsDue (IsDescribedCheck told folder description) old new stop
    audit_due = due_here (AfterAudits told folder plan.guests nothing) (IsDescribedCheck told folder description)
        (λ outcome p. planned_here outcome ((audits_step folder plan.guests told).stays (λ images. IsCheckedWriting plan) outcome p))

    -- where nothing is found
    pub checked : FindsNothing told folder plan.guests → (build : Build) → outcome_of build ≡ Builds [] (checked_line (length plan.guests)) → IsDescribedCheck told folder description (outcome_of build)
    checked found build is =
        subst (IsDescribedCheck told folder description) (sym is)
        (planned_here _ ((audits_step folder plan.guests told).gives found.images found.audited (λ images. IsCheckedWriting plan) (Builds [] (checked_line (length plan.guests))) (refl, refl)))

    pub audited : ArePlannedApart (is_common description) plan.guests plan.free → FindsNothing told folder plan.guests → (report : List ℕ) → report ≡ checked_line (length plan.guests)
        → IsPlanAudited told folder description report
    audited apart found report is = record {
      plan = plan;
      planned = planned;
      images = found.images;
      audited = found.audited;
      reported = is;
      walks = found.walks;
      meet = found.meet (is_common description) plan.free apart;
      apart = found.apart (is_common description) plan.free apart;
    }

module _ (told : Option (List File)) (source : Source) (folder : Option Word) where
  module _ (stand : Stand) (stands : StandsOn told source folder stand) where
    -- what stands there is audited
    stood : (outcome : Outcome) → IsStandCheck told source folder stand outcome → IsCheckJob told source folder outcome
    stood = (source_step told source folder).gives stand stands (IsStandCheck told source folder)

    -- reading the partial trees stops
    pub check_partials_due : (old mid new : Counts) → Grew old mid → (stop : Stop) → IsDue (AfterPartials told (folder_of source) stand nothing) mid new stop → IsDue (IsCheckJob told source folder) old new stop
    check_partials_due old mid new grew stop due =
        due_later (AfterPartials told (folder_of source) stand nothing) (IsCheckJob told source folder)
        (λ outcome p. stood outcome ((partials_step told (folder_of source) stand).stays (IsDescribedCheck told folder) outcome p)) old mid new grew stop due

    module _ (description : Description) (describes : Describes told (folder_of source) stand description) where
      -- what is described then is audited
      described_here : (outcome : Outcome) → IsDescribedCheck told folder description outcome → IsCheckJob told source folder outcome
      described_here outcome p =
          stood outcome ((partials_step told (folder_of source) stand).gives description describes (IsDescribedCheck told folder) outcome p)

      pub check_made : (result : Result Build Stop) → IfOk result (λ build. IsDescribedCheck told folder description (outcome_of build)) → IfOk result (λ build. IsCheckJob told source folder (outcome_of build))
      check_made (Ok build) made = described_here (outcome_of build) made
      check_made (Err stop) made = tt

      pub check_promised : (result : Result Build Stop) → IfOk result (λ build. IsPlanAudited told folder description (report_of build)) → IfOk result (λ build. IsDescribedAudit told source folder (report_of build))
      check_promised (Ok build) made = record { stand = stand; stands = stands; description = description; described = describes; audited = made }
      check_promised (Err stop) made = tt

      pub check_stopped : (old mid new : Counts) → Grew old mid → (result : Result Build Stop) → IfErr result (λ stop. IsDue (IsDescribedCheck told folder description) mid new stop)
          → IfErr result (λ stop. IsDue (IsCheckJob told source folder) old new stop)
      check_stopped = stopped_later (IsDescribedCheck told folder description) (IsCheckJob told source folder) described_here

  -- reading what a build stands on stops
  pub check_source_due : (old new : Counts) (stop : Stop) → IsDue (AfterSource told source folder nothing) old new stop → IsDue (IsCheckJob told source folder) old new stop
  check_source_due = due_here (AfterSource told source folder nothing) (IsCheckJob told source folder) ((source_step told source folder).stays (IsStandCheck told source folder))
