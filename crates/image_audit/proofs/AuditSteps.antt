-- The audit of images is a step: what it finds, that it refuses no item, and that over files that are told it calls for one outcome.
use Rattle.std.proofs.Common.{◌≡◌, refl, sym, subst, ℕ, Bool, List, [], ◌∷◌, ◌++◌, Some, None, inl, inr}
use Rattle.std.specs.Prelude.{◌⊎◌, Option, Result, Ok, Err}
use Rattle.outside.specs.Outside.{File}
use Rattle.described.specs.declared.map_range.MapRange.{MapRange}
use Rattle.outside.specs.declared.status.Status.{Status}
use Rattle.outside.specs.declared.status.Status.TheVariants as statuses
use Rattle.stage2_walk.specs.Pages.{Page}
use Rattle.stage2_walk.specs.Files.{image_of}
use Rattle.stage2_walk.specs.declared.image_fault.ImageFault.{ImageFault}
use Rattle.domain_plan.specs.declared.planned.GuestPlan.{GuestPlan}
use Rattle.run_steps.specs.Endings.{Outcome, Refuses, Builds, Finds}
use Rattle.run_steps.specs.Steps.{OnResult, IsReading, AfterReading, nothing}
use Rattle.run_steps.proofs.Step.{Next, IsStep, Avoids, said_as, and_then, hand_on_step, on_result_step, both_avoid, hand_on_avoids}
use Rattle.run_steps.proofs.ReadingSteps.{reading_step, reading_avoids}
use Rattle.run_steps.proofs.OneOutcome.{Decides, both_decide, hand_on_decides, refusals_agree, on_result_decides, reading_decides}
use Rattle.image_audit.specs.Findings.{audit_finding, is_mapped}
use Rattle.image_audit.specs.Audits.{image_limit, image_file, has_table, IsImageRefusal, UnlessFound, AfterImage, AfterAudit, AfterLater, AfterAudits, IsSound, IsAudited, AreAudited}

-- ---- what is found is refused

module _ (name bytes : List ℕ) where
  abbrev unless : Option (List ℕ) → Next (List ℕ) → Outcome → Type 0
  unless text next outcome = UnlessFound name (next bytes) text outcome

  abbrev NothingFound : Option (List ℕ) → List ℕ → Type 0
  NothingFound text image = (image ≡ bytes) × (text ≡ None)

  unless_splits : (text : Option (List ℕ)) (next : Next (List ℕ)) (outcome : Outcome) → unless text next outcome → ((image : List ℕ) × NothingFound text image × next image outcome) ⊎ unless text nothing outcome
  unless_splits None next outcome p = inl (bytes, (refl, refl), p)
  unless_splits (Some found) next outcome p = inr p

  unless_stays : (text : Option (List ℕ)) (next : Next (List ℕ)) (outcome : Outcome) → unless text nothing outcome → unless text next outcome
  unless_stays None next outcome p = elim p [ ]
  unless_stays (Some found) next outcome p = p

  unless_refuses : (text : Option (List ℕ)) (outputs : List File) (report : List ℕ) → unless text nothing (Builds outputs report) → ⊥
  unless_refuses None outputs report p = p
  unless_refuses (Some found) outputs report p = p

  unless_finds : (text : Option (List ℕ)) (status : Status) (list : List ℕ) → unless text nothing (Finds status list) → ⊥
  unless_finds None status list p = p
  unless_finds (Some found) status list p = p

  unless_step : (text : Option (List ℕ)) → IsStep (NothingFound text) (unless text)
  unless_step text = record {
    splits = unless_splits text;
    gives = λ image found next outcome p. subst (λ (t : Option (List ℕ)). unless t next outcome) (sym found.1) (subst (λ (i : List ℕ). next i outcome) found.0 p);
    stays = unless_stays text;
    refuses = unless_refuses text;
    finds = unless_finds text;
  }

  no_item_differs : statuses.Refused ≡ statuses.Differs → ⊥
  no_item_differs e = cc

  unless_avoids : (text : Option (List ℕ)) → Avoids statuses.Refused (unless text)
  unless_avoids None message p = p
  unless_avoids (Some found) message p = no_item_differs p.0

  unless_decides : (text : Option (List ℕ)) → Decides (unless text)
  unless_decides None = hand_on_decides bytes
  unless_decides (Some found) = λ next determined. refusals_agree _ _

-- ---- one image

module _ (name : List ℕ) (mapped earlier : ℕ → Bool) (ranges : List MapRange) (bytes : List ℕ) where
  abbrev tested : Next (ℕ × List Page) → Outcome → Type 0
  tested next outcome = OnResult (IsImageRefusal name) next (image_of bytes) outcome

  abbrev audited : ℕ × List Page → Next (List ℕ) → Outcome → Type 0
  audited image = unless name bytes (audit_finding mapped earlier ranges image.1 image.0)

  abbrev Tested : ℕ × List Page → Type 0
  Tested image = image_of bytes ≡ Ok image

  abbrev NoneFound : ℕ × List Page → List ℕ → Type 0
  NoneFound image = NothingFound name bytes (audit_finding mapped earlier ranges image.1 image.0)

  abbrev SoundBytes : List ℕ → Type 0
  SoundBytes image = (image ≡ bytes) × IsSound mapped earlier ranges bytes

  tested_step : IsStep Tested tested
  tested_step = on_result_step (IsImageRefusal name) (λ fault outputs report p. p) (λ fault status list p. p) (image_of bytes)

  pub image_step : IsStep SoundBytes (AfterImage name mapped earlier ranges bytes)
  image_step =
      said_as (λ image. (read : ℕ × List Page) × Tested read × NoneFound read image) SoundBytes (AfterImage name mapped earlier ranges bytes)
      (and_then Tested NoneFound tested audited tested_step (λ image. unless_step name bytes (audit_finding mapped earlier ranges image.1 image.0)))
      (λ image found. (found.2.0, record { root = found.0.0; pages = found.0.1; image = found.1; nothing_found = found.2.1 }))
      (λ image sound. ((sound.1.root, sound.1.pages), sound.1.image, (sound.0, sound.1.nothing_found)))

  no_item_format : statuses.Refused ≡ statuses.Format → ⊥
  no_item_format e = cc

  tested_avoids_in : (answer : Result (ℕ × List Page) ImageFault) (message : List ℕ) → OnResult (IsImageRefusal name) nothing answer (Refuses statuses.Refused message) → ⊥
  tested_avoids_in (Ok image) message p = p
  tested_avoids_in (Err fault) message p = no_item_format p.0

  pub image_avoids : Avoids statuses.Refused (AfterImage name mapped earlier ranges bytes)
  image_avoids = both_avoid Tested statuses.Refused tested audited tested_step (tested_avoids_in (image_of bytes)) (λ image. unless_avoids name bytes (audit_finding mapped earlier ranges image.1 image.0))

  pub image_decides : Decides (AfterImage name mapped earlier ranges bytes)
  image_decides = both_decide tested audited (on_result_decides (IsImageRefusal name) (λ fault. refusals_agree _ _) (image_of bytes)) (λ image. unless_decides name bytes (audit_finding mapped earlier ranges image.1 image.0))

-- ---- an image from its file

module _ (folder : Option (List ℕ)) (mapped earlier : ℕ → Bool) (plan : GuestPlan) where
  abbrev file_of_it : List ℕ
  file_of_it = image_file folder plan

  module _ (told : Option (List File)) where
    abbrev Read : List ℕ → Type 0
    Read bytes = IsReading told file_of_it image_limit (Ok bytes)

    pub audit_step : IsStep (IsAudited told folder mapped earlier plan) (AfterAudit told folder mapped earlier plan)
    audit_step =
        said_as (λ image. (bytes : List ℕ) × Read bytes × SoundBytes file_of_it mapped earlier plan.ranges bytes image) (IsAudited told folder mapped earlier plan) (AfterAudit told folder mapped earlier plan)
        (and_then Read (SoundBytes file_of_it mapped earlier plan.ranges) (AfterReading told file_of_it image_limit) (AfterImage file_of_it mapped earlier plan.ranges) (reading_step told file_of_it image_limit)
        (image_step file_of_it mapped earlier plan.ranges))
        (λ image found. record { read = subst Read (sym found.2.0) found.1; sound = subst (IsSound mapped earlier plan.ranges) (sym found.2.0) found.2.1 })
        (λ image is. (image, is.read, (refl, is.sound)))

    pub audit_avoids : Avoids statuses.Refused (AfterAudit told folder mapped earlier plan)
    audit_avoids =
        both_avoid Read statuses.Refused (AfterReading told file_of_it image_limit) (AfterImage file_of_it mapped earlier plan.ranges) (reading_step told file_of_it image_limit) (reading_avoids told file_of_it image_limit)
        (image_avoids file_of_it mapped earlier plan.ranges)

  pub audit_decides : (held : List File) → Decides (AfterAudit (Some held) folder mapped earlier plan)
  audit_decides held =
      both_decide (AfterReading (Some held) file_of_it image_limit) (AfterImage file_of_it mapped earlier plan.ranges) (reading_decides held file_of_it image_limit) (image_decides file_of_it mapped earlier plan.ranges)

-- ---- the images of all guests

module _ (folder : Option (List ℕ)) (plans : List GuestPlan) where
  module _ (told : Option (List File)) where
    abbrev one : List (List ℕ) → GuestPlan → Next (List ℕ) → Outcome → Type 0
    one before plan = AfterAudit told folder (is_mapped plans) (has_table before) plan

    abbrev OneFound : List (List ℕ) → GuestPlan → List ℕ → Type 0
    OneFound before plan = IsAudited told folder (is_mapped plans) (has_table before) plan

    pub later_step : (before : List (List ℕ)) (later : List GuestPlan) → IsStep (AreAudited told folder plans before later) (AfterLater told folder plans before later)
    later_step before [] = hand_on_step before
    later_step before (plan ∷ later) =
        and_then (OneFound before plan) (λ image. AreAudited told folder plans (before ++ image ∷ []) later) (one before plan) (λ image. AfterLater told folder plans (before ++ image ∷ []) later)
        (audit_step folder (is_mapped plans) (has_table before) plan told) (λ image. later_step (before ++ image ∷ []) later)

    later_avoids : (before : List (List ℕ)) (later : List GuestPlan) → Avoids statuses.Refused (AfterLater told folder plans before later)
    later_avoids before [] = hand_on_avoids statuses.Refused before
    later_avoids before (plan ∷ later) =
        both_avoid (OneFound before plan) statuses.Refused (one before plan) (λ image. AfterLater told folder plans (before ++ image ∷ []) later)
        (audit_step folder (is_mapped plans) (has_table before) plan told) (audit_avoids folder (is_mapped plans) (has_table before) plan told) (λ image. later_avoids (before ++ image ∷ []) later)

    pub audits_step : IsStep (AreAudited told folder plans [] plans) (AfterAudits told folder plans)
    audits_step = later_step [] plans

    -- an audit refuses no item
    pub audits_avoid : Avoids statuses.Refused (AfterAudits told folder plans)
    audits_avoid = later_avoids [] plans

  module _ (held : List File) where
    later_decides : (before : List (List ℕ)) (later : List GuestPlan) → Decides (AfterLater (Some held) folder plans before later)
    later_decides before [] = hand_on_decides before
    later_decides before (plan ∷ later) =
        both_decide (AfterAudit (Some held) folder (is_mapped plans) (has_table before) plan) (λ image. AfterLater (Some held) folder plans (before ++ image ∷ []) later)
        (audit_decides folder (is_mapped plans) (has_table before) plan held) (λ image. later_decides (before ++ image ∷ []) later)

    pub audits_decide : Decides (AfterAudits (Some held) folder plans)
    audits_decide = later_decides [] plans
