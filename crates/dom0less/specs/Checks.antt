-- What an audit calls for, step by step: the files are read, what they describe is planned, and the images of its guests are audited.
use Rattle.std.specs.Prelude.{List, [], length, Option}
use Rattle.outside.specs.Outside.{File}
use Rattle.run_steps.specs.Endings.{Outcome}
use Rattle.run_steps.specs.Steps.{IsWriting, OnResult}
use Rattle.domain_plan.specs.Descriptions.{Description}
use Rattle.domain_plan.specs.TreePlans.{TreePlan, plan_of}
use Rattle.dom0less_words.specs.Words.{Word, Source}
use Rattle.build_sources.specs.Sources.{Stand, AfterSource, folder_of}
use Rattle.build_sources.specs.Partials.{AfterPartials}
use Rattle.build_outputs.specs.Builds.{IsItemRefusal}
use Rattle.image_audit.specs.Audits.{AfterAudits}
use Rattle.image_audit.specs.Texts.{checked_line}

-- nothing is written, and how many guests were audited is put
abbrev pub IsCheckedWriting : TreePlan → Outcome → Type 0
IsCheckedWriting plan outcome = IsWriting [] (checked_line (length plan.guests)) outcome

-- the images of a plan's guests are audited
abbrev pub IsPlanCheck : Option (List File) → Option Word → TreePlan → Outcome → Type 0
IsPlanCheck told folder plan outcome = AfterAudits told folder plan.guests (λ images. IsCheckedWriting plan) outcome

-- the first refused item of the plan is said, or the plan is audited; tables and lengths of trees are no items here
abbrev pub IsDescribedCheck : Option (List File) → Option Word → Description → Outcome → Type 0
IsDescribedCheck told folder description outcome = OnResult IsItemRefusal (IsPlanCheck told folder) (plan_of description) outcome

-- the guests' partial trees are read, and what is described then is audited
abbrev pub IsStandCheck : Option (List File) → Source → Option Word → Stand → Outcome → Type 0
IsStandCheck told source folder stand outcome = AfterPartials told (folder_of source) stand (IsDescribedCheck told folder) outcome

-- what a build stands on is read, and then its images are audited
abbrev pub IsCheckJob : Option (List File) → Source → Option Word → Outcome → Type 0
IsCheckJob told source folder outcome = AfterSource told source folder (IsStandCheck told source folder) outcome
