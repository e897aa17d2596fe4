-- What a build calls for, step by step: the files are read, and then what they describe is planned and written.
use Rattle.std.specs.Prelude.{List, ◌++◌, Option}
use Rattle.outside.specs.Outside.{File}
use Rattle.run_steps.specs.Endings.{Outcome}
use Rattle.run_steps.specs.Steps.{IsWriting}
use Rattle.domain_plan.specs.Descriptions.{Description}
use Rattle.domain_plan.specs.TreePlans.{TreePlan}
use Rattle.dom0less_words.specs.Words.{Word, Source}
use Rattle.build_sources.specs.Sources.{Stand, AfterSource, folder_of}
use Rattle.build_sources.specs.Partials.{AfterPartials}
use Rattle.build_outputs.specs.Builds.{AfterItems}
use Rattle.build_outputs.specs.Outputs.{outputs_of, report_of, in_folder}

-- the files of a plan are written behind those that come before, and its report is put behind the lines that come before
abbrev pub IsPlanWriting : Option Word → Stand → Description → TreePlan → Outcome → Type 0
IsPlanWriting folder stand description plan outcome =
    IsWriting (stand.before ++ in_folder folder (outputs_of stand.boot description plan)) (stand.lines ++ report_of plan) outcome

-- the first described item that is refused is said, or the plan is written
abbrev pub IsDescribedJob : Option Word → Stand → Description → Outcome → Type 0
IsDescribedJob folder stand description outcome = AfterItems stand.boot description (IsPlanWriting folder stand description) outcome

-- the guests' partial trees are read, and what is described then is built
abbrev pub IsStandJob : Option (List File) → Source → Option Word → Stand → Outcome → Type 0
IsStandJob told source folder stand outcome = AfterPartials told (folder_of source) stand (IsDescribedJob folder stand) outcome

-- what a build stands on is read, and then it is built
abbrev pub IsBuildJob : Option (List File) → Source → Option Word → Outcome → Type 0
IsBuildJob told source folder outcome = AfterSource told source folder (IsStandJob told source folder) outcome
