-- What a program makes before its first write.
use Rattle.std.specs.Prelude.{ℕ, List, ⊤}
use Rattle.outside.specs.Outside.{File}
use Rattle.outside.specs.declared.status.Status.{Status}
use Rattle.outside.specs.declared.status.Status.TheVariants as statuses
use Rattle.run_steps.specs.Endings.{Outcome, Builds, Finds}
use Rattle.run_steps.specs.Outputs.{files_of, report_of}
use Rattle.program.specs.declared.made.Verdict.{Verdict}
use Rattle.program.specs.declared.made.Verdict.TheVariants as verdicts
use Rattle.program.specs.declared.made.Made.{Made}
use Rattle.program.specs.declared.made.Made.TheVariants.{Built, Found}

-- the status of a verdict
abbrev pub status_of : Verdict → Status
status_of verdicts.Refused = statuses.Refused
status_of verdicts.Format = statuses.Format
status_of verdicts.Differs = statuses.Differs

-- the outcome that is made: to write files and to put a report, or to put a list
abbrev pub outcome_of : Made → Outcome
outcome_of (Built build) = Builds (files_of build) (report_of build)
outcome_of (Found verdict list) = Finds (status_of verdict) list

-- the outputs and the report, if there are some, are as they are promised
abbrev pub IsPromised : (List File → List ℕ → Type 0) → Made → Type 0
IsPromised promised (Built build) = promised (files_of build) (report_of build)
IsPromised promised (Found verdict list) = ⊤
