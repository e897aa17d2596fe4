-- The outcome that is made, in private contracts.
use Rattle.run_steps.specs.declared.output.Build.{Build}
use Rattle.run_steps.specs.Endings.{Outcome, Builds}
use Rattle.run_steps.specs.Outputs.{report_of, files_of}

-- the outcome that is made: to write these files and to put this report
abbrev pub outcome_of : Build → Outcome
outcome_of build = Builds (files_of build) (report_of build)
