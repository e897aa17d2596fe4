-- The words and the files call for one outcome, and words that are refused call for none.
use Rattle.std.proofs.Common.{ℕ, List, [], Some}
use Rattle.std.specs.Prelude.{Bool, true, false}
use Rattle.outside.specs.declared.status.Status.TheVariants as statuses
use Rattle.ib_config_lint.specs.Warnings.{warnings}
use Rattle.run_steps.specs.Laws.{IsDetermined}
use Rattle.run_steps.proofs.OneOutcome.{writings_agree, findings_agree}
use Rattle.program.specs.Laws.{IsOneOutcome, AsksNothing}
use Rattle.filters.specs.Words.{asked_file}
use Rattle.filters.proofs.Asked.{asked_agrees, none_asked}
use Rattle.config_files.proofs.ConfigSteps.{config_file_decides}
use Rattle.ib_lint.specs.Verdicts.{lines, is_clean, OnVerdict, IsJudging}
use Rattle.ib_lint.specs.Job.{AreRefused, IsLinting, CallsFor}

verdict_agrees : (said : List ℕ) (clean : Bool) → IsDetermined (OnVerdict said clean)
verdict_agrees said true = writings_agree [] said
verdict_agrees said false = findings_agree statuses.Differs said

-- no words and files call for two outcomes that differ
pub one_outcome : IsOneOutcome CallsFor
one_outcome words held =
    asked_agrees (IsLinting (Some held)) (λ file. config_file_decides held file IsJudging (λ settings. verdict_agrees (lines (warnings settings)) (is_clean (warnings settings)))) (asked_file words)

-- words that are refused call for nothing
pub asks_nothing : AsksNothing AreRefused CallsFor
asks_nothing words text told outcome refused job = none_asked (IsLinting told) (asked_file words) outcome refused.0 job
