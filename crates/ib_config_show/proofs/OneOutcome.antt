-- The words and the files call for one outcome, and words that are refused call for none.
use Rattle.std.proofs.Common.{ℕ, [], Some}
use Rattle.run_steps.specs.Steps.{IsWriting}
use Rattle.run_steps.proofs.OneOutcome.{writings_agree}
use Rattle.program.specs.Laws.{IsOneOutcome, AsksNothing}
use Rattle.filters.specs.Words.{asked_file}
use Rattle.filters.proofs.Asked.{asked_agrees, none_asked}
use Rattle.config_files.proofs.ConfigSteps.{config_file_decides}
use Rattle.ib_config_show.specs.Shown.{config_lines}
use Rattle.ib_config_show.specs.Job.{AreRefused, IsShowing, CallsFor}

-- no words and files call for two outcomes that differ
pub one_outcome : IsOneOutcome CallsFor
one_outcome words held =
    asked_agrees (IsShowing (Some held)) (λ file. config_file_decides held file (λ settings. IsWriting [] (config_lines settings)) (λ settings. writings_agree [] (config_lines settings))) (asked_file words)

-- words that are refused call for nothing
pub asks_nothing : AsksNothing AreRefused CallsFor
asks_nothing words text told outcome refused job = none_asked (IsShowing told) (asked_file words) outcome refused.0 job
