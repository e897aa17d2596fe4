-- The warnings of a configuration, as lines, and the verdict on them.
use Rattle.std.specs.Prelude.{ℕ, Bool, true, false, List, []}
use Rattle.std.specs.List.{flat_map, list_all}
use Rattle.outside.specs.declared.status.Status.TheVariants as statuses
use Rattle.ib_config.specs.declared.settings.Settings.{Settings}
use Rattle.ib_config_lint.specs.Texts.{warning_line}
use Rattle.ib_config_lint.specs.Warnings.{warnings, is_remark}
use Rattle.ib_config_lint.specs.declared.warning.Warning.{Warning}
use Rattle.run_steps.specs.Endings.{Outcome}
use Rattle.run_steps.specs.Steps.{IsWriting, IsFinding}

-- warnings, each on a line of its own
abbrev pub lines : List Warning → List ℕ
lines found = flat_map warning_line found

-- no warning, or remarks alone: nothing is to be mended
abbrev pub is_clean : List Warning → Bool
is_clean found = list_all is_remark found

-- lines of what is clean are the report; others are a list of what is to be mended, with a status of its own
abbrev pub OnVerdict : List ℕ → Bool → Outcome → Type 0
OnVerdict said true outcome = IsWriting [] said outcome
OnVerdict said false outcome = IsFinding statuses.Differs said outcome

-- what a configuration calls for: the lines of exactly its warnings
abbrev pub IsJudging : Settings → Outcome → Type 0
IsJudging settings outcome = OnVerdict (lines (warnings settings)) (is_clean (warnings settings)) outcome
