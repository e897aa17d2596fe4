-- What a run is called to do by its words and by the files.
use Rattle.std.specs.Prelude.{ℕ, List, codes, Option}
use Rattle.outside.specs.Outside.{File}
use Rattle.run_steps.specs.Endings.{Outcome}
use Rattle.filters.specs.Words.{asked_file}
use Rattle.filters.specs.Filters as filters
use Rattle.config_files.specs.Configs.{AfterConfigFile}
use Rattle.ib_lint.specs.Verdicts.{IsJudging}

-- the program's name
abbrev pub program_name : List ℕ
program_name = codes "ib_lint"

-- the words ask for no configuration, and the line of usage is said
abbrev pub AreRefused : List (List ℕ) → List ℕ → Type 0
AreRefused words text = filters.AreRefused program_name words text

-- a configuration is read, and its warnings are shown
abbrev pub IsLinting : Option (List File) → List ℕ → Outcome → Type 0
IsLinting told file outcome = AfterConfigFile told file IsJudging outcome

-- the words and the files call for this outcome, by what the files hold where that is told, and else by some answers of theirs
abbrev pub CallsFor : List (List ℕ) → Option (List File) → Outcome → Type 0
CallsFor words told outcome = filters.OnAsked (IsLinting told) (asked_file words) outcome
