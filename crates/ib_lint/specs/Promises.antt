-- What status 0 promises.
use Rattle.std.specs.Prelude.{◌≡◌, ℕ, true, List, [], Option, Some}
use Rattle.outside.specs.Outside.{File}
use Rattle.ib_config.specs.declared.settings.Settings.{Settings}
use Rattle.ib_config_lint.specs.Warnings.{warnings}
use Rattle.filters.specs.Words.{asked_file}
use Rattle.config_files.specs.Configs.{IsConfigFile}
use Rattle.ib_lint.specs.Verdicts.{lines, is_clean}

-- nothing of the settings is to be mended, the report is the lines of their warnings, which are remarks, and there is no output
pub record IsCleanReport (settings : Settings) (outputs : List File) (report : List ℕ) : Type 0 where
  pub clean : is_clean (warnings settings) ≡ true
  pub said : report ≡ lines (warnings settings)
  pub alone : outputs ≡ []

-- so it is of the configuration of this name, by what the files hold where that is told
pub record IsCleanFile (told : Option (List File)) (file : List ℕ) (outputs : List File) (report : List ℕ) : Type 0 where
  pub settings : Settings
  pub read : IsConfigFile told file settings
  pub shown : IsCleanReport settings outputs report

-- the words ask for such a configuration
pub record IsClean (words : List (List ℕ)) (told : Option (List File)) (outputs : List File) (report : List ℕ) : Type 0 where
  pub file : List ℕ
  pub named : asked_file words ≡ Some file
  pub linted : IsCleanFile told file outputs report
