-- What status 0 promises.
use Rattle.std.specs.Prelude.{◌≡◌, ℕ, List, [], Option, Some}
use Rattle.outside.specs.Outside.{File}
use Rattle.ib_config.specs.declared.settings.Settings.{Settings}
use Rattle.filters.specs.Words.{asked_file}
use Rattle.config_files.specs.Configs.{IsConfigFile}
use Rattle.ib_config_show.specs.Shown.{config_lines}

-- the report is the lines of the settings that the configuration of this name says, by what the files hold where that is told, and there is no output
pub record ShowsFile (told : Option (List File)) (file : List ℕ) (outputs : List File) (report : List ℕ) : Type 0 where
  pub settings : Settings
  pub read : IsConfigFile told file settings
  pub said : report ≡ config_lines settings
  pub alone : outputs ≡ []

-- the words ask for such a configuration
pub record IsShown (words : List (List ℕ)) (told : Option (List File)) (outputs : List File) (report : List ℕ) : Type 0 where
  pub file : List ℕ
  pub named : asked_file words ≡ Some file
  pub shows : ShowsFile told file outputs report
