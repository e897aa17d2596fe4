-- A configuration's file is read; what follows is left open.
use Rattle.std.specs.Prelude.{◌≡◌, ℕ, List, Option, Ok}
use Rattle.outside.specs.Outside.{File}
use Rattle.outside.specs.declared.status.Status.TheVariants as statuses
use Rattle.ib_config.specs.FaultTexts.{named_fault_text}
use Rattle.ib_config.specs.Settings.{config_of}
use Rattle.ib_config.specs.declared.fault.ConfigFault.{ConfigFault}
use Rattle.ib_config.specs.declared.settings.Settings.{Settings}
use Rattle.run_steps.specs.Messages.{file_message}
use Rattle.run_steps.specs.Endings.{Outcome}
use Rattle.run_steps.specs.Steps.{IsRefusal, OnResult, IsReading, AfterReading}

-- the longest configuration that is read, in bytes: 64 KiB
abbrev pub config_limit : ℕ
config_limit = 65536

-- what is said about the configuration of this name that has a fault; a name that is not supported stands behind its line's number
abbrev pub fault_message : List ℕ → List ℕ → ConfigFault → List ℕ
fault_message name bytes fault = file_message name (named_fault_text bytes fault)

-- the first fault of a configuration is refused
abbrev pub IsFaultRefusal : List ℕ → List ℕ → ConfigFault → Outcome → Type 0
IsFaultRefusal name bytes fault outcome = IsRefusal statuses.Format (fault_message name bytes fault) outcome

-- what the bytes of a configuration say is handed on
abbrev pub AfterConfig : List ℕ → List ℕ → (Settings → Outcome → Type 0) → Outcome → Type 0
AfterConfig name bytes next outcome = OnResult (IsFaultRefusal name bytes) next (config_of bytes) outcome

-- a configuration's file is read, and its settings are handed on
abbrev pub AfterConfigFile : Option (List File) → List ℕ → (Settings → Outcome → Type 0) → Outcome → Type 0
AfterConfigFile told name next outcome = AfterReading told name config_limit (λ bytes. AfterConfig name bytes next) outcome

-- a file of this name is read, by what the files hold where that is told, and its configuration says these settings
pub record IsConfigFile (told : Option (List File)) (name : List ℕ) (settings : Settings) : Type 0 where
  pub file : List ℕ
  pub read : IsReading told name config_limit (Ok file)
  pub configured : config_of file ≡ Ok settings
