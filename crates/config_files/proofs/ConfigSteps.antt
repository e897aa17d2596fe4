-- Reading a configuration is a step, which calls for one outcome where what follows does.
use Rattle.std.proofs.Common.{◌≡◌, refl, ℕ, List, inl, inr}
use Rattle.std.specs.Prelude.{Option, Some, Result, Ok, Err}
use Rattle.outside.specs.Outside.{File}
use Rattle.outside.specs.declared.files.FileError.{FileError}
use Rattle.outside.specs.declared.files.FileError.TheVariants as read_errors
use Rattle.outside.specs.declared.status.Status.{Status}
use Rattle.outside.specs.declared.status.Status.TheVariants as statuses
use Rattle.ib_config.specs.Settings.{config_of}
use Rattle.ib_config.specs.declared.fault.ConfigFault.{ConfigFault}
use Rattle.ib_config.specs.declared.settings.Settings.{Settings}
use Rattle.run_steps.specs.Endings.{Outcome, Refuses, Fails}
use Rattle.run_steps.specs.Steps.{OnResult, IsReading, IsReadRefusal, AfterReading}
use Rattle.run_steps.proofs.Step.{IsStep, Avoids, and_then, said_as, on_result_step, both_avoid}
use Rattle.run_steps.proofs.ReadingSteps.{reading_step}
use Rattle.run_steps.proofs.Avoided.{IsOfNoFile, format_avoids, reading_avoids}
use Rattle.run_steps.proofs.OneOutcome.{Decides, both_decide, on_result_decides, refusals_agree, reading_decides}
use Rattle.config_files.specs.Configs.{config_limit, fault_message, IsFaultRefusal, AfterConfig, AfterConfigFile, IsConfigFile}

-- what the bytes say is a step
pub said_step : (name bytes : List ℕ) → IsStep (λ settings. config_of bytes ≡ Ok settings) (AfterConfig name bytes)
said_step name bytes = on_result_step (IsFaultRefusal name bytes) (λ fault outputs report p. p) (λ fault status list p. p) (config_of bytes)

pub config_file_step : (told : Option (List File)) (name : List ℕ) → IsStep (IsConfigFile told name) (AfterConfigFile told name)
config_file_step told name =
    said_as (λ settings. (bytes : List ℕ) × IsReading told name config_limit (Ok bytes) × (config_of bytes ≡ Ok settings)) (IsConfigFile told name) (AfterConfigFile told name)
    (and_then (λ bytes. IsReading told name config_limit (Ok bytes)) (λ bytes settings. config_of bytes ≡ Ok settings) (AfterReading told name config_limit) (AfterConfig name) (reading_step told name config_limit) (said_step name))
    (λ settings given. record { file = given.0; read = given.1; configured = given.2 })
    (λ settings is. (is.file, is.read, is.configured))

pub config_file_decides : (held : List File) (name : List ℕ) → Decides (AfterConfigFile (Some held) name)
config_file_decides held name =
    both_decide (AfterReading (Some held) name config_limit) (AfterConfig name) (reading_decides held name config_limit)
    (λ bytes. on_result_decides (IsFaultRefusal name bytes) (λ fault. refusals_agree _ _) (config_of bytes))

-- reading a configuration refuses with the statuses of reading files alone
pub config_file_avoids : (told : Option (List File)) (name : List ℕ) (status : Status) → IsOfNoFile status → Avoids status (AfterConfigFile told name)
config_file_avoids told name status other =
    both_avoid (λ bytes. IsReading told name config_limit (Ok bytes)) status (AfterReading told name config_limit) (AfterConfig name) (reading_step told name config_limit) (reading_avoids status other told name config_limit)
    (λ bytes. format_avoids status other (fault_message name bytes) (config_of bytes))

-- ---- what is refused for its format is a configuration with a fault

-- a configuration of this name is read, and has a first fault, of which this is the message
pub record IsFaulty (told : Option (List File)) (name message : List ℕ) : Type 0 where
  pub bytes : List ℕ
  pub fault : ConfigFault
  pub read : IsReading told name config_limit (Ok bytes)
  pub faulty : config_of bytes ≡ Err fault
  pub said : message ≡ fault_message name bytes fault

no_read : statuses.Format ≡ statuses.Read → ⊥
no_read e = cc

no_longer : statuses.Format ≡ statuses.Longer → ⊥
no_longer e = cc

no_failure : {name message : List ℕ} → Refuses statuses.Format message ≡ Fails name → ⊥
no_failure e = cc

module _ (told : Option (List File)) (name message : List ℕ) (next : Settings → Outcome → Type 0) (never : (settings : Settings) → next settings (Refuses statuses.Format message) → ⊥) where
  bytes_faulty : (bytes : List ℕ) → IsReading told name config_limit (Ok bytes) → (said : Result Settings ConfigFault) → config_of bytes ≡ said → OnResult (IsFaultRefusal name bytes) next said (Refuses statuses.Format message)
      → IsFaulty told name message
  bytes_faulty bytes read (Ok settings) is job = absurd (never settings job)
  bytes_faulty bytes read (Err fault) is job = record { bytes = bytes; fault = fault; read = read; faulty = is; said = job.1 }

  result_faulty : (result : Result (List ℕ) FileError) → IsReading told name config_limit result → OnResult (IsReadRefusal name config_limit) (λ bytes. AfterConfig name bytes next) result (Refuses statuses.Format message)
      → IsFaulty told name message
  result_faulty (Ok bytes) read job = bytes_faulty bytes read (config_of bytes) refl job
  result_faulty (Err read_errors.Absent) read job = absurd (no_read job.0)
  result_faulty (Err read_errors.Longer) read job = absurd (no_longer job.0)
  result_faulty (Err read_errors.Failed) read job = elim job [ ]
  result_faulty (Err read_errors.Memory) read job = elim job [ ]

  pub file_faulty : AfterConfigFile told name next (Refuses statuses.Format message) → IsFaulty told name message
  file_faulty (inl fails) = absurd (no_failure fails)
  file_faulty (inr job) = result_faulty job.0 job.1 job.2
