-- A configuration is read in two steps.
use Rattle.std.proofs.Common.{◌≡◌, ℕ, List, refl, Err, Some, None}
use Rattle.std.specs.Prelude.{Option}
use Rattle.std.specs.Option.{option_map_or}
use Rattle.ib_config.specs.Line.{lines_of, first_line_fault, assignments_of}
use Rattle.ib_config.specs.Variables.{Assigned, assigned_in}
use Rattle.ib_config.specs.Settings.{◌>>=◌, settings_of, config_of}
use Rattle.ib_config.specs.PrivateScan.{unless, file_read}
use Rattle.ib_config.specs.declared.fault.ConfigFault.{ConfigFault}

two_steps : (fault : Option ConfigFault) (assigned : Assigned) → option_map_or Err fault (settings_of assigned) ≡ (unless fault assigned >>= settings_of)
two_steps None assigned = refl
two_steps (Some e) assigned = refl

pub config_is : (bytes : List ℕ) → config_of bytes ≡ (file_read bytes >>= settings_of)
unfolding config_of file_read
config_is bytes = two_steps (first_line_fault 1 (lines_of bytes)) (assigned_in (assignments_of bytes))
