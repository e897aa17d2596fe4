use Rattle.std.proofs.Common.{ap, inl, inr, refl}
use Rattle.std.specs.Prelude.{Err}
use Rattle.outside.specs.declared.files.FileError.TheVariants as read_errors
use Rattle.run_steps.proofs.Readings.{is_absent, is_longer}
use Rattle.run_steps.proofs.reading.read_file.Goals as goal

pub returns-in_ok-make_file_message-in-Err-Failed-clause-stopped : goal.returns-in_ok-make_file_message-in-Err-Failed-clause-stopped
returns-in_ok-make_file_message-in-Err-Failed-clause-stopped g c = inl (c.in-Err-Failed.ensures.failed (ap Err c.in-Err-Failed.field-0-is), (c.args.name.now, c.in_ok-make_file_message-in-Err-Failed.ensures, inl refl))

pub returns-in_ok-make_file_message-in-Err-Absent-clause-stopped : goal.returns-in_ok-make_file_message-in-Err-Absent-clause-stopped
returns-in_ok-make_file_message-in-Err-Absent-clause-stopped g c =
    inr (c.in-Err-Absent.ensures.absent (ap Err c.in-Err-Absent.field-0-is), inr (Err read_errors.Absent, is_absent _ _ _ (rw c.in-Err-Absent.field-0-is at c.in-Err-Absent.ensures.told), (refl, c.in_ok-make_file_message-in-Err-Absent.ensures)))

pub returns-in_ok-make_longer_message-in-Err-Longer-clause-stopped : goal.returns-in_ok-make_longer_message-in-Err-Longer-clause-stopped
returns-in_ok-make_longer_message-in-Err-Longer-clause-stopped g c =
    (c.in-Err-Longer.ensures.longer (ap Err c.in-Err-Longer.field-0-is), inr (Err read_errors.Longer, is_longer _ _ _ (rw c.in-Err-Longer.field-0-is at c.in-Err-Longer.ensures.told), (refl, c.in_ok-make_longer_message-in-Err-Longer.ensures)))
