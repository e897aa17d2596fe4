use Rattle.std.proofs.Common.{append_assoc}
use Rattle.ib_script.specs.Guests.{kernel_commands}
use Rattle.ib_script.proofs.modules.put_kernel.Goals as goal

pub returns : goal.returns
unfolding kernel_commands
returns c = rw (c.in_ok-put_optional_word.ensures, c.in_ok-put_module.ensures, c.as_str.ensures, c.in_ok-kernel.ensures) (simp append_assoc)
