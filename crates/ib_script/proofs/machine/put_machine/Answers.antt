use Rattle.std.proofs.Common.{append_assoc}
use Rattle.ib_script.specs.Guests.{machine_commands}
use Rattle.ib_script.proofs.machine.put_machine.Goals as goal

pub returns : goal.returns
unfolding machine_commands
returns c = rw (c.in_ok-put_flag_where.ensures, c.in_ok-put_cell.ensures, c.in_ok-put_memory.ensures) (simp append_assoc)
