use Rattle.std.proofs.Common.{append_assoc}
use Rattle.ib_script.specs.Script.{start_commands}
use Rattle.ib_script.proofs.start.put_start.Goals as goal

pub returns : goal.returns
unfolding start_commands
returns c = rw (c.in_ok-push-2.ensures.ok, c.in_ok-push.ensures.ok, c.in_ok-value.ensures, c.in_ok-name.ensures) (simp append_assoc)
