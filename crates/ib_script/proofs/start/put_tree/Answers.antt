use Rattle.std.proofs.Common.{append_assoc}
use Rattle.ib_script.specs.Script.{tree_commands}
use Rattle.ib_script.proofs.start.put_tree.Goals as goal

pub returns : goal.returns
unfolding tree_commands
returns c = rw (c.in_ok-put_missing_chosen.ensures, c.in_ok-push-2.ensures.ok, c.in_ok-push.ensures.ok) (simp append_assoc)
