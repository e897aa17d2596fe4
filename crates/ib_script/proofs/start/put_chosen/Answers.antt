use Rattle.std.proofs.Common.{append_assoc}
use Rattle.ib_script.specs.Script.{chosen_commands}
use Rattle.ib_script.proofs.start.put_chosen.Goals as goal

pub returns : goal.returns
unfolding chosen_commands
returns c = rw (c.in_ok-put_word.ensures, c.in_ok-put_two_and_two.ensures) (simp append_assoc)
