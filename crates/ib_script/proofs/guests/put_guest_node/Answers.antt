use Rattle.std.proofs.Common.{append_assoc}
use Rattle.ib_script.specs.Guests.{node_commands}
use Rattle.ib_script.proofs.guests.put_guest_node.Goals as goal

pub returns : goal.returns
unfolding node_commands
returns c =
    rw (c.in_ok-put_two_and_two.ensures, c.in_ok-put_word.ensures, c.in_ok-put_node.ensures, c.as_str-path.ensures, c.in_ok-node.ensures, c.as_str.ensures, c.in_ok-name.ensures) (simp append_assoc)
