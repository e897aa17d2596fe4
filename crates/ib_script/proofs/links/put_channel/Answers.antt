use Rattle.std.proofs.Common.{append_assoc}
use Rattle.ib_script.specs.Guests.{channel_commands}
use Rattle.ib_script.proofs.links.put_channel.Goals as goal

pub returns : goal.returns
unfolding channel_commands
returns c =
    rw (c.in_ok-put_ends.ensures, c.in_ok-put_cell.ensures, c.in_ok-put_word.ensures, c.in_ok-put_node.ensures, c.as_str-node.ensures, c.in_ok-child.ensures, c.as_str-name.ensures, c.in_ok-channel.ensures)
    (simp append_assoc)
