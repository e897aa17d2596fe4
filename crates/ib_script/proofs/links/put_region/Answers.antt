use Rattle.std.proofs.Common.{append_assoc}
use Rattle.ib_script.specs.Guests.{shared_commands}
use Rattle.ib_script.proofs.links.put_region.Goals as goal

pub returns : goal.returns
unfolding shared_commands
returns c =
    rw (c.in_ok-put_wide.ensures, c.in_ok-put_word-2.ensures, c.in_ok-put_word.ensures, c.in_ok-put_node.ensures, c.as_str-id.ensures, c.as_str-node.ensures, c.in_ok-child.ensures, c.as_str-name.ensures, c.in_ok-region.ensures)
    (simp append_assoc)
