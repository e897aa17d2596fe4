use Rattle.std.proofs.Common.{append_assoc}
use Rattle.ib_script.specs.Properties.{module_at}
use Rattle.ib_script.proofs.properties.put_module.Goals as goal

pub returns : goal.returns
unfolding module_at
returns c =
    rw (c.in_ok-put_wide.ensures, c.in_ok-put_pieces.ensures, c.in_ok-put_node.ensures, c.as_str.ensures, c.as_str-2.ensures, c.in_ok-path.ensures, c.in_ok-compatible.ensures) (simp append_assoc)
