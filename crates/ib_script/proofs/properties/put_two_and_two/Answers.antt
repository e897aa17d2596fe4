use Rattle.std.proofs.Common.{append_assoc}
use Rattle.ib_script.specs.Properties.{two_and_two}
use Rattle.ib_script.proofs.properties.put_two_and_two.Goals as goal

pub returns : goal.returns
unfolding two_and_two
returns c = rw (c.in_ok-put_cell-2.ensures, c.in_ok-put_cell.ensures) (simp append_assoc)
