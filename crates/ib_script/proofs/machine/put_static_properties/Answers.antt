use Rattle.std.proofs.Common.{append_assoc}
use Rattle.ib_script.specs.Guests.{static_properties}
use Rattle.ib_script.proofs.machine.put_static_properties.Goals as goal

pub returns : goal.returns
unfolding static_properties
returns c = rw (c.in_ok-put_flag_where.ensures, c.in_ok-put_ranges.ensures, c.in_ok-put_cell-2.ensures, c.in_ok-put_cell.ensures) (simp append_assoc)
