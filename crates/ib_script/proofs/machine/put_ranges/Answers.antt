use Rattle.std.proofs.Common.{arith}
use Rattle.std.proofs.lemmas.List.{take_all}
use Rattle.ib_script.proofs.machine.put_ranges.Goals as goal

pub returns : goal.returns
returns c = rw (c.in_ok-put_cells.ensures, c.loop-range.invariant, take_all c.loop-range.range-index c.args.ranges.now (omega arith))
