use Rattle.std.proofs.Common.{◌≡◌, take}
use Rattle.std.specs.List.{flat_map}
use Rattle.ib_script.specs.Guests.{range_cells}
use Rattle.ib_script.proofs.machine.put_ranges.Given as goal

-- the cells of the ranges so far
abbrev pub invariant-loop-range : goal.invariant-loop-range
invariant-loop-range l = l.numbers ≡ flat_map range_cells (take l.range-index l.ranges)
