use Rattle.std.proofs.Common.{◌≡◌, take}
use Rattle.std.specs.List.{flat_map}
use Rattle.ib_script.specs.Properties.{two_cells}
use Rattle.ib_script.proofs.properties.put_wide.Given as goal

-- the cells of the numbers so far
abbrev pub invariant-loop-number : goal.invariant-loop-number
invariant-loop-number l = l.numbers ≡ flat_map two_cells (take l.number-index l.wide)
