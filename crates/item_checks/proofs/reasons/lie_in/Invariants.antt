use Rattle.std.proofs.Common.{◌≡◌, drop}
use Rattle.frame_alloc.specs.Ranges.{lie_in}
use Rattle.item_checks.proofs.reasons.lie_in.Given as goal

-- the ranges before the index are of the host's memory
abbrev pub invariant-loop-range : goal.invariant-loop-range
invariant-loop-range l = lie_in l.ram (drop l.range-index l.ranges) ≡ lie_in l.ram l.ranges
