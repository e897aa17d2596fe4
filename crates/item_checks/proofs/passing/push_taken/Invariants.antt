use Rattle.std.proofs.Common.{◌≡◌, ◌++◌, take, map}
use Rattle.item_checks.specs.Standing.{taken_at}
use Rattle.item_checks.proofs.passing.push_taken.Given as goal

-- the ranges before the index were added
abbrev pub invariant-loop-range : goal.invariant-loop-range
invariant-loop-range l = l.taken ≡ l.initial.taken ++ map (taken_at l.place) (take l.range-index l.ranges)
