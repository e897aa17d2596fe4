use Rattle.std.proofs.Common.{drop}
use Rattle.item_checks.specs.PrivateTakings.{AreClear}
use Rattle.item_checks.proofs.takings.may_meet_any.Given as goal

-- where the ranges from the index on are clear, all are
abbrev pub invariant-loop-range : goal.invariant-loop-range
invariant-loop-range l = AreClear l.ends (drop l.range-index l.ranges) → AreClear l.ends l.ranges
