use Rattle.std.proofs.Common.{◌≡◌, drop}
use Rattle.std.specs.List.{find}
use Rattle.item_checks.proofs.EarliestLemmas.{takes_of}
use Rattle.item_checks.proofs.takings.first_of.Given as goal

-- what was looked at so far takes nothing of the ranges
abbrev pub invariant-loop-one : goal.invariant-loop-one
invariant-loop-one l = find (takes_of l.ranges) (drop l.one-index l.taken) ≡ find (takes_of l.ranges) l.taken
