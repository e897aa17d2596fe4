use Rattle.std.proofs.Common.{◌≡◌, drop}
use Rattle.image_audit.specs.Findings.{planned_map}
use Rattle.image_audit.proofs.differences.planned_goal.Given as goal

-- the ranges send the page where those that are left do
abbrev pub invariant-loop-range : goal.invariant-loop-range
invariant-loop-range l = planned_map l.ranges l.page ≡ planned_map (drop l.range-index l.ranges) l.page
