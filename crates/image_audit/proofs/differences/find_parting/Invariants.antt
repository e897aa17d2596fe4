use Rattle.std.proofs.Common.{◌≡◌, ◌≤◌, drop, length}
use Rattle.image_audit.specs.PrivatePartings.{parting}
use Rattle.image_audit.proofs.differences.find_parting.Given as goal

-- the lists part where what is left of them does
abbrev pub invariant-loop-index : goal.invariant-loop-index
invariant-loop-index l = record {
  within : l.index ≤ length l.ranges;
  left : parting l.runs l.ranges ≡ parting (drop l.index l.runs) (drop l.index l.ranges);
}
