use Rattle.std.proofs.Common.{length, drop, ◌-◌, ◌+◌, ◌≤◌, ◌≡◌}
use Rattle.std.specs.List.{prefix_len}
use Rattle.ib_config.specs.PrivateScan.{passes}
use Rattle.ib_config.proofs.classes.run_len.Given as goal

-- what is left of the run begins at n
abbrev pub invariant-loop-n : goal.invariant-loop-n
invariant-loop-n l = (l.n ≤ length l.bytes) × (prefix_len (passes l.class) l.bytes ≡ l.n + prefix_len (passes l.class) (drop l.n l.bytes))

abbrev pub decreases-loop-n : goal.decreases-loop-n
decreases-loop-n l = length l.bytes - l.n
