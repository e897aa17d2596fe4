use Rattle.std.proofs.Common.{length, ◌+◌, ◌≤◌, ◌≡◌}
use Rattle.ib_config.specs.PrivateScan.{held, file_read, rest_read}
use Rattle.ib_config.proofs.assignments.read_assignments.Given as goal

-- what is left of the file, after what is assigned so far, comes to what the whole file does
abbrev pub invariant-loop-rest : goal.invariant-loop-rest
invariant-loop-rest l = record {
  same : file_read l.bytes ≡ rest_read l.number (held l.assignments) l.rest;
  count : l.number + length l.rest ≤ length l.bytes + 1;
}

abbrev pub decreases-loop-rest : goal.decreases-loop-rest
decreases-loop-rest l = length l.rest
