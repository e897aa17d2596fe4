use Rattle.std.proofs.Common.{◌≤◌, length}
use Rattle.real_outside.proofs.folder.read_within.Given as goal

-- no more bytes than the limit so far
abbrev pub invariant-loop : goal.invariant-loop
invariant-loop g l = length l.bytes.items ≤ l.limit
