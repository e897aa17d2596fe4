use Rattle.std.proofs.Common.{◌-◌, ◌+◌}
use Rattle.fdt_read.specs.Tokens.{tokens_from}
use Rattle.fdt_read.proofs.Turns.{Reached}
use Rattle.fdt_read.proofs.structure.structure.Given as goal

abbrev pub invariant-tokens : goal.invariant-tokens
invariant-tokens l = Reached l.bytes (l.start + l.size) (tokens_from (l.size + 1) l.bytes (l.start + l.size) l.start) l.at l.building

abbrev pub decreases-tokens : goal.decreases-tokens
decreases-tokens l = l.stop - l.at
