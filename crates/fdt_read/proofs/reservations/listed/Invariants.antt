use Rattle.std.proofs.Common.{◌-◌, length}
use Rattle.fdt_read.proofs.Reserved.{Listed}
use Rattle.fdt_read.proofs.reservations.listed.Given as goal

abbrev pub invariant-pairs : goal.invariant-pairs
invariant-pairs l = Listed l.block l.reserves l.at

abbrev pub decreases-pairs : goal.decreases-pairs
decreases-pairs l = length l.block - l.at
