use Rattle.std.proofs.Common.{length}
use Rattle.fdt_nodes.proofs.PlaceNodes.{siblings}
use Rattle.guest_load.proofs.BankLemmas.{IsLeft}
use Rattle.guest_load.proofs.bank.first_memory.Given as goal

-- no memory was met before this node
abbrev pub invariant-loop-at : goal.invariant-loop-at
invariant-loop-at l = IsLeft l.tree l.at

abbrev pub decreases-loop-at : goal.decreases-loop-at
decreases-loop-at l = length (siblings l.tree l.at)
