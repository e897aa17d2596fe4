use Rattle.fdt_nodes.proofs.BelowLemmas.{BelowLeft}
use Rattle.fdt_nodes.proofs.below.append_below.Given as goal

abbrev pub invariant-loop-visit : goal.invariant-loop-visit
invariant-loop-visit l = BelowLeft l.tree l.fn.node l.fn.found l.found l.visit-iterator
