use Rattle.std.proofs.Common.{length}
use Rattle.fdt_nodes.proofs.ChildMapLemmas.{Adding}
use Rattle.fdt_nodes.proofs.path_index.children_by_name.Given as goal

abbrev pub invariant-loop-child : goal.invariant-loop-child
invariant-loop-child l = Adding l.tree l.initial.rest.items l.rest.items l.named

abbrev pub decreases-loop-child : goal.decreases-loop-child
decreases-loop-child l = length l.rest.items
