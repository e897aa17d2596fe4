use Rattle.std.proofs.Common.{take}
use Rattle.fdt_nodes.proofs.ChildMapLemmas.{HasChildrenOf}
use Rattle.fdt_nodes.proofs.path_index.PathIndex.new.Given as goal

abbrev pub invariant-loop-node : goal.invariant-loop-node
invariant-loop-node l = HasChildrenOf l.tree (take l.node-index l.node-items) l.held
