use Rattle.std.proofs.Common.{sym, subst, arith}
use Rattle.fdt_nodes.specs.Nodes.{nodes_of}
use Rattle.fdt_nodes.specs.Held.{Are}
use Rattle.fdt_nodes.proofs.ChildMapLemmas.{HasChildrenOf, take_all, maps_all}
use Rattle.fdt_nodes.proofs.path_index.PathIndex.new.Goals as goal

pub invariant_of-result : goal.invariant_of-result
invariant_of-result c =
    maps_all c.args.tree.now c.as_slice-node-items.result.now c.loop-node.held c.numbering.ensures
    (subst (Are c.args.tree.now (nodes_of c.args.tree.now.tree)) (sym c.as_slice-node-items.ensures) c.in_ok-all.ensures)
    (subst (λ ns. HasChildrenOf c.args.tree.now ns c.loop-node.held) (take_all c.loop-node.node-index c.as_slice-node-items.result.now (omega arith)) c.loop-node.invariant)
