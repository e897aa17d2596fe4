use Rattle.fdt_nodes.specs.Held.{node_of}
use Rattle.fdt_nodes.specs.Controllers.{is_gic}
use Rattle.fdt_nodes.proofs.Searches.{NoneYet}
use Rattle.fdt_nodes.proofs.controllers.gic.Given as goal

-- no node so far is a GIC
abbrev pub invariant-loop-node : goal.invariant-loop-node
invariant-loop-node l = NoneYet is_gic (node_of l.tree) l.node-items l.node-index
