use Rattle.std.proofs.Common.{length}
use Rattle.fdt_nodes.specs.Nodes.{children}
use Rattle.fdt_nodes.specs.Held.{node_of}
use Rattle.fdt_nodes.proofs.PlaceNodes.{siblings}
use Rattle.fdt_nodes.proofs.Turns.{ChildrenLeft}
use Rattle.fdt_nodes.proofs.below.children.Given as goal

abbrev pub invariant-loop-next : goal.invariant-loop-next
invariant-loop-next l = ChildrenLeft l.tree (children (node_of l.tree l.fn.node)) l.children l.next

abbrev pub decreases-loop-next : goal.decreases-loop-next
decreases-loop-next l = length (siblings l.tree l.next)
