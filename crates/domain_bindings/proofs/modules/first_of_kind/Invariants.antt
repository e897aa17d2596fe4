use Rattle.fdt_nodes.specs.Nodes.{Node}
use Rattle.fdt_nodes.specs.Held.{node_of}
use Rattle.domain_bindings.specs.Modules.{are_alike, kind_of}
use Rattle.fdt_nodes.proofs.Searches.{NoneYet}
use Rattle.domain_bindings.proofs.modules.first_of_kind.Given as goal

-- no module so far is of the kind
abbrev pub invariant-loop-node : goal.invariant-loop-node
invariant-loop-node l = NoneYet (λ (node : Node). are_alike l.kind (kind_of node)) (node_of l.tree) l.modules l.node-index
