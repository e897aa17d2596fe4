use Rattle.std.proofs.Common.{◌<◌, length, take, map, All}
use Rattle.fdt_nodes.specs.Held.{node_of}
use Rattle.domain_bindings.proofs.FirstLemmas.{ModulesSoFar}
use Rattle.domain_bindings.proofs.modules.append_modules.Given as goal

-- the modules so far are added, and the first of each kind among them is kept
abbrev pub invariant-loop-node : goal.invariant-loop-node
invariant-loop-node l =
    ModulesSoFar l.tree (map (node_of l.tree) (take l.node-index l.modules)) l.initial.items l.items l.firsts.items × All (λ n. n < length l.tree.places) l.firsts.items
