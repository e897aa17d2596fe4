use Rattle.std.proofs.Common.{◌≡◌, drop, map}
use Rattle.fdt_nodes.specs.Held.{node_of}
use Rattle.overlaid_trees.specs.Turns.{each}
use Rattle.overlaid_trees.specs.Shift.{moved_by_node}
use Rattle.overlaid_trees.proofs.shift.move_words_of_all.Given as goal

-- the nodes that are left, done to the tree so far, give the whole
abbrev pub invariant-loop-index : goal.invariant-loop-index
invariant-loop-index l =
    each (moved_by_node l.fn.by) l.initial.tree.tree (map (node_of l.overlay) l.nodes) ≡ each (moved_by_node l.fn.by) l.tree.tree (drop l.index (map (node_of l.overlay) l.nodes))
