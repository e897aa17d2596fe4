use Rattle.std.proofs.Common.{◌≡◌, drop}
use Rattle.fdt_tree.specs.Document.{properties_of}
use Rattle.overlaid_trees.specs.Turns.{each}
use Rattle.overlaid_trees.specs.Resolve.{with_label}
use Rattle.overlaid_trees.proofs.resolve.put_labels.Given as goal

-- the labels that are left, done to the tree so far, give the whole
abbrev pub invariant-loop-index : goal.invariant-loop-index
invariant-loop-index l =
    each (with_label l.base.tree) l.initial.tree.tree (properties_of l.overlay l.fixups) ≡ each (with_label l.base.tree) l.tree.tree (drop l.index (properties_of l.overlay l.fixups))
