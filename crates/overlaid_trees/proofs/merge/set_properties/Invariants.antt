use Rattle.std.proofs.Common.{◌≡◌, take}
use Rattle.fdt_tree.specs.Document.{place_of, properties_of, with_properties}
use Rattle.overlaid_trees.specs.Merge.{set_all}
use Rattle.overlaid_trees.proofs.merge.set_properties.Given as goal

-- the properties so far are set
abbrev pub invariant-loop-index : goal.invariant-loop-index
invariant-loop-index l = l.tree ≡ with_properties l.initial.tree (place_of l.initial.tree l.target) (set_all (take l.index (properties_of l.overlay l.node)))
