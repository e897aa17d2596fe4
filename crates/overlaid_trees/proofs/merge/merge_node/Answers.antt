use Rattle.fdt_tree.specs.Document.{properties_of, children_of}
use Rattle.overlaid_trees.proofs.MergeLemmas.{Changes-merged-by}
use Rattle.overlaid_trees.proofs.merge.merge_node.Goals as goal

pub returns : goal.returns
returns c =
    Changes-merged-by c.merge_children.result c.args.tree.now c.set_properties.new.tree c.merge_children.new.tree c.args.target (properties_of c.args.overlay.now c.args.node) (children_of c.args.overlay.now c.args.node) c.requires.target_live c.in_ok-set_properties.ensures c.merge_children.ensures
