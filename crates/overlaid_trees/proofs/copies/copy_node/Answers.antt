use Rattle.std.proofs.Common.{◌∙◌, ap}
use Rattle.fdt_tree.specs.Document.{place_of, name_of, properties_of, with_child}
use Rattle.tree_parts.proofs.Growing.{leaf-added}
use Rattle.overlaid_trees.specs.Shift.{moved_properties}
use Rattle.overlaid_trees.proofs.CopyLemmas.{given-as}
use Rattle.overlaid_trees.proofs.copies.copy_node.Goals as goal

pub returns-clause-ok : goal.returns-clause-ok
returns-clause-ok c =
    let d = c.args.tree.now in
    let s = c.args.source.now in
    leaf-added d c.add_empty.new.tree c.copy_properties.new.tree c.args.parent c.in_ok-copy.copy (name_of s c.args.node) (moved_properties c.args.by (properties_of s c.args.node)) c.numbering.ensures c.requires.parent_live (c.in_ok-copy.ensures.ok ∙ ap (with_child d (place_of d c.args.parent)) c.name.ensures) c.in_ok-copy.ensures.newest
    (given-as c.args.by (properties_of s c.args.node) c.moved_phandle.result c.add_empty.new.tree c.copy_properties.new.tree c.in_ok-copy.copy c.moved_phandle.ensures c.in_ok-copy_properties.ensures)
