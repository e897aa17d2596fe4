use Rattle.std.proofs.Common.{◌∙◌, ap}
use Rattle.fdt_tree.specs.Document.{place_of, with_child}
use Rattle.tree_parts.proofs.Growing.{leaf-added}
use Rattle.indexed_tree.proofs.trees.add_entry.Goals as goal

pub returns-clause-ok : goal.returns-clause-ok
returns-clause-ok c =
    let d = c.args.tree.now in
    leaf-added d c.add_empty.new.tree c.give.new.tree c.args.parent c.in_ok-node.node c.args.entry.now.name c.args.entry.now.properties c.numbering.ensures c.requires.live (c.in_ok-node.ensures.ok ∙ ap (with_child d (place_of d c.args.parent)) c.as_slice.ensures) c.in_ok-node.ensures.newest c.in_ok-give.ensures
