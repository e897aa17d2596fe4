use Rattle.fdt_tree.specs.Document.{name_of, properties_of}
use Rattle.guest_fdt.specs.Copies.{kept}
use Rattle.std.proofs.Common.{◌∙◌, ap}
use Rattle.fdt_tree.specs.Document.{place_of, with_child}
use Rattle.tree_parts.proofs.Growing.{leaf-added}
use Rattle.guest_fdt.proofs.copies.copy_node.Goals as goal

pub returns-clause-ok : goal.returns-clause-ok
returns-clause-ok c =
    let d = c.args.tree.now in
    leaf-added d c.add_empty.new.tree c.copy_properties.new.tree c.args.parent c.in_ok-copy.copy (name_of c.args.source.now c.args.node) (kept (properties_of c.args.source.now c.args.node)) c.numbering.ensures c.requires.parent_live (c.in_ok-copy.ensures.ok ∙ ap (with_child d (place_of d c.args.parent)) c.name.ensures) c.in_ok-copy.ensures.newest c.in_ok-copy_properties.ensures
