use Rattle.std.proofs.Common.{sym, Some}
use Rattle.fdt_tree.specs.Document.{name_of, properties_of, children_of}
use Rattle.guest_fdt.specs.Copies.{kept, cleaned_in, copied}
use Rattle.tree_parts.specs.Nodes.{trees_of}
use Rattle.guest_fdt.proofs.Copying.{copied-none, copied-some}
use Rattle.tree_parts.proofs.Growing.{Grows-none, opened-as}
use Rattle.guest_fdt.proofs.copies.copy_found.Goals as goal

pub returns-in-None : goal.returns-in-None
returns-in-None c =
    Grows-none c.args.tree.now c.args.parent _ (copied-none c.args.source.now c.args.path.now c.in-None.ensures.place)

pub returns-in_ok-copy-in-Some : goal.returns-in_ok-copy-in-Some
returns-in_ok-copy-in-Some c =
    let s = c.args.source.now in
    let node = c.in-Some.node in
    opened-as c.copy_children.result c.args.tree.now c.copy_node.new.tree c.copy_children.new.tree c.args.parent c.in_ok-copy-in-Some.copy (name_of s node) (kept (properties_of s node)) (cleaned_in (children_of s node)) (trees_of (copied (Some s.tree) c.args.path.now)) c.numbering.ensures c.requires.parent_live c.in_ok-copy-in-Some.ensures.ok c.in_ok-copy-in-Some.ensures.newest c.copy_children.ensures (sym (copied-some s c.args.path.now node (c.numbering-2.ensures.stand node c.in-Some.ensures.live) c.in-Some.ensures.place))
