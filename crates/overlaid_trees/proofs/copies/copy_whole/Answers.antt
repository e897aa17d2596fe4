use Rattle.overlaid_trees.proofs.CopyLemmas.{copy-made}
use Rattle.overlaid_trees.proofs.copies.copy_whole.Goals as goal

pub returns : goal.returns
returns c =
    copy-made c.args.by c.args.source.now c.in_ok-tree.tree c.copy_properties.new.tree c.copy_children.new.tree c.root-from.result c.root-root.result c.moved_phandle.result c.root-from.ensures.place c.kept.ensures.unnamed c.moved_phandle.ensures c.in_ok-tree.ensures c.root-root.ensures.place c.in_ok-copy_properties.ensures c.in_ok-copy_children.ensures
