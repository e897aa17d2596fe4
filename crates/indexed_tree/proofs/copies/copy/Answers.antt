use Rattle.indexed_tree.proofs.CopyLemmas.{copy-made}
use Rattle.indexed_tree.proofs.copies.copy.Goals as goal

pub returns : goal.returns
returns c =
    copy-made c.args.source.now c.in_ok-tree.tree c.copy_properties.new.tree c.copy_children.new.tree c.root-from.result c.root-root.result c.root-from.ensures.place c.kept.ensures.unnamed c.in_ok-tree.ensures c.root-root.ensures.place c.in_ok-copy_properties.ensures c.in_ok-copy_children.ensures
