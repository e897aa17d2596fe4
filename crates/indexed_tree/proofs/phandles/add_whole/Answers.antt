use Rattle.indexed_tree.proofs.PhandleEdits.{whole-added}
use Rattle.indexed_tree.proofs.phandles.add_whole.Goals as goal

pub returns-clause-whole : goal.returns-clause-whole
returns-clause-whole c =
    whole-added c.add.result c.args.entries.now.items c.add.new.entries.items c.args.holders.now c.args.parent c.args.name.now c.requires.whole c.requires.live c.add.ensures.held c.add.ensures.ok c.add.ensures.err
