use Rattle.fdt_tree.proofs.VisitLemmas.{sees-below, lives-below}
use Rattle.fdt_tree.proofs.walk.Walk.below.Goals as goal

pub returns-clause-visits : goal.returns-clause-visits
returns-clause-visits c = sees-below c.args.tree.now c.args.node c.numbering.ensures c.requires

pub returns-clause-live : goal.returns-clause-live
returns-clause-live c = lives-below c.args.tree.now c.args.node c.numbering.ensures c.requires
