use Rattle.fdt_tree.proofs.VisitLemmas.{sees-all, lives-all}
use Rattle.fdt_tree.proofs.walk.Walk.new.Goals as goal

pub returns-clause-visits : goal.returns-clause-visits
returns-clause-visits c = sees-all c.args.tree.now c.root.result c.numbering.ensures c.root.ensures.place

pub returns-clause-live : goal.returns-clause-live
returns-clause-live c = lives-all c.args.tree.now c.root.result c.numbering.ensures c.root.ensures.place
