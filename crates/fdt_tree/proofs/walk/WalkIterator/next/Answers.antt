use Rattle.std.proofs.Common.{sym, ◌∙◌}
use Rattle.fdt_tree.proofs.VisitLemmas.{turned, few-opened}
use Rattle.fdt_tree.proofs.walk.WalkIterator.next.Goals as goal

pub opened_after-requires : goal.opened_after-requires
opened_after-requires c =
    let walk = c.self.inside in few-opened walk.tree.now walk.node walk.opened walk.step c.self.invariant

pub returns-in-Some-opened_after-clause-steps : goal.returns-in-Some-opened_after-clause-steps
returns-in-Some-opened_after-clause-steps c =
    let walk = c.self.inside in
    sym c.self.view_is ∙ turned walk.tree.now walk.node walk.opened c.in-Some-opened_after.opened walk.step c.in-Some.turn c.self.invariant.numbered c.in-Some.ensures.turn c.in-Some-opened_after.ensures
