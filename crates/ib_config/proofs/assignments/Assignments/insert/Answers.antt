use Rattle.ib_config.proofs.AssignLemmas.{held-insert}
use Rattle.ib_config.proofs.assignments.Assignments.insert.Goals as goal

pub returns : goal.returns
returns c =
    let inserted = held-insert c.self.inside.map c.insert.new.self c.args.key c.args.text c.in_ok-insert.ensures.entries (c.in_ok-insert.ensures.updates.0) in
    cc
