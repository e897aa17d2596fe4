use Rattle.item_checks.proofs.StandingLemmas.{stands_more}
use Rattle.item_checks.proofs.state.State.add.Goals as goal

pub returns : goal.returns
returns c before stands claims pages = stands_more c.args.owner before c.args.described.now c.args.takes.now c.args.self.now c.add_taking.new.self stands c.in_ok-add_taking.ensures claims pages
