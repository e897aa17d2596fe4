use Rattle.ib_lint.proofs.OneOutcome.{asks_nothing}
use Rattle.ib_lint.proofs.laws.asks_nothing.Goals as goal

pub returns : goal.returns
returns c = asks_nothing
