use Rattle.ib_lint.proofs.OneOutcome.{one_outcome}
use Rattle.ib_lint.proofs.laws.one_outcome.Goals as goal

pub returns : goal.returns
returns c = one_outcome
