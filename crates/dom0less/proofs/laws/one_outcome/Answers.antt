use Rattle.dom0less.proofs.OneOutcome.{one_outcome}
use Rattle.dom0less.proofs.laws.one_outcome.Goals as goal

pub returns : goal.returns
returns c = one_outcome
