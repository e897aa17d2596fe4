use Rattle.guest_load.proofs.OneOutcome.{one_outcome}
use Rattle.guest_load.proofs.laws.one_outcome.Goals as goal

pub returns : goal.returns
returns c = one_outcome
