use Rattle.ib_config_show.proofs.OneOutcome.{one_outcome}
use Rattle.ib_config_show.proofs.laws.one_outcome.Goals as goal

pub returns : goal.returns
returns c = one_outcome
