use Rattle.ib_config_show.proofs.OneOutcome.{asks_nothing}
use Rattle.ib_config_show.proofs.laws.asks_nothing.Goals as goal

pub returns : goal.returns
returns c = asks_nothing
