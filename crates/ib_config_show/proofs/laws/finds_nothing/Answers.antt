use Rattle.ib_config_show.proofs.Called.{finds_nothing}
use Rattle.ib_config_show.proofs.laws.finds_nothing.Goals as goal

pub returns : goal.returns
returns c = finds_nothing
