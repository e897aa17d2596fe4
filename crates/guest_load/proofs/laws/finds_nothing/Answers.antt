use Rattle.guest_load.proofs.Never.{finds_nothing}
use Rattle.guest_load.proofs.laws.finds_nothing.Goals as goal

pub returns : goal.returns
returns c = finds_nothing
