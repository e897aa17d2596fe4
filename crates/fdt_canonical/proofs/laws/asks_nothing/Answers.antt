use Rattle.fdt_canonical.proofs.OneOutcome.{asks_nothing}
use Rattle.fdt_canonical.proofs.laws.asks_nothing.Goals as goal

pub returns : goal.returns
returns c = asks_nothing
