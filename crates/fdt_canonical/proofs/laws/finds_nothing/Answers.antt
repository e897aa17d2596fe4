use Rattle.fdt_canonical.proofs.Called.{finds_nothing}
use Rattle.fdt_canonical.proofs.laws.finds_nothing.Goals as goal

pub returns : goal.returns
returns c = finds_nothing
