use Rattle.fdt_source.proofs.Never.{finds_nothing}
use Rattle.fdt_source.proofs.laws.finds_nothing.Goals as goal

pub returns : goal.returns
returns c = finds_nothing
