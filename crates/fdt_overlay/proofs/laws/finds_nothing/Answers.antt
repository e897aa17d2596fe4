use Rattle.fdt_overlay.proofs.Never.{finds_nothing}
use Rattle.fdt_overlay.proofs.laws.finds_nothing.Goals as goal

pub returns : goal.returns
returns c = finds_nothing
