use Rattle.fdt_overlay.proofs.Never.{reports_nothing}
use Rattle.fdt_overlay.proofs.laws.reports_nothing.Goals as goal

pub returns : goal.returns
returns c = reports_nothing
