use Rattle.fdt_overlay.proofs.Never.{audits_nothing}
use Rattle.fdt_overlay.proofs.laws.audits_nothing.Goals as goal

pub returns : goal.returns
returns c = audits_nothing
