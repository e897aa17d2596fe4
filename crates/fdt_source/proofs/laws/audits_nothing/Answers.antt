use Rattle.fdt_source.proofs.Never.{audits_nothing}
use Rattle.fdt_source.proofs.laws.audits_nothing.Goals as goal

pub returns : goal.returns
returns c = audits_nothing
