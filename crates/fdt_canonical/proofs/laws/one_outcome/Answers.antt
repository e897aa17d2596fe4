use Rattle.fdt_canonical.proofs.OneOutcome.{one_outcome}
use Rattle.fdt_canonical.proofs.laws.one_outcome.Goals as goal

pub returns : goal.returns
returns c = one_outcome
