use Rattle.fdt_overlay.proofs.OneOutcome.{one_outcome}
use Rattle.fdt_overlay.proofs.laws.one_outcome.Goals as goal

pub returns : goal.returns
returns c = one_outcome
