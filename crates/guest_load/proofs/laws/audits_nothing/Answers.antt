use Rattle.guest_load.proofs.Never.{audits_nothing}
use Rattle.guest_load.proofs.laws.audits_nothing.Goals as goal

pub returns : goal.returns
returns c = audits_nothing
