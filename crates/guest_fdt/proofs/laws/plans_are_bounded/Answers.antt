use Rattle.guest_fdt.proofs.PlannedTreeLemmas.{guests_are_bounded}
use Rattle.guest_fdt.proofs.laws.plans_are_bounded.Goals as goal

pub returns : goal.returns
returns c = guests_are_bounded
