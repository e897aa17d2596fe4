use Rattle.guest_fdt.proofs.PlannedGuests.{few_planned}
use Rattle.guest_fdt.proofs.laws.plans_are_few.Goals as goal

pub returns : goal.returns
returns c = few_planned
