use Rattle.domain_plan.proofs.PlacedLaws.{memory_is_mapped}
use Rattle.domain_plan.proofs.laws.memory_is_mapped.Goals as goal

pub returns : goal.returns
returns c = memory_is_mapped c.args.host.now c.args.loads.now c.args.guests.now c.requires
