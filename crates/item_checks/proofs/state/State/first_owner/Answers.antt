use Rattle.std.proofs.Common.{◌∙◌}
use Rattle.item_checks.proofs.RegionLemmas.{owner_found}
use Rattle.item_checks.proofs.state.State.first_owner.Goals as goal

pub returns : goal.returns
returns c before stands = c.region_item.ensures ∙ rw stands.regions (owner_found c.args.id.now c.args.owner.guest before)
