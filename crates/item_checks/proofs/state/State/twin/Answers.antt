use Rattle.std.proofs.Common.{◌∙◌}
use Rattle.item_checks.proofs.RegionLemmas.{twice_found}
use Rattle.item_checks.proofs.state.State.twin.Goals as goal

pub returns : goal.returns
returns c before stands = c.region_item.ensures ∙ rw stands.regions (twice_found c.args.id.now c.args.owner.guest before)
