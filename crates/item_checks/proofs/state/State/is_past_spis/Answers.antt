use Rattle.std.proofs.Common.{◌∙◌}
use Rattle.item_checks.proofs.state.State.is_past_spis.Goals as goal

pub returns : goal.returns
returns c before stands = c.is_past.ensures ∙ stands.spis c.args.number
