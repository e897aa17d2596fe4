use Rattle.std.proofs.Common.{◌∙◌}
use Rattle.item_checks.proofs.state.State.other_taker.Goals as goal

pub returns : goal.returns
returns c before stands = c.first_other.ensures ∙ rw c.as_slice.ensures.value (stands.takers c.args.number c.args.owner.guest)
