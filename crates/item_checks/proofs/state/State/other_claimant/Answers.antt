use Rattle.std.proofs.Common.{◌∙◌}
use Rattle.item_checks.proofs.RegionLemmas.{named_other}
use Rattle.item_checks.proofs.state.State.other_claimant.Goals as goal

pub returns : goal.returns
returns c guest before stands = c.first_other_item.ensures ∙ rw (c.as_slice.ensures.value, c.as_slice-2.ensures.value, stands.items, stands.claims, stands.regions) (named_other c.args.id.now c.args.claims.now before)
