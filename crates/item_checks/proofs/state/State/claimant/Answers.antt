use Rattle.std.proofs.Common.{◌∙◌}
use Rattle.item_checks.specs.Standing.{claims_taken}
use Rattle.item_checks.proofs.EarliestLemmas.{named}
use Rattle.item_checks.proofs.state.State.claimant.Goals as goal

pub returns : goal.returns
returns c guest before stands = c.first_item.ensures ∙ rw (c.as_slice.ensures.value, stands.items, stands.claims) (named claims_taken c.args.ranges.now before)
