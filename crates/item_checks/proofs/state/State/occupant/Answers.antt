use Rattle.std.proofs.Common.{◌∙◌}
use Rattle.item_checks.specs.Standing.{pages_taken}
use Rattle.item_checks.proofs.EarliestLemmas.{named}
use Rattle.item_checks.proofs.state.State.occupant.Goals as goal

pub returns : goal.returns
returns c guest before stands = c.first_item.ensures ∙ rw (c.as_slice.ensures.value, stands.items, stands.pages) (named (pages_taken guest) c.args.ranges.now before)
