use Rattle.std.proofs.Common.{◌∙◌}
use Rattle.item_checks.proofs.StandingLemmas.{loaded}
use Rattle.item_checks.proofs.state.State.is_loaded.Goals as goal

pub returns : goal.returns
returns c guest before stands = c.is_any_over.ensures ∙ rw (c.as_slice.ensures.value, stands.loads) (loaded c.args.at before)
