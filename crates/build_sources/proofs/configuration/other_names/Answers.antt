use Rattle.std.proofs.Common.{◌∙◌}
use Rattle.build_sources.proofs.ConfigSteps.{others_left}
use Rattle.build_sources.proofs.configuration.other_names.Goals as goal

pub returns : goal.returns
returns c = c.pop-tree.ensures.rest ∙ others_left c.args.config.now c.into_vec-names.result.items _ (c.into_vec-names.ensures ∙ c.in_ok-files.ensures) c.into_vec-names.result.ok.0
