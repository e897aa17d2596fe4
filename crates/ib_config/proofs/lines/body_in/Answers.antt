use Rattle.ib_config.specs.Line.{is_name_byte}
use Rattle.ib_config.proofs.TextLemmas.{run_passes}
use Rattle.ib_config.proofs.lines.body_in.Goals as goal

pub text_of_name-requires : goal.text_of_name-requires
text_of_name-requires c = rw c.split_run.ensures.front (run_passes is_name_byte c.args.body.now)
