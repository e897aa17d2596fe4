use Rattle.script_run.proofs.ScriptLaws.{reads_back}
use Rattle.script_run.proofs.laws.printed_is_parsed.Goals as goal

pub returns : goal.returns
returns c = reads_back
