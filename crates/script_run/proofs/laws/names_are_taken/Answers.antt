use Rattle.script_run.proofs.ScriptLaws.{names_are_taken}
use Rattle.script_run.proofs.laws.names_are_taken.Goals as goal

pub returns : goal.returns
returns c = names_are_taken
