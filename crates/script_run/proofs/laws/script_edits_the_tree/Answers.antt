use Rattle.script_run.proofs.ScriptLaws.{script_edits}
use Rattle.script_run.proofs.laws.script_edits_the_tree.Goals as goal

pub returns : goal.returns
returns c = script_edits
