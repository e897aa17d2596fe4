-- How a bad line and a refused command are shown.
use Rattle.std.specs.Prelude.{ℕ, List, ◌++◌, codes, decimal}
use Rattle.script_run.specs.declared.machine.StepWhy.{StepWhy}
use Rattle.script_run.specs.declared.machine.StepWhy.TheVariants.{NoNode, Exists, Deep, NoTree}
use Rattle.script_run.specs.declared.machine.StepFault.{StepFault}
use Rattle.script_run.specs.declared.machine.StepFault.TheVariants as steps
use Rattle.script_run.specs.declared.script.LineWhy.{LineWhy}
use Rattle.script_run.specs.declared.script.LineWhy.TheVariants.{NotPlain, OpenQuote, BadCommand, BadNumber, BadPath}
use Rattle.script_run.specs.declared.script.ScriptFault.{ScriptFault}
use Rattle.script_run.specs.declared.script.ScriptFault.TheVariants as lines

-- a name, and the number of the line or command
abbrev pub at_number : List ℕ → ℕ → List ℕ
at_number name number = name ++ (codes " at " ++ decimal number)

-- the name of what stops a command
abbrev pub step_name : StepWhy → List ℕ
step_name NoNode = codes "NoNode"
step_name Exists = codes "Exists"
step_name Deep = codes "Deep"
step_name NoTree = codes "NoTree"

-- the name of what is wrong with a line
abbrev pub line_name : LineWhy → List ℕ
line_name NotPlain = codes "NotPlain"
line_name OpenQuote = codes "OpenQuote"
line_name BadCommand = codes "BadCommand"
line_name BadNumber = codes "BadNumber"
line_name BadPath = codes "BadPath"

-- a refused command: why, and its number
abbrev pub step_text : StepFault → List ℕ
step_text (steps.Step number why) = at_number (step_name why) number
step_text steps.Memory = codes "out of memory"

-- a bad line: why, and its number
abbrev pub line_text : ScriptFault → List ℕ
line_text (lines.Line number why) = at_number (line_name why) number
line_text lines.Memory = codes "out of memory"
