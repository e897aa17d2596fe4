-- Of private contracts and proofs alone: the steps in which the code reads a script.
use Rattle.std.specs.Prelude.{ℕ, Bool, not, List, ◌++◌, Option, Some, None, Result, Ok, Err, if◌then◌else◌}
use Rattle.std.specs.List.{list_all}
use Rattle.ib_config.specs.Line.{is_blank, not_blank, until}
use Rattle.ib_config.specs.PrivateWords.{is_space}
use Rattle.ib_script.specs.declared.command.Command.{Command}
use Rattle.script_run.specs.declared.classes.Class.{Class}
use Rattle.script_run.specs.declared.classes.Class.TheVariants.{Blank, Bare, Space, Until}
use Rattle.script_run.specs.declared.script.LineWhy.{LineWhy}
use Rattle.script_run.specs.declared.script.LineWhy.TheVariants.{NotPlain, OpenQuote, BadCommand, BadNumber, BadPath}
use Rattle.script_run.specs.declared.script.ScriptFault.{ScriptFault}
use Rattle.script_run.specs.Words.{Word, all_plain}
use Rattle.script_run.specs.Commands.{Form, form_of, command_of, has_paths}
use Rattle.script_run.specs.Reading.{◌>>=◌, lines_read}

-- whether a byte is of a class
abbrev pub passes : Class → ℕ → Bool
passes Blank c = is_blank c
passes Bare c = not_blank c
passes Space c = is_space c
passes (Until close) c = until close c

-- words behind others, and what follows
abbrev pub behind : List Word → List Word × List ℕ → List Word × List ℕ
behind words found = (words ++ found.0, found.1)

-- a command whose numbers were read, if its paths and names are as they have to be
abbrev pub checked : Bool → Option Command → Result Command LineWhy
checked good None = Err BadNumber
checked good (Some command) = if good then Ok command else Err BadPath

-- the command of a form that words have, or the first reason that is left
abbrev pub form_read : Option Form → Result Command LineWhy
form_read None = Err BadCommand
form_read (Some form) = checked (has_paths form) (command_of form)

-- the same of words, one test after the other
unfoldable pub words_steps : List Word → Result Command LineWhy
words_steps words = if not (all_plain words) then Err NotPlain
    else (if not (list_all (λ (w : Word). w.closed) words) then Err OpenQuote
    else form_read (form_of words))

-- the commands read so far, and then those of the lines from line n on
unfoldable pub rest_read : List Command → ℕ → List (List ℕ) → Result (List Command) ScriptFault
rest_read done n lines = do
  later ← lines_read n lines
  Ok (done ++ later)
