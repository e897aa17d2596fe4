-- What the types of the code say, in the words of the definitions.
use Rattle.std.specs.Option.{option_copied}
use Rattle.dom0less_words.specs.Words as words
use Rattle.dom0less_words.specs.declared.asked.Asked.{Asked}
use Rattle.dom0less_words.specs.declared.asked.Asked.TheVariants.{Build, Check, Script, Show, Generate}
use Rattle.dom0less_words.specs.declared.asked.Source.{Source}
use Rattle.dom0less_words.specs.declared.asked.Source.TheVariants.{Config, Replay, Ready}
use Rattle.dom0less_words.specs.declared.asked.ScriptAsked.{ScriptAsked}

-- where a build begins, as it is kept
abbrev pub meant_source : Source → words.Source
meant_source (Config config files kind) = words.Config config.now (option_copied files) kind
meant_source (Replay script tree files) = words.Replay script.now tree.now (option_copied files)
meant_source (Ready tree) = words.Ready tree.now

-- a script that is asked for
abbrev pub meant_script : ScriptAsked → words.ScriptAsked
meant_script script = record {
  config = script.config.now;
  files = option_copied script.files;
  outputs = option_copied script.outputs;
  kind = script.kind;
}

-- what is asked for
abbrev pub meant : Asked → words.Asked
meant (Build source outputs) = words.Build (meant_source source) (option_copied outputs)
meant (Check source images) = words.Check (meant_source source) (option_copied images)
meant (Script script) = words.Script (meant_script script)
meant (Show tree) = words.Show tree.now
meant (Generate number) = words.Generate number
