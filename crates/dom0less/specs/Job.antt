-- What a run is called to do by its words and by the files.
use Rattle.std.specs.Prelude.{◌≡◌, ℕ, true, List, [], ◌∷◌, Option, Some, None, IsNone}
use Rattle.outside.specs.Outside.{File}
use Rattle.fdt_listing.specs.Listing.{listing}
use Rattle.run_steps.specs.Endings.{Outcome}
use Rattle.run_steps.specs.Steps.{IsWriting}
use Rattle.tree_files.specs.Trees.{FlatTree, AfterTreeFile}
use Rattle.program.specs.Programs.{usage_line}
use Rattle.dom0less_words.specs.Words.{Word, ScriptAsked, Asked, Build, Check, Script, Show, Generate}
use Rattle.dom0less_words.specs.Command.{is_taken}
use Rattle.dom0less_words.specs.Settings.{settings}
use Rattle.build_sources.specs.Configs.{Made, AfterMade}
use Rattle.build_sources.specs.Scripts.{script_file, unused_lines}
use Rattle.dom0less.specs.Builds.{IsBuildJob}
use Rattle.dom0less.specs.Checks.{IsCheckJob}
use Rattle.dom0less.specs.Generated.{IsGeneratedJob}
use Rattle.dom0less.specs.Lines.{program_name}

-- a tree's listing is put, and nothing is written
abbrev pub IsTreeListing : FlatTree → Outcome → Type 0
IsTreeListing tree outcome = IsWriting [] (listing tree.reserves tree.root) outcome

-- the one output is the script; the report is the names that have no effect
abbrev pub IsScriptWriting : Option Word → Made → Outcome → Type 0
IsScriptWriting folder made outcome = IsWriting (script_file folder made ∷ []) (unused_lines made.settings.unused) outcome

-- a configuration is read and made into a script, which is written
abbrev pub IsScriptJob : Option (List File) → ScriptAsked → Outcome → Type 0
IsScriptJob told ask outcome = AfterMade told ask.config ask.files ask.kind (IsScriptWriting ask.outputs) outcome

-- what is asked for
abbrev pub IsAskedJob : Option (List File) → Asked → Outcome → Type 0
IsAskedJob told (Build source folder) outcome = IsBuildJob told source folder outcome
IsAskedJob told (Check source folder) outcome = IsCheckJob told source folder outcome
IsAskedJob told (Script ask) outcome = IsScriptJob told ask outcome
IsAskedJob told (Show tree) outcome = AfterTreeFile told tree IsTreeListing outcome
IsAskedJob told (Generate number) outcome = IsGeneratedJob number outcome

-- the words ask for nothing, and this text is said: where `clap` takes them, they break a rule of usage, and it is the line of usage
abbrev pub AreRefused : List (List ℕ) → List ℕ → Type 0
AreRefused words text = IsNone (settings words) × (is_taken words ≡ true → text ≡ usage_line program_name)

-- words that ask for nothing have no job: they are refused, whatever the files hold
abbrev pub IsSettingsJob : Option (List File) → Option Asked → Outcome → Type 0
IsSettingsJob told None outcome = ⊥
IsSettingsJob told (Some asked) outcome = IsAskedJob told asked outcome

-- the words and the files call for this outcome, by what the files hold where that is told, and else by some answers of theirs
abbrev pub CallsFor : List (List ℕ) → Option (List File) → Outcome → Type 0
CallsFor words told outcome = IsSettingsJob told (settings words) outcome

-- the words and these files do
abbrev pub IsJob : List (List ℕ) → List File → Outcome → Type 0
IsJob words held outcome = CallsFor words (Some held) outcome
