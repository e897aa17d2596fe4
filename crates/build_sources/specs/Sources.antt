-- What a build stands on, from where it begins: a configuration, a script with a tree, or a ready tree.
use Rattle.std.specs.Prelude.{ℕ, List, [], ◌∷◌, Option, Some, None, nat_eq, if◌then◌else◌}
use Rattle.std.specs.List.{flat_map, enumerate_from}
use Rattle.std.specs.Option.{option_eq}
use Rattle.outside.specs.Outside.{File}
use Rattle.described.specs.declared.loaded.Loaded.{Loaded}
use Rattle.outside.specs.declared.status.Status.TheVariants as statuses
use Rattle.fdt_tree.specs.Tree.{Tree}
use Rattle.fdt_tree.specs.declared.reserve.Reserve.{Reserve}
use Rattle.ib_script.specs.declared.command.Command.{Command}
use Rattle.ib_script.specs.declared.command.Command.TheVariants.{Load}
use Rattle.ib_script.specs.declared.make.LoadKind.{LoadKind}
use Rattle.script_run.specs.Effect.{tree_load_of, loads_of, tree_effect}
use Rattle.script_run.specs.FaultTexts.{line_text, step_text}
use Rattle.script_run.specs.Reading.{commands_of}
use Rattle.script_run.specs.declared.machine.StepFault.{StepFault}
use Rattle.script_run.specs.declared.script.ScriptFault.{ScriptFault}
use Rattle.dom0less_words.specs.Words.{Word, Source, Config, Replay, Ready}
use Rattle.run_steps.specs.Endings.{Outcome}
use Rattle.run_steps.specs.Messages.{file_message}
use Rattle.run_steps.specs.Names.{joined}
use Rattle.run_steps.specs.Steps.{IsRefusal, OnResult, AfterReading, AfterSize, AfterEach}
use Rattle.tree_files.specs.Trees.{FlatTree, AfterTreeFile}
use Rattle.build_sources.specs.Configs.{Made, AfterMade}
use Rattle.build_sources.specs.Handed.{HandsOn}
use Rattle.build_sources.specs.Scripts.{script_name, script_file, unused_lines}

-- what a build stands on: the host's tree as it is after the script, the reservations of its file and the processor that boots, and the files that were loaded
pub record Stand : Type 0 where
  pub root : Tree
  pub reserves : List Reserve
  pub boot : ℕ
  pub loads : List Loaded
  -- the outputs before those of the build, and the lines before its report
  pub before : List File
  pub lines : List ℕ

-- the longest script that is read, in bytes
abbrev pub script_limit : ℕ
script_limit = 262144

-- the first bad line of a script is refused
abbrev pub IsLineRefusal : List ℕ → ScriptFault → Outcome → Type 0
IsLineRefusal name fault outcome = IsRefusal statuses.Format (file_message name (line_text fault)) outcome

-- a script is read, and its commands are handed on
abbrev pub AfterScriptFile : Option (List File) → List ℕ → (List Command → Outcome → Type 0) → Outcome → Type 0
AfterScriptFile told name next outcome = AfterReading told name script_limit (λ text. OnResult (IsLineRefusal name) next (commands_of text)) outcome

-- the first command that cannot be run is refused
abbrev pub IsStepRefusal : List ℕ → StepFault → Outcome → Type 0
IsStepRefusal name fault outcome = IsRefusal statuses.Format (file_message name (step_text fault)) outcome

-- the script of this name is run on a tree, and the tree after it is handed on
abbrev pub AfterRun : List ℕ → List Command → Tree → (Tree → Outcome → Type 0) → Outcome → Type 0
AfterRun name commands root next outcome = OnResult (IsStepRefusal name) next (tree_effect commands root) outcome

-- the load that a command is, if it is one: the command's index, and the name of its file
abbrev pub load_named : ℕ × Command → List (ℕ × List ℕ)
load_named (index, Load how address name) = (index, name) ∷ []
load_named (index, command) = []

-- the loads of a script
abbrev pub loads_named : List Command → List (ℕ × List ℕ)
loads_named commands = flat_map load_named (enumerate_from 0 commands)

-- the size of a load's file where it is known without a call, in bytes: that of the tree's load, whose file was read
abbrev pub known_size : Option ℕ → ℕ → ℕ → Option ℕ
known_size tree length index = if option_eq nat_eq tree (Some index) then Some length else None

-- a size that is known is handed on; any other file is measured
abbrev pub AfterKnownSize : Option (List File) → List ℕ → Option ℕ → (ℕ → Outcome → Type 0) → Outcome → Type 0
AfterKnownSize told name (Some size) next outcome = next size outcome
AfterKnownSize told name None next outcome = AfterSize told name next outcome

-- the size of one load's file, in a folder where one is given
abbrev pub AfterLoadSize : Option (List File) → Option Word → Option ℕ → ℕ → ℕ × List ℕ → (ℕ → Outcome → Type 0) → Outcome → Type 0
AfterLoadSize told folder tree length (index, name) next outcome = AfterKnownSize told (joined folder name) (known_size tree length index) next outcome

-- the files of all loads but the tree's are measured in their order, and the sizes of all are handed on
abbrev pub AfterLoadSizes : Option (List File) → Option Word → List Command → ℕ → (List ℕ → Outcome → Type 0) → Outcome → Type 0
AfterLoadSizes told folder commands length next outcome = AfterEach (AfterLoadSize told folder (tree_load_of commands) length) (loads_named commands) next outcome

-- the stand of a configuration whose script made this of the tree: the script is the first output, and the names without effect come before the report
abbrev pub config_stand : Option Word → Made → Tree → Stand
config_stand outputs made root = record {
  root = root;
  reserves = made.tree.reserves;
  boot = made.tree.boot;
  loads = loads_of made.script made.sizes made.tree.length;
  before = script_file outputs made ∷ [];
  lines = unused_lines made.settings.unused;
}

-- the stand of a script that made this of a tree that was read, with the sizes of its loads
abbrev pub replay_stand : List Command → FlatTree → List ℕ → Tree → Stand
replay_stand commands tree sizes root = record { root = root; reserves = tree.reserves; boot = tree.boot; loads = loads_of commands sizes tree.length; before = []; lines = [] }

-- the stand of a ready tree, beside which nothing is loaded
abbrev pub ready_stand : FlatTree → Stand
ready_stand tree = record { root = tree.root; reserves = tree.reserves; boot = tree.boot; loads = []; before = []; lines = [] }

-- a configuration is made into a script, which is run on the host's tree
abbrev pub AfterConfigured : Option (List File) → Word → Option Word → LoadKind → Option Word → (Stand → Outcome → Type 0) → Outcome → Type 0
AfterConfigured told config folder kind outputs next outcome =
    AfterMade told config folder kind
    (λ made. AfterRun script_name made.script made.tree.root
    (λ root. next (config_stand outputs made root))) outcome

-- a script is read and then its tree, the loads are measured, and the script is run
abbrev pub AfterReplay : Option (List File) → Word → Word → Option Word → (Stand → Outcome → Type 0) → Outcome → Type 0
AfterReplay told script tree folder next outcome =
    AfterScriptFile told script
    (λ commands. AfterTreeFile told tree
    (λ file. AfterLoadSizes told folder commands file.length
    (λ sizes. AfterRun script commands file.root
    (λ root. next (replay_stand commands file sizes root))))) outcome

-- a ready tree is read
abbrev pub AfterReady : Option (List File) → Word → (Stand → Outcome → Type 0) → Outcome → Type 0
AfterReady told tree next outcome = AfterTreeFile told tree (λ file. next (ready_stand file)) outcome

-- from where a build begins, with the folder of its outputs, what it stands on is read and handed on
abbrev pub AfterSource : Option (List File) → Source → Option Word → (Stand → Outcome → Type 0) → Outcome → Type 0
AfterSource told (Config config folder kind) outputs next outcome = AfterConfigured told config folder kind outputs next outcome
AfterSource told (Replay script tree folder) outputs next outcome = AfterReplay told script tree folder next outcome
AfterSource told (Ready tree) outputs next outcome = AfterReady told tree next outcome

-- the files are read, nothing is refused, and a build stands on this
abbrev pub StandsOn : Option (List File) → Source → Option Word → Stand → Type 0
StandsOn told source outputs stand = HandsOn (AfterSource told source outputs) stand

-- the folder of the files that a configuration or a script names, where one is given
abbrev pub folder_of : Source → Option Word
folder_of (Config config folder kind) = folder
folder_of (Replay script tree folder) = folder
folder_of (Ready tree) = None
