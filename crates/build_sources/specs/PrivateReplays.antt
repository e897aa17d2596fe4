-- Only private contracts and proofs use this file: the steps that are left of a configuration whose script was made, and of a replay.
use Rattle.std.specs.Prelude.{List, Option, ℕ}
use Rattle.outside.specs.Outside.{File}
use Rattle.ib_script.specs.declared.command.Command.{Command}
use Rattle.script_run.specs.Effect.{loads_of}
use Rattle.dom0less_words.specs.Words.{Word}
use Rattle.run_steps.specs.Endings.{Outcome}
use Rattle.tree_files.specs.Trees.{FlatTree, AfterTreeFile}
use Rattle.build_sources.specs.Configs.{Made}
use Rattle.build_sources.specs.Scripts.{script_name}
use Rattle.build_sources.specs.Sources.{Stand, AfterRun, AfterLoadSizes, config_stand, replay_stand}

-- a script is run on a tree, with the sizes of its loads, behind these outputs and lines
abbrev pub AfterAnnounced : List File → List ℕ → List Command → FlatTree → List ℕ → (Stand → Outcome → Type 0) → Outcome → Type 0
AfterAnnounced before lines commands file sizes next outcome =
    AfterRun script_name commands file.root
    (λ root. next (record { root = root; reserves = file.reserves; boot = file.boot; loads = loads_of commands sizes file.length; before = before; lines = lines })) outcome

-- the script of a configuration is run
abbrev pub AfterMadeRun : Option Word → Made → (Stand → Outcome → Type 0) → Outcome → Type 0
AfterMadeRun outputs made next outcome = AfterRun script_name made.script made.tree.root (λ root. next (config_stand outputs made root)) outcome

-- a script is run on a tree, with the sizes of its loads
abbrev pub AfterSized : Word → List Command → FlatTree → List ℕ → (Stand → Outcome → Type 0) → Outcome → Type 0
AfterSized script commands file sizes next outcome = AfterRun script commands file.root (λ root. next (replay_stand commands file sizes root)) outcome

-- its loads are measured before that
abbrev pub AfterTreeRead : Option (List File) → Word → Option Word → List Command → FlatTree → (Stand → Outcome → Type 0) → Outcome → Type 0
AfterTreeRead told script folder commands file next outcome =
    AfterLoadSizes told folder commands file.length (λ sizes. AfterSized script commands file sizes next) outcome

-- and its tree is read before that
abbrev pub AfterScriptRead : Option (List File) → Word → Word → Option Word → List Command → (Stand → Outcome → Type 0) → Outcome → Type 0
AfterScriptRead told script tree folder commands next outcome = AfterTreeFile told tree (λ file. AfterTreeRead told script folder commands file next) outcome
