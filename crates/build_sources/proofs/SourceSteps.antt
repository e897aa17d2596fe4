-- Reading what a build stands on, and the guests' partial trees, are steps.
use Rattle.std.proofs.Common.{◌≡◌, ℕ, List}
use Rattle.std.specs.Prelude.{Option, Some, None, Ok}
use Rattle.outside.specs.Outside.{File}
use Rattle.described.specs.declared.loaded.Loaded.{Loaded}
use Rattle.fdt_tree.specs.Tree.{Tree}
use Rattle.ib_script.specs.declared.command.Command.{Command}
use Rattle.ib_script.specs.declared.make.LoadKind.{LoadKind}
use Rattle.script_run.specs.Effect.{tree_load_of, tree_effect}
use Rattle.script_run.specs.Reading.{commands_of}
use Rattle.dom0less_words.specs.Words.{Word, Source, Config, Replay, Ready}
use Rattle.run_steps.specs.Names.{joined}
use Rattle.run_steps.specs.Steps.{IsReading, OnResult, AfterReading, AfterEach}
use Rattle.tree_files.specs.Trees.{FlatTree, AfterTreeFile, IsTreeFile}
use Rattle.run_steps.proofs.Step.{IsStep, and_then, hand_on, hand_on_step, on_result_step, each_step}
use Rattle.run_steps.proofs.ReadingSteps.{reading_step, size_step}
use Rattle.tree_files.proofs.TreeSteps.{tree_file_step}
use Rattle.build_sources.specs.Handed.{HandsOn}
use Rattle.build_sources.specs.Configs.{Made, AfterMade, IsMade}
use Rattle.build_sources.specs.Scripts.{script_name}
use Rattle.build_sources.specs.Sources.{Stand, script_limit, IsLineRefusal, IsStepRefusal, AfterScriptFile, AfterRun, loads_named, known_size, AfterKnownSize, AfterLoadSize, AfterLoadSizes, config_stand, replay_stand, ready_stand, AfterConfigured, AfterReplay, AfterReady, AfterSource, StandsOn}
use Rattle.build_sources.specs.PrivateReplays.{AfterMadeRun, AfterSized, AfterTreeRead, AfterScriptRead}
use Rattle.build_sources.specs.Partials.{load_at, AfterLoaded, AfterPartial, AfterPartials, Describes, described_by, partial_addresses}
use Rattle.build_sources.proofs.ConfigSteps.{made_step}
use Rattle.build_sources.proofs.Handing.{handed_step, both_step}
use Rattle.build_sources.proofs.Handing as handing

-- a script is run
pub run_step : (name : List ℕ) (commands : List Command) (root : Tree) → IsStep (HandsOn (AfterRun name commands root)) (AfterRun name commands root)
run_step name commands root =
    handed_step (λ after. tree_effect commands root ≡ Ok after) (AfterRun name commands root) (on_result_step (IsStepRefusal name) (λ fault outputs report p. p) (λ fault status list p. p) (tree_effect commands root))

-- the script of a configuration is run
pub made_run_step : (outputs : Option Word) (made : Made) → IsStep (HandsOn (AfterMadeRun outputs made)) (AfterMadeRun outputs made)
made_run_step outputs made = handing.made_step (AfterRun script_name made.script made.tree.root) (config_stand outputs made) (run_step script_name made.script made.tree.root)

module _ (told : Option (List File)) where
  -- a tree is read
  pub tree_step : (name : List ℕ) → IsStep (HandsOn (AfterTreeFile told name)) (AfterTreeFile told name)
  tree_step name = handed_step (IsTreeFile told name) (AfterTreeFile told name) (tree_file_step told name)

  -- a configuration
  pub configured_step : (config : Word) (folder : Option Word) (kind : LoadKind) (outputs : Option Word)
      → IsStep (HandsOn (AfterConfigured told config folder kind outputs)) (AfterConfigured told config folder kind outputs)
  configured_step config folder kind outputs =
      both_step (AfterMade told config folder kind) (AfterMadeRun outputs) (handed_step (IsMade told config folder kind) (AfterMade told config folder kind) (made_step told config folder kind)) (made_run_step outputs)

  -- a script is read
  pub script_file_step : (name : List ℕ) → IsStep (HandsOn (AfterScriptFile told name)) (AfterScriptFile told name)
  script_file_step name =
      handed_step _ (AfterScriptFile told name)
      (and_then (λ text. IsReading told name script_limit (Ok text)) (λ text commands. commands_of text ≡ Ok commands) (AfterReading told name script_limit) (λ text next. OnResult (IsLineRefusal name) next (commands_of text))
      (reading_step told name script_limit) (λ text. on_result_step (IsLineRefusal name) (λ fault outputs report p. p) (λ fault status list p. p) (commands_of text)))

  -- loads are measured
  pub known_size_step : (name : List ℕ) (known : Option ℕ) → IsStep (HandsOn (AfterKnownSize told name known)) (AfterKnownSize told name known)
  known_size_step name (Some size) = handed_step (λ y. y ≡ size) (hand_on size) (hand_on_step size)
  known_size_step name None = handed_step _ _ (size_step told name)

  pub load_size_step : (folder : Option Word) (tree : Option ℕ) (length : ℕ) (load : ℕ × List ℕ) → IsStep (HandsOn (AfterLoadSize told folder tree length load)) (AfterLoadSize told folder tree length load)
  load_size_step folder tree length (index, name) = known_size_step (joined folder name) (known_size tree length index)

  pub load_sizes_step : (folder : Option Word) (commands : List Command) (length : ℕ) → IsStep (HandsOn (AfterLoadSizes told folder commands length)) (AfterLoadSizes told folder commands length)
  load_sizes_step folder commands length =
      handed_step _ (AfterLoadSizes told folder commands length)
      (each_step (λ load. HandsOn (AfterLoadSize told folder (tree_load_of commands) length load)) (AfterLoadSize told folder (tree_load_of commands) length) (load_size_step folder (tree_load_of commands) length) (loads_named commands))

  -- a replay, from its last step to its first
  pub sized_step : (script : Word) (commands : List Command) (file : FlatTree) (sizes : List ℕ) → IsStep (HandsOn (AfterSized script commands file sizes)) (AfterSized script commands file sizes)
  sized_step script commands file sizes = handing.made_step (AfterRun script commands file.root) (replay_stand commands file sizes) (run_step script commands file.root)

  pub tree_read_step : (script : Word) (folder : Option Word) (commands : List Command) (file : FlatTree) → IsStep (HandsOn (AfterTreeRead told script folder commands file)) (AfterTreeRead told script folder commands file)
  tree_read_step script folder commands file =
      both_step (AfterLoadSizes told folder commands file.length) (AfterSized script commands file) (load_sizes_step folder commands file.length) (sized_step script commands file)

  pub script_read_step : (script tree : Word) (folder : Option Word) (commands : List Command) → IsStep (HandsOn (AfterScriptRead told script tree folder commands)) (AfterScriptRead told script tree folder commands)
  script_read_step script tree folder commands = both_step (AfterTreeFile told tree) (AfterTreeRead told script folder commands) (tree_step tree) (tree_read_step script folder commands)

  pub replay_step : (script tree : Word) (folder : Option Word) → IsStep (HandsOn (AfterReplay told script tree folder)) (AfterReplay told script tree folder)
  replay_step script tree folder = both_step (AfterScriptFile told script) (AfterScriptRead told script tree folder) (script_file_step script) (script_read_step script tree folder)

  -- a ready tree
  pub ready_step : (tree : Word) → IsStep (HandsOn (AfterReady told tree)) (AfterReady told tree)
  ready_step tree = handing.made_step (AfterTreeFile told tree) ready_stand (tree_step tree)

  -- from where a build begins
  pub source_step : (source : Source) (outputs : Option Word) → IsStep (StandsOn told source outputs) (AfterSource told source outputs)
  source_step (Config config folder kind) outputs = configured_step config folder kind outputs
  source_step (Replay script tree folder) outputs = replay_step script tree folder
  source_step (Ready tree) outputs = ready_step tree

  -- partial trees
  pub loaded_step : (folder : Option Word) (load : Option Loaded) → IsStep (HandsOn (AfterLoaded told folder load)) (AfterLoaded told folder load)
  loaded_step folder None = handed_step (λ y. y ≡ None) (hand_on None) (hand_on_step None)
  loaded_step folder (Some load) = handing.made_step (AfterTreeFile told (joined folder load.name)) (λ file. Some file.root) (tree_step (joined folder load.name))

  pub partial_step : (folder : Option Word) (loads : List Loaded) (address : Option ℕ) → IsStep (HandsOn (AfterPartial told folder loads address)) (AfterPartial told folder loads address)
  partial_step folder loads None = handed_step (λ y. y ≡ None) (hand_on None) (hand_on_step None)
  partial_step folder loads (Some address) = loaded_step folder (load_at loads address)

  pub each_partial_step : (folder : Option Word) (loads : List Loaded) (addresses : List (Option ℕ)) → IsStep (HandsOn (AfterEach (AfterPartial told folder loads) addresses)) (AfterEach (AfterPartial told folder loads) addresses)
  each_partial_step folder loads addresses =
      handed_step _ (AfterEach (AfterPartial told folder loads) addresses) (each_step (λ address. HandsOn (AfterPartial told folder loads address)) (AfterPartial told folder loads) (partial_step folder loads) addresses)

  pub partials_step : (folder : Option Word) (stand : Stand) → IsStep (Describes told folder stand) (AfterPartials told folder stand)
  partials_step folder stand = handing.made_step (AfterEach (AfterPartial told folder stand.loads) (partial_addresses stand.root)) (described_by stand) (each_partial_step folder stand.loads (partial_addresses stand.root))
