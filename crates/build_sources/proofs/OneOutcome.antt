-- Over files that tell what they hold, reading what a build stands on and the guests' partial trees calls for one outcome, where what follows does.
use Rattle.std.proofs.Common.{ℕ, List, [], ◌∷◌, ◌++◌, map, Some, None}
use Rattle.std.specs.Prelude.{Option}
use Rattle.outside.specs.Outside.{File}
use Rattle.described.specs.declared.loaded.Loaded.{Loaded}
use Rattle.fdt_tree.specs.Tree.{Tree}
use Rattle.ib_config.specs.Settings.{config_of}
use Rattle.ib_config.specs.declared.settings.Settings.{Settings}
use Rattle.ib_placement.specs.Placement.{places_of}
use Rattle.ib_placement.specs.declared.places.PlaceFault.{PlaceFault}
use Rattle.ib_placement.specs.declared.places.PlaceFault.TheVariants as place_faults
use Rattle.ib_script.specs.Script.{made_of}
use Rattle.ib_script.specs.declared.command.Command.{Command}
use Rattle.ib_script.specs.declared.make.LoadKind.{LoadKind}
use Rattle.ib_script.specs.declared.make.MakeFault.{MakeFault}
use Rattle.ib_script.specs.declared.make.MakeFault.TheVariants as make_faults
use Rattle.script_run.specs.Effect.{tree_load_of, tree_effect}
use Rattle.script_run.specs.Reading.{commands_of}
use Rattle.dom0less_words.specs.Words.{Word, Source, Config, Replay, Ready}
use Rattle.run_steps.specs.Laws.{IsDetermined}
use Rattle.run_steps.specs.Names.{joined}
use Rattle.run_steps.specs.Steps.{OnResult, AfterReading, AfterEach}
use Rattle.tree_files.specs.Trees.{FlatTree, AfterTreeFile}
use Rattle.run_steps.proofs.Step.{hand_on}
use Rattle.run_steps.proofs.OneOutcome.{Decides, both_decide, hand_on_decides, refusals_agree, never_agrees, on_result_decides, each_decides, reading_decides, size_decides, sizes_decide}
use Rattle.tree_files.proofs.TreeSteps.{tree_file_decides}
use Rattle.build_sources.specs.Configs.{config_limit, IsConfigRefusal, IsPlaceRefusal, IsMakeRefusal, AfterConfig, AfterScript, AfterHost, AfterMade, Made, facts_of, host_file, other_files}
use Rattle.build_sources.specs.Scripts.{script_name}
use Rattle.build_sources.specs.Sources.{Stand, script_limit, IsLineRefusal, IsStepRefusal, AfterScriptFile, AfterRun, loads_named, known_size, AfterKnownSize, AfterLoadSize, AfterLoadSizes, config_stand, replay_stand, ready_stand, AfterSource}
use Rattle.build_sources.specs.PrivateReplays.{AfterMadeRun, AfterSized, AfterTreeRead, AfterScriptRead}
use Rattle.build_sources.specs.Partials.{load_at, AfterLoaded, AfterPartial, AfterPartials, described_by, partial_addresses}

-- a configuration, and what is made of it
place_refusals_agree : (fault : PlaceFault) → IsDetermined (IsPlaceRefusal fault)
place_refusals_agree (place_faults.PastEnd name end) = refusals_agree _ _
place_refusals_agree place_faults.Memory = never_agrees

make_refusals_agree : (tree : List ℕ) (fault : MakeFault) → IsDetermined (IsMakeRefusal tree fault)
make_refusals_agree tree (make_faults.NoPhandle highest) = refusals_agree _ _
make_refusals_agree tree make_faults.Memory = never_agrees

script_decides : (folder : Option (List ℕ)) (kind : LoadKind) (config : Settings) (tree : FlatTree) (sizes : List ℕ) → Decides (AfterScript folder kind config tree sizes)
script_decides folder kind config tree sizes =
    both_decide (λ next. OnResult IsPlaceRefusal next (places_of config sizes)) (λ places next. OnResult (IsMakeRefusal (host_file folder config)) next (made_of config places (facts_of tree.root) kind))
    (on_result_decides IsPlaceRefusal place_refusals_agree (places_of config sizes))
    (λ places. on_result_decides (IsMakeRefusal (host_file folder config)) (make_refusals_agree (host_file folder config)) (made_of config places (facts_of tree.root) kind))

-- a script is run
run_decides : (name : List ℕ) (commands : List Command) (root : Tree) → Decides (AfterRun name commands root)
run_decides name commands root = on_result_decides (IsStepRefusal name) (λ fault. refusals_agree _ _) (tree_effect commands root)

made_run_decides : (outputs : Option Word) (made : Made) → Decides (AfterMadeRun outputs made)
made_run_decides outputs made = both_decide (AfterRun script_name made.script made.tree.root) (λ root. hand_on (config_stand outputs made root)) (run_decides script_name made.script made.tree.root) (λ root. hand_on_decides (config_stand outputs made root))

sized_decides : (script : Word) (commands : List Command) (file : FlatTree) (sizes : List ℕ) → Decides (AfterSized script commands file sizes)
sized_decides script commands file sizes = both_decide (AfterRun script commands file.root) (λ root. hand_on (replay_stand commands file sizes root)) (run_decides script commands file.root) (λ root. hand_on_decides (replay_stand commands file sizes root))

module _ (held : List File) where
  config_decides : (name : List ℕ) → Decides (AfterConfig (Some held) name)
  config_decides name =
      both_decide (AfterReading (Some held) name config_limit) (λ bytes next. OnResult (IsConfigRefusal name) next (config_of bytes)) (reading_decides held name config_limit)
      (λ bytes. on_result_decides (IsConfigRefusal name) (λ fault. refusals_agree _ _) (config_of bytes))

  host_decides : (folder : Option (List ℕ)) (kind : LoadKind) (config : Settings) → Decides (AfterHost (Some held) folder kind config)
  host_decides folder kind config next determined =
      tree_file_decides held (host_file folder config) _
      (λ tree. sizes_decide held (map (joined folder) (other_files config)) _
      (λ others. script_decides folder kind config tree (others ++ tree.length ∷ []) _
      (λ script. determined (record { settings = config; tree = tree; sizes = others ++ tree.length ∷ []; script = script }))))

  -- what is made of a configuration
  pub made_decides : (name : List ℕ) (folder : Option (List ℕ)) (kind : LoadKind) → Decides (AfterMade (Some held) name folder kind)
  made_decides name folder kind = both_decide (AfterConfig (Some held) name) (λ config. AfterHost (Some held) folder kind config) (config_decides name) (host_decides folder kind)

  -- a replay
  script_file_decides : (name : List ℕ) → Decides (AfterScriptFile (Some held) name)
  script_file_decides name =
      both_decide (AfterReading (Some held) name script_limit) (λ text next. OnResult (IsLineRefusal name) next (commands_of text)) (reading_decides held name script_limit)
      (λ text. on_result_decides (IsLineRefusal name) (λ fault. refusals_agree _ _) (commands_of text))

  known_size_decides : (name : List ℕ) (known : Option ℕ) → Decides (AfterKnownSize (Some held) name known)
  known_size_decides name (Some size) = hand_on_decides size
  known_size_decides name None = size_decides held name

  load_size_decides : (folder : Option Word) (tree : Option ℕ) (length : ℕ) (load : ℕ × List ℕ) → Decides (AfterLoadSize (Some held) folder tree length load)
  load_size_decides folder tree length (index, name) = known_size_decides (joined folder name) (known_size tree length index)

  load_sizes_decide : (folder : Option Word) (commands : List Command) (length : ℕ) → Decides (AfterLoadSizes (Some held) folder commands length)
  load_sizes_decide folder commands length = each_decides (AfterLoadSize (Some held) folder (tree_load_of commands) length) (load_size_decides folder (tree_load_of commands) length) (loads_named commands)

  tree_read_decides : (script : Word) (folder : Option Word) (commands : List Command) (file : FlatTree) → Decides (AfterTreeRead (Some held) script folder commands file)
  tree_read_decides script folder commands file =
      both_decide (AfterLoadSizes (Some held) folder commands file.length) (AfterSized script commands file) (load_sizes_decide folder commands file.length) (sized_decides script commands file)

  script_read_decides : (script tree : Word) (folder : Option Word) (commands : List Command) → Decides (AfterScriptRead (Some held) script tree folder commands)
  script_read_decides script tree folder commands = both_decide (AfterTreeFile (Some held) tree) (AfterTreeRead (Some held) script folder commands) (tree_file_decides held tree) (tree_read_decides script folder commands)

  -- what a build stands on
  pub source_decides : (source : Source) (outputs : Option Word) → Decides (AfterSource (Some held) source outputs)
  source_decides (Config config folder kind) outputs = both_decide (AfterMade (Some held) config folder kind) (AfterMadeRun outputs) (made_decides config folder kind) (made_run_decides outputs)
  source_decides (Replay script tree folder) outputs = both_decide (AfterScriptFile (Some held) script) (AfterScriptRead (Some held) script tree folder) (script_file_decides script) (script_read_decides script tree folder)
  source_decides (Ready tree) outputs = both_decide (AfterTreeFile (Some held) tree) (λ file. hand_on (ready_stand file)) (tree_file_decides held tree) (λ file. hand_on_decides (ready_stand file))

  -- partial trees
  loaded_decides : (folder : Option Word) (load : Option Loaded) → Decides (AfterLoaded (Some held) folder load)
  loaded_decides folder None = hand_on_decides None
  loaded_decides folder (Some load) =
      both_decide (AfterTreeFile (Some held) (joined folder load.name)) (λ file. hand_on (Some file.root)) (tree_file_decides held (joined folder load.name)) (λ file. hand_on_decides (Some file.root))

  partial_decides : (folder : Option Word) (loads : List Loaded) (address : Option ℕ) → Decides (AfterPartial (Some held) folder loads address)
  partial_decides folder loads None = hand_on_decides None
  partial_decides folder loads (Some address) = loaded_decides folder (load_at loads address)

  -- what is described
  pub partials_decide : (folder : Option Word) (stand : Stand) → Decides (AfterPartials (Some held) folder stand)
  partials_decide folder stand =
      both_decide (AfterEach (AfterPartial (Some held) folder stand.loads) (partial_addresses stand.root)) (λ partials. hand_on (described_by stand partials))
      (each_decides (AfterPartial (Some held) folder stand.loads) (partial_decides folder stand.loads) (partial_addresses stand.root)) (λ partials. hand_on_decides (described_by stand partials))
