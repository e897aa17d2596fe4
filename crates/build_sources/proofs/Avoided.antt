-- Which statuses the steps never refuse with: reading what a script or a ready tree begins with, and partial trees, refuses with the statuses of reading files alone; a configuration with that of an item too.
use Rattle.std.proofs.Common.{◌≡◌, ℕ, List, map}
use Rattle.std.specs.Prelude.{Option, Some, None, Result, Ok, Err}
use Rattle.outside.specs.Outside.{File}
use Rattle.described.specs.declared.loaded.Loaded.{Loaded}
use Rattle.outside.specs.declared.status.Status.{Status}
use Rattle.outside.specs.declared.status.Status.TheVariants as statuses
use Rattle.fdt_tree.specs.Tree.{Tree}
use Rattle.ib_config.specs.Settings.{config_of}
use Rattle.ib_config.specs.declared.settings.Settings.{Settings}
use Rattle.ib_placement.specs.Placement.{places_of}
use Rattle.ib_placement.specs.declared.places.FilePlace.{FilePlace}
use Rattle.ib_placement.specs.declared.places.PlaceFault.{PlaceFault}
use Rattle.ib_placement.specs.declared.places.PlaceFault.TheVariants as place_faults
use Rattle.ib_script.specs.Script.{made_of}
use Rattle.ib_script.specs.declared.command.Command.{Command}
use Rattle.ib_script.specs.declared.make.LoadKind.{LoadKind}
use Rattle.ib_script.specs.declared.make.MakeFault.{MakeFault}
use Rattle.ib_script.specs.declared.make.MakeFault.TheVariants as make_faults
use Rattle.script_run.specs.Effect.{tree_load_of, tree_effect}
use Rattle.script_run.specs.Reading.{commands_of}
use Rattle.dom0less_words.specs.Words.{Word, Source, Config, Replay, Ready}
use Rattle.run_steps.specs.Endings.{Outcome, Refuses}
use Rattle.run_steps.specs.Names.{joined}
use Rattle.run_steps.specs.Steps.{IsReading, OnResult, AfterReading}
use Rattle.tree_files.specs.Trees.{FlatTree, AfterTreeFile}
use Rattle.run_steps.proofs.Step.{Next, Avoids, both_avoid, each_avoids, hand_on_avoids}
use Rattle.run_steps.proofs.ReadingSteps.{reading_step}
use Rattle.run_steps.proofs.Avoided.{IsOfNoFile, format_avoids, reading_avoids, size_avoids, sizes_avoid}
use Rattle.tree_files.proofs.TreeSteps.{tree_avoids}
pub use Rattle.run_steps.proofs.Avoided.{item_of_no_file}
use Rattle.build_sources.specs.Handed.{HandsOn}
use Rattle.build_sources.specs.Configs.{config_limit, IsConfigRefusal, IsPlaceRefusal, IsMakeRefusal, AfterConfig, AfterFileSizes, AfterScript, AfterHost, AfterMade, Made, IsMade, IsConfigFile, facts_of, host_file, other_files}
use Rattle.build_sources.specs.Scripts.{script_name}
use Rattle.build_sources.specs.Sources.{Stand, script_limit, IsLineRefusal, AfterScriptFile, AfterRun, loads_named, known_size, AfterKnownSize, AfterLoadSize, AfterLoadSizes, AfterConfigured, AfterReplay, AfterReady, AfterSource}
use Rattle.build_sources.specs.PrivateReplays.{AfterMadeRun, AfterSized, AfterTreeRead, AfterScriptRead}
use Rattle.build_sources.specs.Partials.{load_at, AfterLoaded, AfterPartial, AfterPartials, partial_addresses}
use Rattle.build_sources.proofs.ConfigSteps.{AreFileSizes, config_step, file_sizes_step, made_step}
use Rattle.build_sources.proofs.SourceSteps.{tree_step, script_file_step, load_size_step, load_sizes_step, partial_step}

module _ (status : Status) (other : IsOfNoFile status) where
  -- running a script
  pub run_avoids : (name : List ℕ) (commands : List Command) (root : Tree) → Avoids status (AfterRun name commands root)
  run_avoids name commands root = format_avoids status other _ (tree_effect commands root)

  pub made_run_avoids : (outputs : Option Word) (made : Made) → Avoids status (AfterMadeRun outputs made)
  made_run_avoids outputs made = run_avoids script_name made.script made.tree.root

  module _ (told : Option (List File)) where
    -- reading a script, and measuring its loads
    script_file_avoids : (name : List ℕ) → Avoids status (AfterScriptFile told name)
    script_file_avoids name =
        both_avoid (λ text. IsReading told name script_limit (Ok text)) status (AfterReading told name script_limit) (λ text next. OnResult (IsLineRefusal name) next (commands_of text))
        (reading_step told name script_limit) (reading_avoids status other told name script_limit) (λ text. format_avoids status other _ (commands_of text))

    known_size_avoids : (name : List ℕ) (known : Option ℕ) → Avoids status (AfterKnownSize told name known)
    known_size_avoids name (Some size) = hand_on_avoids status size
    known_size_avoids name None = size_avoids status other told name

    load_size_avoids : (folder : Option Word) (tree : Option ℕ) (length : ℕ) (load : ℕ × List ℕ) → Avoids status (AfterLoadSize told folder tree length load)
    load_size_avoids folder tree length (index, name) = known_size_avoids (joined folder name) (known_size tree length index)

    load_sizes_avoid : (folder : Option Word) (commands : List Command) (length : ℕ) → Avoids status (AfterLoadSizes told folder commands length)
    load_sizes_avoid folder commands length =
        each_avoids (λ load. HandsOn (AfterLoadSize told folder (tree_load_of commands) length load)) (AfterLoadSize told folder (tree_load_of commands) length) (load_size_step told folder (tree_load_of commands) length)
        status (load_size_avoids folder (tree_load_of commands) length) (loads_named commands)

    -- a replay
    tree_read_avoids : (script : Word) (folder : Option Word) (commands : List Command) (file : FlatTree) → Avoids status (AfterTreeRead told script folder commands file)
    tree_read_avoids script folder commands file =
        both_avoid (HandsOn (AfterLoadSizes told folder commands file.length)) status (AfterLoadSizes told folder commands file.length) (AfterSized script commands file)
        (load_sizes_step told folder commands file.length) (load_sizes_avoid folder commands file.length) (λ sizes. run_avoids script commands file.root)

    script_read_avoids : (script tree : Word) (folder : Option Word) (commands : List Command) → Avoids status (AfterScriptRead told script tree folder commands)
    script_read_avoids script tree folder commands =
        both_avoid (HandsOn (AfterTreeFile told tree)) status (AfterTreeFile told tree) (AfterTreeRead told script folder commands) (tree_step told tree) (tree_avoids status other told tree) (tree_read_avoids script folder commands)

    pub replay_avoids : (script tree : Word) (folder : Option Word) → Avoids status (AfterReplay told script tree folder)
    replay_avoids script tree folder =
        both_avoid (HandsOn (AfterScriptFile told script)) status (AfterScriptFile told script) (AfterScriptRead told script tree folder) (script_file_step told script) (script_file_avoids script) (script_read_avoids script tree folder)

    -- a ready tree
    pub ready_avoids : (tree : Word) → Avoids status (AfterReady told tree)
    ready_avoids tree = tree_avoids status other told tree

    -- partial trees
    loaded_avoids : (folder : Option Word) (load : Option Loaded) → Avoids status (AfterLoaded told folder load)
    loaded_avoids folder None = hand_on_avoids {A = Option Tree} status None
    loaded_avoids folder (Some load) = tree_avoids status other told (joined folder load.name)

    partial_avoids : (folder : Option Word) (loads : List Loaded) (address : Option ℕ) → Avoids status (AfterPartial told folder loads address)
    partial_avoids folder loads None = hand_on_avoids {A = Option Tree} status None
    partial_avoids folder loads (Some address) = loaded_avoids folder (load_at loads address)

    pub partials_avoid : (folder : Option Word) (stand : Stand) → Avoids status (AfterPartials told folder stand)
    partials_avoid folder stand =
        each_avoids (λ address. HandsOn (AfterPartial told folder stand.loads address)) (AfterPartial told folder stand.loads) (partial_step told folder stand.loads) status (partial_avoids folder stand.loads) (partial_addresses stand.root)

    -- a configuration, with a status that is not that of an item either
    module _ (no_item : status ≡ statuses.Refused → ⊥) where
      place_avoids : (fault : PlaceFault) (message : List ℕ) → IsPlaceRefusal fault (Refuses status message) → ⊥
      place_avoids (place_faults.PastEnd name end) message p = no_item p.0
      place_avoids place_faults.Memory message p = p

      make_avoids : (tree : List ℕ) (fault : MakeFault) (message : List ℕ) → IsMakeRefusal tree fault (Refuses status message) → ⊥
      make_avoids tree (make_faults.NoPhandle highest) message p = no_item p.0
      make_avoids tree make_faults.Memory message p = p

      made_avoids_in : (tree : List ℕ) (made : Result (List Command) MakeFault) → Avoids status (λ (next : Next (List Command)). OnResult (IsMakeRefusal tree) next made)
      made_avoids_in tree (Ok script) message p = p
      made_avoids_in tree (Err fault) message p = make_avoids tree fault message p

      placed_avoids : (folder : Option Word) (kind : LoadKind) (settings : Settings) (tree : FlatTree) (placed : Result (List FilePlace) PlaceFault)
          → Avoids status (λ (next : Next (List Command)). OnResult IsPlaceRefusal (λ places. OnResult (IsMakeRefusal (host_file folder settings)) next (made_of settings places (facts_of tree.root) kind)) placed)
      placed_avoids folder kind settings tree (Ok places) message p = made_avoids_in (host_file folder settings) (made_of settings places (facts_of tree.root) kind) message p
      placed_avoids folder kind settings tree (Err fault) message p = place_avoids fault message p

      script_avoids : (folder : Option Word) (kind : LoadKind) (settings : Settings) (tree : FlatTree) (sizes : List ℕ) → Avoids status (AfterScript folder kind settings tree sizes)
      script_avoids folder kind settings tree sizes = placed_avoids folder kind settings tree (places_of settings sizes)

      config_avoids : (name : List ℕ) → Avoids status (AfterConfig told name)
      config_avoids name =
          both_avoid (λ bytes. IsReading told name config_limit (Ok bytes)) status (AfterReading told name config_limit) (λ bytes next. OnResult (IsConfigRefusal name) next (config_of bytes))
          (reading_step told name config_limit) (reading_avoids status other told name config_limit) (λ bytes. format_avoids status other _ (config_of bytes))

      module _ (name : List ℕ) (folder : Option Word) (kind : LoadKind) where
        abbrev made_with : Settings → FlatTree → List ℕ → List Command → Made
        made_with settings tree sizes script = record { settings = settings; tree = tree; sizes = sizes; script = script }

        abbrev AfterHostTree : Settings → FlatTree → Next Made → Outcome → Type 0
        AfterHostTree settings tree next outcome = AfterFileSizes told folder settings tree (λ sizes. AfterScript folder kind settings tree sizes (λ script. next (made_with settings tree sizes script))) outcome

        host_tree_avoids : (settings : Settings) (tree : FlatTree) → Avoids status (AfterHostTree settings tree)
        host_tree_avoids settings tree =
            both_avoid (AreFileSizes told folder settings tree) status (AfterFileSizes told folder settings tree) (λ sizes next. AfterScript folder kind settings tree sizes (λ script. next (made_with settings tree sizes script)))
            (file_sizes_step told folder settings tree) (sizes_avoid status other told (map (joined folder) (other_files settings))) (script_avoids folder kind settings tree)

        host_avoids : (settings : Settings) → Avoids status (AfterHost told folder kind settings)
        host_avoids settings =
            both_avoid (HandsOn (AfterTreeFile told (host_file folder settings))) status (AfterTreeFile told (host_file folder settings)) (AfterHostTree settings)
            (tree_step told (host_file folder settings)) (tree_avoids status other told (host_file folder settings)) (host_tree_avoids settings)

        pub made_avoids : Avoids status (AfterMade told name folder kind)
        made_avoids =
            both_avoid (IsConfigFile told name) status (AfterConfig told name) (λ settings. AfterHost told folder kind settings) (config_step told name) (config_avoids name) host_avoids

        pub configured_avoids : (outputs : Option Word) → Avoids status (AfterConfigured told name folder kind outputs)
        configured_avoids outputs =
            both_avoid (IsMade told name folder kind) status (AfterMade told name folder kind) (AfterMadeRun outputs) (made_step told name folder kind) made_avoids (made_run_avoids outputs)

      -- so none of the ways in which a build begins refuses with such a status
      pub source_avoids : (source : Source) (outputs : Option Word) → Avoids status (AfterSource told source outputs)
      source_avoids (Config config folder kind) outputs = configured_avoids config folder kind outputs
      source_avoids (Replay script tree folder) outputs = replay_avoids script tree folder
      source_avoids (Ready tree) outputs = ready_avoids tree
