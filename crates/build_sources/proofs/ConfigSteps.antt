-- Reading a configuration, and what is made of it, are steps.
use Rattle.std.proofs.Common.{◌≡◌, ◌∙◌, ◌+◌, ◌-◌, sym, ap, subst, refl, arith, ℕ, List, [], ◌∷◌, ◌++◌, length, take, map}
use Rattle.std.specs.Prelude.{Option, Some, Ok}
use Rattle.std.proofs.Math.Seq.{take-append_seam}
use Rattle.std.proofs.lemmas.List.{length-append, length-map}
use Rattle.outside.specs.Outside.{File}
use Rattle.ib_config.specs.Settings.{config_of}
use Rattle.ib_config.specs.declared.settings.Settings.{Settings}
use Rattle.ib_placement.specs.Placement.{files_of, places_of}
use Rattle.ib_placement.specs.declared.places.FilePlace.{FilePlace}
use Rattle.ib_placement.specs.declared.places.PlaceFault.{PlaceFault}
use Rattle.ib_placement.specs.declared.places.PlaceFault.TheVariants as place_faults
use Rattle.ib_script.specs.Script.{made_of}
use Rattle.ib_script.specs.declared.command.Command.{Command}
use Rattle.ib_script.specs.declared.make.LoadKind.{LoadKind}
use Rattle.ib_script.specs.declared.make.MakeFault.{MakeFault}
use Rattle.ib_script.specs.declared.make.MakeFault.TheVariants as make_faults
use Rattle.run_steps.specs.Names.{joined}
use Rattle.outside.specs.declared.status.Status.{Status}
use Rattle.run_steps.specs.Endings.{Outcome, Builds, Finds}
use Rattle.run_steps.specs.Steps.{IsSize, IsReading, OnResult, AfterReading, AreSizes, AfterSizes, nothing}
use Rattle.tree_files.specs.Trees.{FlatTree, AfterTreeFile, IsTreeFile}
use Rattle.run_steps.proofs.Step.{Next, IsStep, and_then, said_as, hand_on, hand_on_step, on_result_step, as_many}
use Rattle.run_steps.proofs.ReadingSteps.{reading_step, sizes_step}
use Rattle.tree_files.proofs.TreeSteps.{tree_file_step}
use Rattle.build_sources.specs.Configs.{IsConfigFile, IsMade, config_limit, IsConfigRefusal, IsPlaceRefusal, IsMakeRefusal, AfterConfig, AfterFileSizes, AfterScript, AfterMade, Made, facts_of, host_file, other_files}
use Rattle.build_sources.specs.PrivateMaking.{Setup, Scripted, AfterSetup, AfterScripted, IsSetup, IsScripted}

-- the host's tree is placed after all others
pub all_files : (settings : Settings) → files_of settings ≡ other_files settings ++ settings.device_tree ∷ []
unfolding files_of
all_files settings = refl

-- without the last, these are the others
pub others_left : (settings : Settings) (names : List (List ℕ)) (count : ℕ) → names ≡ files_of settings → count ≡ length names → take (count - 1) names ≡ other_files settings
others_left settings names count is e =
    let counted : length names ≡ length (other_files settings) + 1 =
    ap length (is ∙ all_files settings) ∙ length-append (other_files settings) (settings.device_tree ∷ []) in
    let others : count - 1 ≡ length (other_files settings) = omega (arith, e, counted) in
    ap (λ (n : ℕ). take n names) others ∙ ap (take (length (other_files settings))) (is ∙ all_files settings) ∙ take-append_seam (other_files settings) (settings.device_tree ∷ [])

-- so there is one file more than those that are measured
pub one_more_file : (settings : Settings) (sizes : List ℕ) (tree : ℕ) → length sizes ≡ length (other_files settings) → length (sizes ++ tree ∷ []) ≡ length (files_of settings)
one_more_file settings sizes tree e =
    length-append sizes (tree ∷ []) ∙ ap (λ (n : ℕ). n + 1) e ∙ sym (length-append (other_files settings) (settings.device_tree ∷ [])) ∙ ap length (sym (all_files settings))

-- the sizes of all files of a configuration, of which that of the host's tree is known
abbrev pub AreFileSizes : Option (List File) → Option (List ℕ) → Settings → FlatTree → List ℕ → Type 0
AreFileSizes told folder settings tree sizes =
    (others : List ℕ) × AreSizes told (map (joined folder) (other_files settings)) others × (sizes ≡ others ++ tree.length ∷ [])

-- there are as many as there are files to place
pub as_many_sizes : (told : Option (List File)) (folder : Option (List ℕ)) (settings : Settings) (tree : FlatTree) (sizes : List ℕ) → AreFileSizes told folder settings tree sizes
    → length sizes ≡ length (files_of settings)
as_many_sizes told folder settings tree sizes are =
    ap length are.2
    ∙ one_more_file settings are.0 tree.length
    (as_many (λ name size. IsSize told name (Some size)) (map (joined folder) (other_files settings)) are.0 are.1 ∙ length-map (other_files settings) (joined folder))

-- the script of files that have places with these sizes
abbrev pub IsScriptOf : Settings → FlatTree → LoadKind → List ℕ → List Command → Type 0
IsScriptOf settings tree kind sizes script =
    (places : List FilePlace) × (places_of settings sizes ≡ Ok places) × (made_of settings places (facts_of tree.root) kind ≡ Ok script)

place_never : (fault : PlaceFault) (outputs : List File) (report : List ℕ) → IsPlaceRefusal fault (Builds outputs report) → ⊥
place_never (place_faults.PastEnd name end) outputs report p = p
place_never place_faults.Memory outputs report p = p

make_never : (tree : List ℕ) (fault : MakeFault) (outputs : List File) (report : List ℕ) → IsMakeRefusal tree fault (Builds outputs report) → ⊥
make_never tree (make_faults.NoPhandle highest) outputs report p = p
make_never tree make_faults.Memory outputs report p = p

place_finds_none : (fault : PlaceFault) (status : Status) (list : List ℕ) → IsPlaceRefusal fault (Finds status list) → ⊥
place_finds_none (place_faults.PastEnd name end) status list p = p
place_finds_none place_faults.Memory status list p = p

make_finds_none : (tree : List ℕ) (fault : MakeFault) (status : Status) (list : List ℕ) → IsMakeRefusal tree fault (Finds status list) → ⊥
make_finds_none tree (make_faults.NoPhandle highest) status list p = p
make_finds_none tree make_faults.Memory status list p = p

pub script_step : (folder : Option (List ℕ)) (kind : LoadKind) (settings : Settings) (tree : FlatTree) (sizes : List ℕ)
    → IsStep (IsScriptOf settings tree kind sizes) (AfterScript folder kind settings tree sizes)
script_step folder kind settings tree sizes =
    and_then (λ places. places_of settings sizes ≡ Ok places) (λ places script. made_of settings places (facts_of tree.root) kind ≡ Ok script)
    (λ next. OnResult IsPlaceRefusal next (places_of settings sizes)) (λ places next. OnResult (IsMakeRefusal (host_file folder settings)) next (made_of settings places (facts_of tree.root) kind))
    (on_result_step IsPlaceRefusal place_never place_finds_none (places_of settings sizes))
    (λ places. on_result_step (IsMakeRefusal (host_file folder settings)) (make_never (host_file folder settings)) (make_finds_none (host_file folder settings)) (made_of settings places (facts_of tree.root) kind))

module _ (told : Option (List File)) where
  pub config_step : (name : List ℕ) → IsStep (IsConfigFile told name) (AfterConfig told name)
  config_step name =
      said_as (λ settings. (bytes : List ℕ) × IsReading told name config_limit (Ok bytes) × (config_of bytes ≡ Ok settings)) (IsConfigFile told name) (AfterConfig told name)
      (and_then (λ bytes. IsReading told name config_limit (Ok bytes)) (λ bytes settings. config_of bytes ≡ Ok settings)
      (AfterReading told name config_limit) (λ bytes next. OnResult (IsConfigRefusal name) next (config_of bytes))
      (reading_step told name config_limit) (λ bytes. on_result_step (IsConfigRefusal name) (λ fault outputs report p. p) (λ fault status list p. p) (config_of bytes)))
      (λ settings given. record { file = given.0; read = given.1; configured = given.2 })
      (λ settings is. (is.file, is.read, is.configured))

  pub file_sizes_step : (folder : Option (List ℕ)) (settings : Settings) (tree : FlatTree) → IsStep (AreFileSizes told folder settings tree) (AfterFileSizes told folder settings tree)
  file_sizes_step folder settings tree =
      and_then (AreSizes told (map (joined folder) (other_files settings))) (λ others sizes. sizes ≡ others ++ tree.length ∷ [])
      (AfterSizes told (map (joined folder) (other_files settings))) (λ others. hand_on (others ++ tree.length ∷ []))
      (sizes_step told (map (joined folder) (other_files settings))) (λ others. hand_on_step (others ++ tree.length ∷ []))

  -- a configuration and its host's tree are read
  module _ (name : List ℕ) (folder : Option (List ℕ)) where
    abbrev setup_with : Settings → FlatTree → Setup
    setup_with settings tree = record { settings = settings; tree = tree }

    abbrev AfterItsHost : Settings → Next Setup → Outcome → Type 0
    AfterItsHost settings next outcome = AfterTreeFile told (host_file folder settings) (λ tree. next (setup_with settings tree)) outcome

    abbrev FoundHost : Settings → Setup → Type 0
    FoundHost settings setup = (tree : FlatTree) × IsTreeFile told (host_file folder settings) tree × (setup ≡ setup_with settings tree)

    host_step : (settings : Settings) → IsStep (FoundHost settings) (AfterItsHost settings)
    host_step settings =
        and_then (IsTreeFile told (host_file folder settings)) (λ tree setup. setup ≡ setup_with settings tree) (AfterTreeFile told (host_file folder settings)) (λ tree. hand_on (setup_with settings tree))
        (tree_file_step told (host_file folder settings)) (λ tree. hand_on_step (setup_with settings tree))

    pub setup_step : IsStep (IsSetup told name folder) (AfterSetup told name folder)
    setup_step =
        said_as (λ setup. (settings : Settings) × IsConfigFile told name settings × FoundHost settings setup) (IsSetup told name folder) (AfterSetup told name folder)
        (and_then (IsConfigFile told name) FoundHost (AfterConfig told name) AfterItsHost (config_step name) host_step)
        (λ setup given. subst (IsSetup told name folder) (sym given.2.2) (record { settings = given.1; tree = given.2.1 }))
        (λ setup is. (setup.settings, is.settings, (setup.tree, is.tree, refl)))

    module _ (outcome : Outcome) where
      pub refused_config : AfterConfig told name nothing outcome → AfterSetup told name folder nothing outcome
      refused_config refused = (config_step name).stays (λ settings. AfterItsHost settings nothing) outcome refused

      pub refused_tree : (settings : Settings) → IsConfigFile told name settings → AfterTreeFile told (host_file folder settings) nothing outcome → AfterSetup told name folder nothing outcome
      refused_tree settings configured refused = (config_step name).gives settings configured (λ settings. AfterItsHost settings nothing) outcome refused

  -- the other files are measured, and the script is made
  module _ (folder : Option (List ℕ)) (kind : LoadKind) (setup : Setup) where
    abbrev scripted_with : List ℕ → List Command → Scripted
    scripted_with sizes script = record { sizes = sizes; script = script }

    abbrev AfterItsScript : List ℕ → Next Scripted → Outcome → Type 0
    AfterItsScript sizes next outcome = AfterScript folder kind setup.settings setup.tree sizes (λ script. next (scripted_with sizes script)) outcome

    abbrev FoundScript : List ℕ → Scripted → Type 0
    FoundScript sizes scripted = (script : List Command) × IsScriptOf setup.settings setup.tree kind sizes script × (scripted ≡ scripted_with sizes script)

    with_script_step : (sizes : List ℕ) → IsStep (FoundScript sizes) (AfterItsScript sizes)
    with_script_step sizes =
        and_then (IsScriptOf setup.settings setup.tree kind sizes) (λ script scripted. scripted ≡ scripted_with sizes script)
        (AfterScript folder kind setup.settings setup.tree sizes) (λ script. hand_on (scripted_with sizes script))
        (script_step folder kind setup.settings setup.tree sizes) (λ script. hand_on_step (scripted_with sizes script))

    pub scripted_step : IsStep (IsScripted told folder kind setup) (AfterScripted told folder kind setup)
    scripted_step =
        said_as (λ scripted. (sizes : List ℕ) × AreFileSizes told folder setup.settings setup.tree sizes × FoundScript sizes scripted) (IsScripted told folder kind setup) (AfterScripted told folder kind setup)
        (and_then (AreFileSizes told folder setup.settings setup.tree) FoundScript (AfterFileSizes told folder setup.settings setup.tree) AfterItsScript (file_sizes_step folder setup.settings setup.tree) with_script_step)
        (λ scripted given.
        subst (IsScripted told folder kind setup) (sym given.2.2)
        (record { others = given.1.0; measured = given.1.1; sizes = given.1.2; places = given.2.1.0; placed = given.2.1.1; script = given.2.1.2 }))
        (λ scripted is. (scripted.sizes, (is.others, is.measured, is.sizes), (scripted.script, (is.places, is.placed, is.script), refl)))

    module _ (outcome : Outcome) where
      pub refused_sizes : AfterFileSizes told folder setup.settings setup.tree nothing outcome → AfterScripted told folder kind setup nothing outcome
      refused_sizes refused = (file_sizes_step folder setup.settings setup.tree).stays (λ sizes. AfterItsScript sizes nothing) outcome refused

      pub refused_script : (sizes : List ℕ) → AreFileSizes told folder setup.settings setup.tree sizes → AfterScript folder kind setup.settings setup.tree sizes nothing outcome → AfterScripted told folder kind setup nothing outcome
      refused_script sizes measured refused = (file_sizes_step folder setup.settings setup.tree).gives sizes measured (λ sizes. AfterItsScript sizes nothing) outcome refused

  -- both together make a configuration into a script
  module _ (name : List ℕ) (folder : Option (List ℕ)) (kind : LoadKind) where
    abbrev made_with : Setup → Scripted → Made
    made_with setup scripted = record { settings = setup.settings; tree = setup.tree; sizes = scripted.sizes; script = scripted.script }

    abbrev AfterRest : Setup → Next Made → Outcome → Type 0
    AfterRest setup next outcome = AfterScripted told folder kind setup (λ scripted. next (made_with setup scripted)) outcome

    abbrev FoundRest : Setup → Made → Type 0
    FoundRest setup made = (scripted : Scripted) × IsScripted told folder kind setup scripted × (made ≡ made_with setup scripted)

    rest_step : (setup : Setup) → IsStep (FoundRest setup) (AfterRest setup)
    rest_step setup =
        and_then (IsScripted told folder kind setup) (λ scripted made. made ≡ made_with setup scripted) (AfterScripted told folder kind setup) (λ scripted. hand_on (made_with setup scripted))
        (scripted_step folder kind setup) (λ scripted. hand_on_step (made_with setup scripted))

    pub made_of_both : (setup : Setup) (scripted : Scripted) → IsSetup told name folder setup → IsScripted told folder kind setup scripted → IsMade told name folder kind (made_with setup scripted)
    made_of_both setup scripted is made = record {
      settings = is.settings;
      tree = is.tree;
      others = made.others;
      measured = made.measured;
      sizes = made.sizes;
      places = made.places;
      placed = made.placed;
      script = made.script;
    }

    pub made_step : IsStep (IsMade told name folder kind) (AfterMade told name folder kind)
    made_step =
        said_as (λ made. (setup : Setup) × IsSetup told name folder setup × FoundRest setup made) (IsMade told name folder kind) (AfterMade told name folder kind)
        (and_then (IsSetup told name folder) FoundRest (AfterSetup told name folder) AfterRest (setup_step name folder) rest_step)
        (λ made given. subst (IsMade told name folder kind) (sym given.2.2) (made_of_both given.0 given.2.0 given.1 given.2.1))
        (λ made is. (
          setup_with name folder made.settings made.tree,
          record { settings = is.settings; tree = is.tree },
          (
            scripted_with folder kind (setup_with name folder made.settings made.tree) made.sizes made.script,
            record { others = is.others; measured = is.measured; sizes = is.sizes; places = is.places; placed = is.placed; script = is.script },
            refl,
          ),
        ))

    module _ (outcome : Outcome) where
      pub refused_setup : AfterSetup told name folder nothing outcome → AfterMade told name folder kind nothing outcome
      refused_setup refused = (setup_step name folder).stays (λ setup. AfterRest setup nothing) outcome refused

      pub refused_rest : (setup : Setup) → IsSetup told name folder setup → AfterScripted told folder kind setup nothing outcome → AfterMade told name folder kind nothing outcome
      refused_rest setup is refused = (setup_step name folder).gives setup is (λ setup. AfterRest setup nothing) outcome refused
