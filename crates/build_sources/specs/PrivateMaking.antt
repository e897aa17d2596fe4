-- Only private contracts and proofs use this file: the two halves of making a configuration into a script. First it is read with its host's tree; then its other files are measured, and its script is made.
use Rattle.std.specs.Prelude.{◌≡◌, ℕ, List, [], ◌∷◌, ◌++◌, map, Option, Ok}
use Rattle.outside.specs.Outside.{File}
use Rattle.ib_config.specs.declared.settings.Settings.{Settings}
use Rattle.ib_placement.specs.Placement.{places_of}
use Rattle.ib_placement.specs.declared.places.FilePlace.{FilePlace}
use Rattle.ib_script.specs.Script.{made_of}
use Rattle.ib_script.specs.declared.command.Command.{Command}
use Rattle.ib_script.specs.declared.make.LoadKind.{LoadKind}
use Rattle.run_steps.specs.Names.{joined}
use Rattle.run_steps.specs.Endings.{Outcome}
use Rattle.run_steps.specs.Steps.{AreSizes}
use Rattle.tree_files.specs.Trees.{FlatTree, AfterTreeFile, IsTreeFile, flat_tree}
use Rattle.build_sources.specs.Configs.{AfterConfig, AfterFileSizes, AfterScript, IsConfigFile, facts_of, host_file, other_files}
use Rattle.build_sources.specs.declared.configuration.Setup as read
use Rattle.build_sources.specs.declared.configuration.Scripted as written

-- a configuration and its host's tree
pub record Setup : Type 0 where
  pub settings : Settings
  pub tree : FlatTree

-- what is made of them: the sizes of all files in the order of placement, in bytes, and the script
pub record Scripted : Type 0 where
  pub sizes : List ℕ
  pub script : List Command

-- what the types of the code say
abbrev pub meant_setup : read.Setup → Setup
meant_setup setup = record { settings = setup.config; tree = flat_tree setup.tree }

abbrev pub meant_scripted : written.Scripted → Scripted
meant_scripted scripted = record { sizes = scripted.sizes.items; script = scripted.script }

-- a configuration is read, and then its host's tree
abbrev pub AfterSetup : Option (List File) → List ℕ → Option (List ℕ) → (Setup → Outcome → Type 0) → Outcome → Type 0
AfterSetup told config folder next outcome =
    AfterConfig told config
    (λ settings. AfterTreeFile told (host_file folder settings)
    (λ tree. next (record { settings = settings; tree = tree }))) outcome

-- the other files are measured, and the script is made
abbrev pub AfterScripted : Option (List File) → Option (List ℕ) → LoadKind → Setup → (Scripted → Outcome → Type 0) → Outcome → Type 0
AfterScripted told folder kind setup next outcome =
    AfterFileSizes told folder setup.settings setup.tree
    (λ sizes. AfterScript folder kind setup.settings setup.tree sizes
    (λ script. next (record { sizes = sizes; script = script }))) outcome

-- the settings and the host's tree are those of the files
pub record IsSetup (told : Option (List File)) (config : List ℕ) (folder : Option (List ℕ)) (setup : Setup) : Type 0 where
  pub settings : IsConfigFile told config setup.settings
  pub tree : IsTreeFile told (host_file folder setup.settings) setup.tree

-- the sizes are those of the files, which have places, and with these the script is that of the configuration
pub record IsScripted (told : Option (List File)) (folder : Option (List ℕ)) (kind : LoadKind) (setup : Setup) (scripted : Scripted) : Type 0 where
  pub others : List ℕ
  pub measured : AreSizes told (map (joined folder) (other_files setup.settings)) others
  pub sizes : scripted.sizes ≡ others ++ setup.tree.length ∷ []
  pub places : List FilePlace
  pub placed : places_of setup.settings scripted.sizes ≡ Ok places
  pub script : made_of setup.settings places (facts_of setup.tree.root) kind ≡ Ok scripted.script
