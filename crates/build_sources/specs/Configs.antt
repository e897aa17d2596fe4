-- A configuration is read, and made into a boot script; what follows is left open.
use Rattle.std.specs.Prelude.{◌≡◌, ℕ, List, [], ◌∷◌, ◌++◌, codes, map, is_some, decimal, Option, Ok}
use Rattle.std.specs.List.{flat_map}
use Rattle.texts.specs.NumberTexts.{hexadecimal}
use Rattle.outside.specs.Outside.{File}
use Rattle.outside.specs.declared.status.Status.TheVariants as statuses
use Rattle.fdt_tree.specs.Tree.{Tree, find_place}
use Rattle.fdt_tree.specs.Phandles.{highest_phandle}
use Rattle.ib_config.specs.FaultTexts.{fault_text}
use Rattle.ib_config.specs.Settings.{config_of}
use Rattle.ib_config.specs.declared.fault.ConfigFault.{ConfigFault}
use Rattle.ib_config.specs.declared.settings.Settings.{Settings}
use Rattle.ib_placement.specs.Placement.{dom0_files, guest_files, places_of}
use Rattle.ib_placement.specs.declared.places.FilePlace.{FilePlace}
use Rattle.ib_placement.specs.declared.places.PlaceFault.{PlaceFault}
use Rattle.ib_placement.specs.declared.places.PlaceFault.TheVariants.{PastEnd}
use Rattle.ib_script.specs.Script.{made_of}
use Rattle.ib_script.specs.declared.command.Command.{Command}
use Rattle.ib_script.specs.declared.make.HostFacts.{HostFacts}
use Rattle.ib_script.specs.declared.make.LoadKind.{LoadKind}
use Rattle.ib_script.specs.declared.make.MakeFault.{MakeFault}
use Rattle.ib_script.specs.declared.make.MakeFault.TheVariants.{NoPhandle}
use Rattle.run_steps.specs.Messages.{file_message}
use Rattle.run_steps.specs.Names.{joined}
use Rattle.run_steps.specs.Endings.{Outcome}
use Rattle.run_steps.specs.Steps.{IsRefusal, OnResult, IsReading, AfterReading, AreSizes, AfterSizes}
use Rattle.tree_files.specs.Trees.{FlatTree, AfterTreeFile, IsTreeFile}

-- the longest configuration that is read, in bytes
abbrev pub config_limit : ℕ
config_limit = 65536

-- the first fault of a configuration is refused
abbrev pub IsConfigRefusal : List ℕ → ConfigFault → Outcome → Type 0
IsConfigRefusal name fault outcome = IsRefusal statuses.Format (file_message name (fault_text fault)) outcome

-- a configuration is read, and its settings are handed on
abbrev pub AfterConfig : Option (List File) → List ℕ → (Settings → Outcome → Type 0) → Outcome → Type 0
AfterConfig told name next outcome = AfterReading told name config_limit (λ bytes. OnResult (IsConfigRefusal name) next (config_of bytes)) outcome

-- what a script needs to know of the host's tree
abbrev pub facts_of : Tree → HostFacts
facts_of root = record { chosen = is_some (find_place root (codes "/chosen")); highest = highest_phandle root }

-- the file of the host's tree, in a folder where one is given
abbrev pub host_file : Option (List ℕ) → Settings → List ℕ
host_file folder settings = joined folder settings.device_tree

-- the files that are placed before the host's tree, which is the last
abbrev pub other_files : Settings → List (List ℕ)
other_files settings = (settings.xen ∷ dom0_files settings) ++ flat_map guest_files settings.guests

-- the first file that ends past the end of memory is refused with that end
abbrev pub IsPlaceRefusal : PlaceFault → Outcome → Type 0
IsPlaceRefusal (PastEnd name end) outcome = IsRefusal statuses.Refused (file_message name (codes "PastEnd " ++ hexadecimal end)) outcome
IsPlaceRefusal fault outcome = ⊥

-- a tree that leaves no phandle is refused with its highest
abbrev pub IsMakeRefusal : List ℕ → MakeFault → Outcome → Type 0
IsMakeRefusal tree (NoPhandle highest) outcome = IsRefusal statuses.Refused (file_message tree (codes "NoPhandle " ++ decimal highest)) outcome
IsMakeRefusal tree fault outcome = ⊥

-- what is made of a configuration: its settings, the host's tree, the sizes of its files in the order of placement, in bytes, and its script
pub record Made : Type 0 where
  pub settings : Settings
  pub tree : FlatTree
  pub sizes : List ℕ
  pub script : List Command

-- the files of these sizes are placed, and the script is made and handed on
abbrev pub AfterScript : Option (List ℕ) → LoadKind → Settings → FlatTree → List ℕ → (List Command → Outcome → Type 0) → Outcome → Type 0
AfterScript folder kind settings tree sizes next outcome =
    OnResult IsPlaceRefusal
    (λ places. OnResult (IsMakeRefusal (host_file folder settings)) next (made_of settings places (facts_of tree.root) kind))
    (places_of settings sizes) outcome

-- every file but the host's tree is measured, whose size is known, and the sizes of all are handed on
abbrev pub AfterFileSizes : Option (List File) → Option (List ℕ) → Settings → FlatTree → (List ℕ → Outcome → Type 0) → Outcome → Type 0
AfterFileSizes told folder settings tree next outcome =
    AfterSizes told (map (joined folder) (other_files settings)) (λ others. next (others ++ tree.length ∷ [])) outcome

-- the host's tree is read, the other files are measured, the script is made, and all that is handed on
abbrev pub AfterHost : Option (List File) → Option (List ℕ) → LoadKind → Settings → (Made → Outcome → Type 0) → Outcome → Type 0
AfterHost told folder kind settings next outcome =
    AfterTreeFile told (host_file folder settings)
    (λ tree. AfterFileSizes told folder settings tree
    (λ sizes. AfterScript folder kind settings tree sizes
    (λ script. next (record { settings = settings; tree = tree; sizes = sizes; script = script })))) outcome

-- a configuration is read and made into a script, and what is made of it is handed on
abbrev pub AfterMade : Option (List File) → List ℕ → Option (List ℕ) → LoadKind → (Made → Outcome → Type 0) → Outcome → Type 0
AfterMade told config folder kind next outcome = AfterConfig told config (λ settings. AfterHost told folder kind settings next) outcome

-- a configuration of this name is read, by what the files hold where that is told, and it has these settings
pub record IsConfigFile (told : Option (List File)) (name : List ℕ) (settings : Settings) : Type 0 where
  pub file : List ℕ
  pub read : IsReading told name config_limit (Ok file)
  pub configured : config_of file ≡ Ok settings

-- The settings, the host's tree and the sizes are those of the files, the files of these sizes have places, and with them the script is that of the configuration.
pub record IsMade (told : Option (List File)) (config : List ℕ) (folder : Option (List ℕ)) (kind : LoadKind) (made : Made) : Type 0 where
  pub settings : IsConfigFile told config made.settings
  pub tree : IsTreeFile told (host_file folder made.settings) made.tree
  pub others : List ℕ
  pub measured : AreSizes told (map (joined folder) (other_files made.settings)) others
  pub sizes : made.sizes ≡ others ++ made.tree.length ∷ []
  pub places : List FilePlace
  pub placed : places_of made.settings made.sizes ≡ Ok places
  pub script : made_of made.settings places (facts_of made.tree.root) kind ≡ Ok made.script
