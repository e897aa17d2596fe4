-- Laws of the scripts that are written for a configuration: they are read back, have names that a tree takes, and make the edited tree.
use Rattle.std.specs.Prelude.{◌≡◌, ℕ, ◌+◌, Bool, true, false, List, map, Ok, Err, codes, bytes_eq, is_some, if◌then◌else◌, ◌&&◌, MatchOption}
use Rattle.std.specs.List.{position_or_len, list_all}
use Rattle.fdt_tree.specs.Tree.{Trees, none, tree, Tree, find_place}
use Rattle.fdt_tree.specs.PathEdits.{has_named}
use Rattle.ib_config.specs.declared.settings.Settings.{Settings}
use Rattle.ib_config.specs.Settings.{IsConfig}
use Rattle.ib_placement.specs.declared.places.FilePlace.{FilePlace}
use Rattle.ib_placement.specs.Placement.{files_of, is_wide}
use Rattle.ib_script.specs.declared.command.Command.{Command}
use Rattle.ib_script.specs.declared.command.Command.TheVariants.{Mknod}
use Rattle.ib_script.specs.declared.make.HostFacts.{HostFacts}
use Rattle.ib_script.specs.declared.make.LoadKind.{LoadKind}
use Rattle.ib_script.specs.Script.{made_of}
use Rattle.ib_script.specs.Text.{text_of}
use Rattle.script_run.specs.Reading.{commands_of}
use Rattle.script_run.specs.Effect.{tree_effect, has_good_names}
use Rattle.script_run.specs.Edited.{edited_of}
use Rattle.script_run.specs.declared.machine.StepWhy.TheVariants.{Exists}
use Rattle.script_run.specs.declared.machine.StepFault.TheVariants.{Step}

-- the script of settings that some file says, whose files are placed in their order
pub record IsScript (script : List Command) (s : Settings) (places : List FilePlace) (facts : HostFacts) (kind : LoadKind) : Type 0 where
  pub settings : IsConfig s
  pub placed : map (λ (p : FilePlace). p.name) places ≡ files_of s
  pub wide : list_all is_wide places ≡ true
  pub made : made_of s places facts kind ≡ Ok script

-- A printed script is read back as it was.
abbrev pub ReadsBack : Type 0
ReadsBack = (s : Settings) (places : List FilePlace) (facts : HostFacts) (kind : LoadKind) (script : List Command)
    → IsScript script s places facts kind → commands_of (text_of script) ≡ Ok script

-- The names in a script are such as a tree takes, which running it asks.
abbrev pub NamesAreTaken : Type 0
NamesAreTaken = (s : Settings) (places : List FilePlace) (facts : HostFacts) (kind : LoadKind) (script : List Command) → IsScript script s places facts kind → has_good_names script ≡ true

-- whether the first `chosen` of the trees has a child of this name
abbrev pub chosen_has : Trees → List ℕ → Bool
chosen_has none name = false
chosen_has (tree n ps cs rest) name = if bytes_eq n (codes "chosen") then has_named name cs else chosen_has rest name

-- whether a command adds to /chosen a child of one of some names
abbrev pub adds_to_chosen : (List ℕ → Bool) → Command → Bool
adds_to_chosen names (Mknod path name) = bytes_eq path (codes "/chosen") && names name
adds_to_chosen names _ = false

-- whether a command adds to /chosen a child of a name that it has in a tree
abbrev pub adds_present : Tree → Command → Bool
adds_present t = adds_to_chosen (chosen_has t.children)

-- whether the facts of a host say rightly that its tree has /chosen
abbrev pub KnowsChosen : HostFacts → Tree → Type 0
KnowsChosen facts t = facts.chosen ≡ is_some (find_place t (codes "/chosen"))

-- The script does what the edited tree says; and where that is not defined, it stops at the first command that adds a child which is there.
abbrev pub ScriptEdits : Type 0
ScriptEdits = (s : Settings) (places : List FilePlace) (facts : HostFacts) (kind : LoadKind) (script : List Command) (t : Tree)
    → IsScript script s places facts kind → KnowsChosen facts t
    → MatchOption (edited_of s places facts t)
    (tree_effect script t ≡ Err (Step (position_or_len (adds_present t) script + 1) Exists))
    (λ u. tree_effect script t ≡ Ok u)
