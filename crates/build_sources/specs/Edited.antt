-- Of a configuration, the tree that a build stands on is the edited tree, and what the printed script makes of the host's tree.
use Rattle.std.specs.Prelude.{◌≡◌, ⊤, List, [], ◌∷◌, Option, Some, Ok}
use Rattle.outside.specs.Outside.{File}
use Rattle.ib_script.specs.Text.{text_of}
use Rattle.ib_script.specs.declared.make.LoadKind.{LoadKind}
use Rattle.script_run.specs.Edited.{edited_of}
use Rattle.script_run.specs.Effect.{tree_effect}
use Rattle.script_run.specs.Reading.{commands_of}
use Rattle.dom0less_words.specs.Words.{Word, Source, Config, Replay, Ready}
use Rattle.build_sources.specs.Configs.{Made, IsMade, facts_of}
use Rattle.build_sources.specs.Scripts.{script_file}
use Rattle.build_sources.specs.Sources.{Stand}

-- What is made of the configuration gives the edited tree; its script is printed, is read back as it was, and has that tree as its effect.
pub record StandsOnEdited (told : Option (List File)) (config : Word) (folder : Option Word) (kind : LoadKind) (outputs : Option Word) (stand : Stand) : Type 0 where
  pub made : Made
  pub is_made : IsMade told config folder kind made
  pub edited : edited_of made.settings is_made.places (facts_of made.tree.root) made.tree.root ≡ Some stand.root
  pub printed : stand.before ≡ script_file outputs made ∷ []
  pub read_back : commands_of (text_of made.script) ≡ Ok made.script
  pub effect : tree_effect made.script made.tree.root ≡ Ok stand.root

-- a build that begins with a configuration stands on that
abbrev pub HasEditedTree : Option (List File) → Source → Option Word → Stand → Type 0
HasEditedTree told (Config config folder kind) outputs stand = StandsOnEdited told config folder kind outputs stand
HasEditedTree told (Replay script tree folder) outputs stand = ⊤
HasEditedTree told (Ready tree) outputs stand = ⊤
