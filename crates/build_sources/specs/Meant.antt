-- What the types of the code say, in the words of the definitions.
use Rattle.std.specs.Prelude.{map}
use Rattle.run_steps.specs.Outputs.{file_of}
use Rattle.tree_files.specs.Trees.{flat_tree}
use Rattle.build_sources.specs.Configs as configs
use Rattle.build_sources.specs.Sources as sources
use Rattle.build_sources.specs.declared.configuration.Made.{Made}
use Rattle.build_sources.specs.declared.stand.Stand.{Stand}

-- what is made of a configuration
abbrev pub meant_made : Made → configs.Made
meant_made made = record { settings = made.config; tree = flat_tree made.tree; sizes = made.sizes.items; script = made.script }

-- what a build stands on
abbrev pub meant_stand : Stand → sources.Stand
meant_stand stand = record {
  root = stand.tree.tree;
  reserves = stand.reserves;
  boot = stand.boot;
  loads = stand.loads;
  before = map file_of stand.before;
  lines = stand.lines;
}
