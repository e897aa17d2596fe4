-- What is written of a configuration's boot script.
use Rattle.std.specs.Prelude.{ℕ, List, codes, ◌++◌, Option}
use Rattle.std.specs.List.{flat_map}
use Rattle.outside.specs.Outside.{File}
use Rattle.ib_script.specs.Text.{text_of}
use Rattle.run_steps.specs.Names.{joined}
use Rattle.build_sources.specs.Configs.{Made}

-- the name of its file, without a folder
abbrev pub script_name : List ℕ
script_name = codes "boot.source"

-- its file, in a folder where one is given
abbrev pub script_file : Option (List ℕ) → Made → File
script_file folder made = (joined folder script_name, text_of made.script)

-- the names of a configuration that have no effect, a line each on `out`
abbrev pub unused_lines : List (List ℕ) → List ℕ
unused_lines names = flat_map (λ name. codes "unused " ++ (name ++ codes "\n")) names
