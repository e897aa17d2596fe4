-- What a run says on `err`: messages, each on one line behind the program's name.
use Rattle.std.specs.Prelude.{ℕ, List, ◌++◌, codes, decimal}
use Rattle.run_steps.specs.Messages.{file_message}

-- the program's name
abbrev pub program_name : List ℕ
program_name = codes "fdt_source"

-- the tree of this name has a node, at this path, that cannot be printed
abbrev pub bad_name_message : List ℕ → List ℕ → List ℕ
bad_name_message name path = file_message name (codes "BadName " ++ path)

-- the text of this name departs from every source at this offset
abbrev pub syntax_message : List ℕ → ℕ → List ℕ
syntax_message name offset = file_message name (codes "Syntax at " ++ decimal offset)
