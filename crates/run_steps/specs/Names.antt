-- Names of files in folders.
use Rattle.std.specs.Prelude.{ℕ, List, ◌++◌, codes, Option, Some, None}

-- a name in a folder, where one is given
abbrev pub joined : Option (List ℕ) → List ℕ → List ℕ
joined None name = name
joined (Some folder) name = folder ++ codes "/" ++ name
