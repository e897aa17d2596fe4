-- What the words of a filter ask for.
use Rattle.std.specs.Prelude.{ℕ, List, [], ◌∷◌, Option, Some, None, codes}

-- the name of the file that is read, the program's name first: [FILE], and standard input, which is `-`, where there is none
unfoldable pub asked_file : List (List ℕ) → Option (List ℕ)
asked_file (program ∷ []) = Some (codes "-")
asked_file (program ∷ file ∷ []) = Some file
asked_file _ = None
