-- What the words of the command line ask for.
use Rattle.std.specs.Prelude.{ℕ, List, [], ◌∷◌, Option, Some, None, if◌then◌else◌, bytes_eq, codes}

-- the tree of this name is printed; or the text of the first name is read, and its tree is written under the second
pub data Asked : Type 0 where
  Print : List ℕ → Asked
  Build : List ℕ → List ℕ → Asked

-- what the words ask for, the program's name first: print TREE, or build TEXT OUT
unfoldable pub asked : List (List ℕ) → Option Asked
asked (program ∷ word ∷ tree ∷ []) = if bytes_eq word (codes "print") then Some (Print tree) else None
asked (program ∷ word ∷ text ∷ out ∷ []) = if bytes_eq word (codes "build") then Some (Build text out) else None
asked _ = None
