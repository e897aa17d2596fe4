-- What the words of the command line ask for.
use Rattle.std.specs.Prelude.{ℕ, List, [], ◌∷◌, Option, Some, None}

-- the names of the files: the guest's tree, its kernel, the tree that is written, and the ramdisk, where there is one
pub record Asked : Type 0 where
  pub tree : List ℕ
  pub kernel : List ℕ
  pub out : List ℕ
  pub ramdisk : Option (List ℕ)

-- what the words ask for, the program's name first: TREE KERNEL OUT, and RAMDISK where there is one
unfoldable pub asked : List (List ℕ) → Option Asked
asked (program ∷ tree ∷ kernel ∷ out ∷ []) = Some (record { tree = tree; kernel = kernel; out = out; ramdisk = None })
asked (program ∷ tree ∷ kernel ∷ out ∷ ramdisk ∷ []) =
    Some (record { tree = tree; kernel = kernel; out = out; ramdisk = Some ramdisk })
asked _ = None
