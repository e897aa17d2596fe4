-- Only private contracts and proofs use this file: what reading and applying overlays gives.
use Rattle.std.specs.Prelude.{◌≡◌, ℕ, List, [], ◌∷◌, Option, Ok}
use Rattle.outside.specs.Outside.{File}
use Rattle.fdt_tree.specs.Tree.{Tree}
use Rattle.fdt_read.specs.declared.flat.Flat.{Flat}
use Rattle.tree_files.specs.Trees.{FlatTree, IsTreeFile}
use Rattle.overlaid_trees.specs.Applied.{applied}
use Rattle.fdt_overlay.specs.Asked.{Asked}
use Rattle.fdt_overlay.specs.Overlays.{Overlaid, made_of}

-- a tree was made of a base by the overlay of a file
abbrev pub IsApplied : Option (List File) → List ℕ → Tree → Tree → Type 0
IsApplied told name base made = (overlay : FlatTree) × IsTreeFile told name overlay × (applied base overlay.root ≡ Ok made)

-- a tree was made of a base by the overlays of files, one after the other
abbrev pub AreApplied : Option (List File) → List (List ℕ) → Tree → Tree → Type 0
AreApplied told [] base made = made ≡ base
AreApplied told (name ∷ names) base made = (next : Tree) × IsApplied told name base next × AreApplied told names next made

-- what was made, as the code keeps it
abbrev pub kept_made : Flat → Overlaid
kept_made flat = record { reserves = flat.reserves; boot = flat.boot; root = flat.tree.tree }

-- the base and the overlays were read, and this was made of them
abbrev pub IsFound : Option (List File) → Asked → Overlaid → Type 0
IsFound told asked made =
    (base : FlatTree) × IsTreeFile told asked.base base × ((root : Tree) × AreApplied told asked.overlays base.root root × (made ≡ made_of base root))
