-- Nodes and their properties, as commands that make them.
use Rattle.std.specs.Prelude.{ℕ, ◌/◌, ◌%◌, ◌^◌, Bool, List, [], ◌∷◌, ◌++◌, Option, if◌then◌else◌, codes, decimal}
use Rattle.std.specs.List.{slice_index_or}
use Rattle.std.specs.Option.{option_map_or}
use Rattle.ib_placement.specs.declared.places.FilePlace.{FilePlace}
use Rattle.ib_script.specs.declared.command.Command.{Command}
use Rattle.ib_script.specs.declared.command.Command.TheVariants.{Mknod, Set}
use Rattle.ib_script.specs.declared.command.Piece.{Piece}
use Rattle.ib_script.specs.declared.command.Piece.TheVariants.{Cells, Word}

-- a 64-bit number as two cells, the high one first (Devicetree Specification 2.3.6)
abbrev pub two_cells : ℕ → List ℕ
two_cells number = number / 2 ^ 32 ∷ number % 2 ^ 32 ∷ []

-- a value of cells
abbrev pub cells : List ℕ → List Piece
cells numbers = Cells numbers ∷ []

-- a value of one text
abbrev pub word : List ℕ → List Piece
word text = Word text ∷ []

-- the path of a child
unfoldable pub below : List ℕ → List ℕ → List ℕ
below path name = path ++ codes "/" ++ name

-- the name of a numbered node
unfoldable pub numbered : List ℕ → ℕ → List ℕ
numbered name number = name ++ decimal number

-- commands that are there where a test holds
abbrev pub on : Bool → List Command → List Command
on test commands = if test then commands else []

-- commands that are there where there is a value
abbrev pub on_some : {A : Type 0} → Option A → (A → List Command) → List Command
on_some value commands = option_map_or commands value []

-- a node has two address cells and two size cells (Devicetree Specification 2.3.5)
unfoldable pub two_and_two : List ℕ → List Command
two_and_two path = Set path (codes "#address-cells") (cells (2 ∷ [])) ∷ Set path (codes "#size-cells") (cells (2 ∷ [])) ∷ []

-- a module of Xen: its node, its two compatible strings, and the address and size of its file (Xen, docs/misc/arm/device-tree/booting.txt)
unfoldable pub module_at : List ℕ → List ℕ → List ℕ → FilePlace → List Command
module_at parent name kind place =
    Mknod parent name
    ∷ Set (below parent name) (codes "compatible") (Word (codes "multiboot," ++ kind) ∷ Word (codes "multiboot,module") ∷ [])
    ∷ Set (below parent name) (codes "reg") (cells (two_cells place.address ++ two_cells place.size))
    ∷ []

-- the k-th of the places, and an empty one where there are fewer, as in no script of placed files
abbrev pub place_at : List FilePlace → ℕ → FilePlace
place_at places k = slice_index_or places k (record { name = []; address = 0; size = 0 })

-- 1 where a test holds, as where a file is set
abbrev pub one_if : Bool → ℕ
one_if test = if test then 1 else 0
