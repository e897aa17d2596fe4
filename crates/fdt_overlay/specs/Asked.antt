-- What the words of the command line ask for.
use Rattle.std.specs.Prelude.{ℕ, List, ◌∷◌, length, nat_lt, if◌then◌else◌, Option, Some, None}

-- the names of the files: the base, the tree that is written, and the overlays in their order
pub record Asked : Type 0 where
  pub base : List ℕ
  pub out : List ℕ
  pub overlays : List (List ℕ)

-- the most overlays of one run
abbrev pub overlay_limit : ℕ
overlay_limit = 16

-- what the words ask for, the program's name first: BASE OUT, and then one overlay or more, within the limit
unfoldable pub asked : List (List ℕ) → Option Asked
asked (program ∷ base ∷ out ∷ overlay ∷ overlays) =
    if nat_lt overlay_limit (length (overlay ∷ overlays)) then None else Some (record { base = base; out = out; overlays = overlay ∷ overlays })
asked _ = None
