-- Files that do not overlap.
use Rattle.std.specs.Prelude.{◌≡◌, ℕ, ◌+◌, ◌≤◌, ◌%◌, List, [], ◌∷◌}
use Rattle.ib_placement.specs.Placement.{counted}
use Rattle.ib_placement.specs.declared.places.FilePlace.{FilePlace}

-- files lie one behind the other between two addresses, each at a multiple of 2 MiB and as long as its size counts
abbrev pub LieBetween : ℕ → ℕ → List FilePlace → Type 0
LieBetween low high [] = Unit {0}
LieBetween low high (place ∷ later) =
    (low ≤ place.address) × (place.address % 0x200000 ≡ 0) × (place.address + counted place.size ≤ high) × LieBetween (place.address + counted place.size) high later
