-- For private contracts and proofs: an index from frames to places.
use Rattle.std.specs.Prelude.{ℕ, ◌<◌, ◌==◌, if◌then◌else◌, List, [], ◌∷◌, length, slice_index_or, Option, Some, None}
use Rattle.stage2_walk.specs.declared.places.Place.{Place}

-- the place of a frame: that of the first entry with this frame
abbrev pub place_in : List Place → ℕ → Option ℕ
place_in [] frame = None
place_in (entry ∷ entries) frame = if entry.frame == frame then Some entry.place else place_in entries frame

-- each entry has a lower frame than those after it
abbrev pub AreAscending : List Place → Type 0
AreAscending index = (j k : ℕ) (default : Place) → j < k → k < length index → (slice_index_or index j default).frame < (slice_index_or index k default).frame
