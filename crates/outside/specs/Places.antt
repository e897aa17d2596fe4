-- For private contracts and proofs alone.
-- Where the outputs in memory keep each file: its name and then its contents, in one list of bytes.
use Rattle.std.specs.Prelude.{ℕ, ◌+◌, ◌≤◌, List, ◌∷◌, [], length, map, slice_range}
use Rattle.outside.specs.Outside.{File}
use Rattle.outside.specs.declared.places.Place.{Place}

-- the file at this place
abbrev pub file_at : List ℕ → Place → File
file_at bytes place = (slice_range bytes place.start place.middle, slice_range bytes place.middle place.end)

-- the files at places, in their order
abbrev pub files_at : List ℕ → List Place → List File
files_at bytes places = map (file_at bytes) places

-- the place lies within so many bytes
pub record IsWithin (count : ℕ) (place : Place) : Type 0 where
  pub name : place.start ≤ place.middle
  pub contents : place.middle ≤ place.end
  pub inside : place.end ≤ count

-- all places lie within so many bytes
abbrev pub AreWithin : ℕ → List Place → Type 0
AreWithin count [] = Unit {0}
AreWithin count (place ∷ places) = IsWithin count place × AreWithin count places

-- each place lies within the bytes, and the room stands behind what is there
pub record OutsHold (bytes : List ℕ) (places : List Place) (bytes_capacity places_capacity bytes_room places_room : ℕ) : Type 0 where
  pub within : AreWithin (length bytes) places
  pub bytes_fit : length bytes + bytes_room ≤ bytes_capacity
  pub places_fit : length places + places_room ≤ places_capacity
