-- For private contracts and proofs: the places of the pages of a file, as a map from frames.
use Rattle.std.specs.Prelude.{◌≡◌, ℕ, ◌+◌, ◌*◌, ◌<◌, List, Some}
use Rattle.std.specs.Ordering.{nat_cmp}
use Rattle.std.specs.BTreeMap.{BTreeMap, IsOrdered, btree_map_len, get}
use Rattle.stage2_walk.specs.Pages.{number_at}
use Rattle.stage2_walk.specs.declared.places.Place.{Place}

-- the places of the first pages of a file: each frame goes to where its page stands, and no other frame goes anywhere
pub record ArePlaces (file : List ℕ) (count : ℕ) (places : BTreeMap ℕ ℕ) : Type 0 where
  pub found : (k : ℕ) → k < count → get nat_cmp places (number_at file (24 + 4104 * k)) ≡ Some k
  pub within : (frame k : ℕ) → get nat_cmp places frame ≡ Some k → k < count
  pub right : (frame k : ℕ) → get nat_cmp places frame ≡ Some k → number_at file (24 + 4104 * k) ≡ frame
  pub whole : btree_map_len places ≡ count
  pub ordered : IsOrdered nat_cmp places

-- an entry of such a map, as one of an index
abbrev pub entry_of : ℕ × ℕ → Place
entry_of entry = record { frame = entry.0; place = entry.1 }
