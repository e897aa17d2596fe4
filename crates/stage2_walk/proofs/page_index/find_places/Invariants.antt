use Rattle.std.proofs.Common.{◌≡◌, ℕ, false, ◌<◌}
use Rattle.stage2_walk.specs.PrivatePlaceMaps.{ArePlaces}
use Rattle.stage2_walk.proofs.ReadLemmas.{stands_before}
use Rattle.stage2_walk.proofs.page_index.find_places.Given as goal

abbrev pub invariant-loop-place : goal.invariant-loop-place
invariant-loop-place l = record {
  places : ArePlaces l.bytes l.place l.places;
  apart : (j : ℕ) → j < l.place → stands_before l.bytes l.count j ≡ false;
}
