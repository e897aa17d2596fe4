use Rattle.std.proofs.Common.{◌≡◌, ◌≤◌, ◌+◌, ◌^◌, length, drop}
use Rattle.std.specs.VecDeque.{deque_len}
use Rattle.ib_placement.specs.Placement.{places_below, placed_from}
use Rattle.ib_placement.proofs.PlaceLemmas.{onto}
use Rattle.ib_placement.proofs.places.place_from.Given as goal

-- the places so far, and then those of the files that follow
abbrev pub invariant-loop-size : goal.invariant-loop-size
invariant-loop-size l = record {
  same : places_below l.limit (placed_from l.start l.fn.names l.sizes) ≡ onto l.places (places_below l.limit (placed_from l.end l.later.items (drop l.size-index l.sizes)));
  left : length l.later.items + l.size-index ≡ length l.sizes;
  held : deque_len l.later ≡ length l.later.items;
  low : l.end ≤ 2 ^ 41;
}
