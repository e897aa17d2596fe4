use Rattle.std.proofs.Common.{◌≡◌, ◌++◌, take}
use Rattle.std.specs.List.{flat_map}
use Rattle.ib_placement.specs.Placement.{guest_files}
use Rattle.ib_placement.proofs.order.push_guests.Given as goal

-- the names at the start, and then those of the guests so far
abbrev pub invariant-loop-guest : goal.invariant-loop-guest
invariant-loop-guest l = l.names ≡ l.fn.names ++ flat_map guest_files (take l.guest l.config.guests)
