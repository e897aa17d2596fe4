use Rattle.std.proofs.Common.{◌≡◌, ◌++◌, take, flat_map}
use Rattle.fdt_listing.specs.Listing.{reserve_line}
use Rattle.fdt_listing.proofs.listing.append_reserves.Given as goal

-- The reservations so far are listed.
abbrev pub invariant-loop-reserve : goal.invariant-loop-reserve
invariant-loop-reserve l = l.out ≡ l.initial.out ++ flat_map reserve_line (take l.reserve-index l.reserves)
