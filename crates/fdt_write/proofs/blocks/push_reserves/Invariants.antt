use Rattle.std.proofs.Common.{◌≡◌, ◌++◌, take, flat_map}
use Rattle.fdt_write.specs.Blocks.{reserve_bytes}
use Rattle.fdt_write.proofs.blocks.push_reserves.Given as goal

-- The reservations so far are written.
abbrev pub invariant-loop-reserve : goal.invariant-loop-reserve
invariant-loop-reserve l =
    l.out.items ≡ l.initial.out.items ++ flat_map reserve_bytes (take l.reserve-index l.reserves)
