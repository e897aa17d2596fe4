use Rattle.std.proofs.Common.{◌≡◌, ◌++◌, take, flat_map}
use Rattle.source_text.specs.Printed.{reserve_line}
use Rattle.source_text.proofs.lines.append_reserves.Given as goal

-- The reservations so far have their lines.
abbrev pub invariant-loop-reserve : goal.invariant-loop-reserve
invariant-loop-reserve l = l.out ≡ l.initial.out ++ flat_map reserve_line (take l.reserve-index l.reserves)
