use Rattle.std.proofs.Common.{◌≡◌, ◌≤◌, ◌++◌, length, drop}
use Rattle.std.specs.List.{flat_map}
use Rattle.ib_placement.specs.Placement.{guest_files}
use Rattle.ib_script.specs.Guests.{guests_commands}
use Rattle.ib_script.proofs.guests.put_guests.Given as goal

-- the commands so far, and then those of the other guests, whose files have the places that are left
abbrev pub invariant-loop-guest : goal.invariant-loop-guest
invariant-loop-guest l = record {
  same : l.initial.out ++ guests_commands l.config.guests l.highest 0 l.config.guests l.places ≡ l.out ++ guests_commands l.config.guests l.highest l.guest (drop l.guest l.config.guests) l.left;
  enough : length (flat_map guest_files (drop l.guest l.config.guests)) ≤ length l.left;
}
