use Rattle.std.proofs.Common.{◌≡◌, ◌++◌, drop, string_bytes}
use Rattle.ib_config_show.specs.Shown.{guests_lines}
use Rattle.ib_config_show.proofs.settings.put_guests.Given as goal

-- the lines of the guests so far, and then those of the other guests
abbrev pub invariant-loop-guest : goal.invariant-loop-guest
invariant-loop-guest l = string_bytes l.initial.out ++ guests_lines 0 l.config.guests ≡ string_bytes l.out ++ guests_lines l.guest (drop l.guest l.config.guests)
