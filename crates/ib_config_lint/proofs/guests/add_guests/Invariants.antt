use Rattle.std.proofs.Common.{◌≡◌, ◌++◌, drop}
use Rattle.ib_config_lint.specs.Warnings.{guests_warnings}
use Rattle.ib_config_lint.proofs.guests.add_guests.Given as goal

-- the rows of the guests so far, and then those of the other guests
abbrev pub invariant-loop-guest : goal.invariant-loop-guest
invariant-loop-guest l = l.initial.found ++ guests_warnings 0 l.config.guests ≡ l.found ++ guests_warnings l.guest (drop l.guest l.config.guests)
