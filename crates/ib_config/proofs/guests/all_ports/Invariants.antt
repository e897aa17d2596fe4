use Rattle.std.proofs.Common.{◌≡◌, map}
use Rattle.texts.specs.Consecutive.{numbers}
use Rattle.ib_config.specs.PrivateScan.{held}
use Rattle.ib_config.specs.Settings.{ports_at}
use Rattle.ib_config.proofs.guests.all_ports.Given as goal

abbrev pub invariant-loop-guest : goal.invariant-loop-guest
invariant-loop-guest l = l.ports ≡ map (ports_at (held l.assigned)) (numbers 0 l.guest)
