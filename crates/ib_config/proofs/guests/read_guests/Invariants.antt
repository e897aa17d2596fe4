use Rattle.std.proofs.Common.{◌≡◌, ◌-◌, ◌++◌, Ok}
use Rattle.texts.specs.Consecutive.{numbers}
use Rattle.ib_config.specs.PrivateScan.{held}
use Rattle.ib_config.specs.Settings.{◌>>=◌, each, guest_settings}
use Rattle.ib_config.proofs.guests.read_guests.Given as goal

-- the guests so far, and then those that follow
abbrev pub invariant-loop-guest : goal.invariant-loop-guest
invariant-loop-guest l = each (guest_settings (held l.assigned) l.count) (numbers 0 l.count)
    ≡ (each (guest_settings (held l.assigned) l.count) (numbers l.guest (l.count - l.guest)) >>= λ later. Ok (l.guests ++ later))
