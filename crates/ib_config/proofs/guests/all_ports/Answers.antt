use Rattle.ib_config.specs.PrivateScan.{held}
use Rattle.ib_config.specs.Settings.{ports_at}
use Rattle.ib_config.proofs.GuestLemmas.{one_more, no_more}
use Rattle.ib_config.proofs.guests.all_ports.Goals as goal

pub loop-guest-init : goal.loop-guest-init
loop-guest-init c = no_more (ports_at (held c.args.assigned.now)) c.new-ports.result c.new-ports.ensures

pub loop-guest-preserved : goal.loop-guest-preserved
loop-guest-preserved c = one_more (ports_at (held c.args.assigned.now)) c.loop-guest.guest c.loop-guest.ports c.push.new.self c.in_ok-guest_ports.field-0 c.loop-guest.invariant c.in_ok-guest_ports.ensures c.in_ok-push.ensures.ok
