use Rattle.std.proofs.Common.{arith}
use Rattle.ib_placement.specs.Placement.{guest_files}
use Rattle.ib_placement.proofs.OrderLemmas.{guests_on}
use Rattle.ib_placement.proofs.order.push_guests.Goals as goal

pub loop-guest-preserved : goal.loop-guest-preserved
loop-guest-preserved c = guests_on guest_files c.args.names.now c.loop-guest.names c.push_guest.new.names c.args.config.now.guests c.loop-guest.guest (omega arith) c.loop-guest.invariant c.in_ok-push_guest.ensures
