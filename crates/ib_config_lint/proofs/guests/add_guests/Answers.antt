use Rattle.std.proofs.Common.{arith}
use Rattle.ib_config_lint.proofs.GuestLemmas.{next_guest, all_guests}
use Rattle.ib_config_lint.proofs.guests.add_guests.Goals as goal

pub loop-guest-preserved : goal.loop-guest-preserved
loop-guest-preserved c = next_guest c.args.config.now.guests c.loop-guest.guest _ _ _ (omega arith) c.in_ok-add_guest.ensures c.loop-guest.invariant

pub returns : goal.returns
returns c = all_guests c.args.config.now.guests c.loop-guest.guest _ _ (omega arith) c.loop-guest.invariant
