use Rattle.std.proofs.Common.{slice_get}
use Rattle.ib_config_show.proofs.GuestLemmas.{four_parts}
use Rattle.ib_config_show.proofs.guest.put_guest.Goals as goal

pub returns : goal.returns
returns c = four_parts c.args.guest (slice_get c.args.config.now.guests c.args.guest) _ _ _ _ _ c.in_ok-put_kernel.ensures c.in_ok-put_machine.ensures c.in_ok-put_static.ensures c.in_ok-put_shared.ensures
