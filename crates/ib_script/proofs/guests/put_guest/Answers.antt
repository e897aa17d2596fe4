use Rattle.std.proofs.Common.{slice_get}
use Rattle.ib_script.proofs.GuestLemmas.{guest_added}
use Rattle.ib_script.proofs.guests.put_guest.Goals as goal

pub returns : goal.returns
returns c =
    guest_added c.args.config.now.guests c.args.highest c.args.guest (slice_get c.args.config.now.guests c.args.guest) c.args.places.now c.args.out.now c.put_domain.new.out c.put_modules.new.out c.put_links.new.out
    c.in_ok-put_domain.ensures c.in_ok-put_modules.ensures c.in_ok-put_links.ensures
