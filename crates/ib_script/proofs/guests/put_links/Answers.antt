use Rattle.std.proofs.Common.{slice_get}
use Rattle.ib_script.proofs.GuestLemmas.{links_added}
use Rattle.ib_script.proofs.guests.put_links.Goals as goal

pub returns : goal.returns
returns c =
    links_added c.args.config.now.guests c.args.highest c.args.guest c.first_phandle-first.result (slice_get c.args.config.now.guests c.args.guest) c.as_slice-regions.result.now
    c.as_slice-groups.result.now c.args.out.now c.put_regions.new.out c.put_channels.new.out (rw c.as_slice-regions.ensures c.shared_mem.ensures) (rw c.as_slice-groups.ensures c.evtchns.ensures)
    c.first_phandle-first.ensures.value (rw (← c.requires.path) c.in_ok-put_regions.ensures) (rw (← c.requires.path) c.in_ok-put_channels.ensures)
