use Rattle.std.proofs.Common.{slice_get}
use Rattle.ib_script.proofs.GuestLemmas.{domain_added}
use Rattle.ib_script.proofs.MemoryBounds.{memory_bounded}
use Rattle.ib_script.proofs.guests.put_domain.Goals as goal

pub put_machine-requires : goal.put_machine-requires
put_machine-requires c = memory_bounded c.args.config.now c.args.guest c.mem_mib-mib.result c.known.ensures c.mem_mib-mib.ensures

pub returns : goal.returns
returns c =
    domain_added c.args.guest (slice_get c.args.config.now.guests c.args.guest) c.mem_mib-mib.result c.vcpus-vcpus.result c.vpl011-vpl011.result c.as_slice-ranges.result.now c.direct_map-direct.result
    c.as_slice-groups.result.now c.args.out.now c.put_guest_node.new.out c.put_machine.new.out c.put_static.new.out c.put_enhanced.new.out c.mem_mib-mib.ensures c.vcpus-vcpus.ensures
    c.vpl011-vpl011.ensures (rw c.as_slice-ranges.ensures c.static_mem.ensures) c.direct_map-direct.ensures (rw c.as_slice-groups.ensures c.evtchns.ensures) c.in_ok-put_guest_node.ensures
    (rw (← c.requires.path) c.in_ok-put_machine.ensures) (rw (← c.requires.path) c.in_ok-put_static.ensures) (rw (← c.requires.path) c.in_ok-put_enhanced.ensures)
