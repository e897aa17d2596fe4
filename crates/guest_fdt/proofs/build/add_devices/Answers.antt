use Rattle.std.proofs.Common.{[], ◌∷◌, refl}
use Rattle.guest_fdt.specs.GuestTree.{device_nodes}
use Rattle.guest_fdt.specs.Machine.{interrupt_controller, timer, hypervisor}
use Rattle.tree_parts.proofs.Growing.{Grows-both, both-as}
use Rattle.guest_fdt.proofs.build.add_devices.Goals as goal

pub returns : goal.returns
returns c =
    let layout = c.args.layout.now in
    let guest = c.args.guest.now in
    let one = interrupt_controller layout.distributor layout.redistributors guest.gic in
    both-as c.add_hypervisor.result c.args.tree.now c.add_timer.new.tree c.add_hypervisor.new.tree c.args.root (one ∷ timer ∷ []) (hypervisor layout.grant ∷ []) (device_nodes layout guest) c.requires (Grows-both c.args.tree.now c.add_interrupt_controller.new.tree c.add_timer.new.tree c.args.root (one ∷ []) (timer ∷ []) c.requires c.in_ok-add_interrupt_controller.ensures c.in_ok-add_timer.ensures) c.add_hypervisor.ensures refl
