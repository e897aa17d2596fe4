use Rattle.std.proofs.Common.{[], ◌∷◌, ◌++◌, ap, map, subst}
use Rattle.tree_parts.specs.Grown.{Grows}
use Rattle.guest_fdt.specs.GuestTree.{first_nodes, memory_nodes, device_nodes, console_nodes, region_nodes, machine_nodes}
use Rattle.guest_fdt.specs.Machine.{memory, reserved_memory, static_ports}
use Rattle.tree_parts.specs.Nodes.{trees_of, on_any}
use Rattle.guest_fdt.proofs.NodeParts.{to_memory, to_devices, to_console, to_regions}
use Rattle.tree_parts.proofs.Growing.{Grows-both, both-as}
use Rattle.guest_fdt.proofs.build.add_machine.Goals as goal

pub returns : goal.returns
returns c =
    let d = c.args.tree.now in
    let root = c.args.root in
    let layout = c.args.layout.now in
    let guest = c.args.guest.now in
    let live = c.requires.live in
    let memories : Grows c.add_first.new.tree c.add_memories.new.tree root (trees_of (memory_nodes guest)) = subst (λ ms. Grows c.add_first.new.tree c.add_memories.new.tree root (trees_of (map memory ms))) c.as_slice.ensures c.in_ok-add_memories.ensures in
    let regions : Grows c.add_wanted_console.new.tree c.add_regions.new.tree root (trees_of (region_nodes guest)) = subst (λ ss. Grows c.add_wanted_console.new.tree c.add_regions.new.tree root (trees_of (on_any ss (reserved_memory ss ∷ [])))) c.as_slice-2.ensures c.in_ok-add_regions.ensures in
    let a = Grows-both d c.add_first.new.tree c.add_memories.new.tree root (first_nodes layout guest) (memory_nodes guest) live c.in_ok-add_first.ensures memories in
    let b = Grows-both d c.add_memories.new.tree c.add_devices.new.tree root (to_memory layout guest) (device_nodes layout guest) live a c.in_ok-add_devices.ensures in
    let e = Grows-both d c.add_devices.new.tree c.add_wanted_console.new.tree root (to_devices layout guest) (console_nodes layout guest) live b c.in_ok-add_wanted_console.ensures in
    let f = Grows-both d c.add_wanted_console.new.tree c.add_regions.new.tree root (to_console layout guest) (region_nodes guest) live e regions in
    both-as c.add_ports.result d c.add_regions.new.tree c.add_ports.new.tree root (to_regions layout guest) _ (machine_nodes layout guest) live f c.add_ports.ensures (ap (λ ps. to_regions layout guest ++ on_any ps (static_ports ps ∷ [])) c.as_slice-3.ensures)
