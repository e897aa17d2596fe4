use Rattle.std.proofs.Common.{◌<◌, ◌++◌, sym, option_map, length, subst}
use Rattle.std.specs.Option.{option_copied}
use Rattle.fdt_tree.specs.Document.{Document}
use Rattle.guest_fdt.specs.Copies.{copies}
use Rattle.tree_parts.specs.Grown.{Grows}
use Rattle.guest_fdt.specs.GuestTree.{machine_nodes, guest_tree}
use Rattle.guest_fdt.specs.Machine.{root_properties}
use Rattle.tree_parts.specs.Nodes.{trees_of}
use Rattle.tree_parts.proofs.Growing.{Grows-both, built}
use Rattle.guest_fdt.proofs.build.build_tree.Goals as goal

pub returns : goal.returns
unfolding guest_tree
returns c =
    let guest = c.args.guest.now in
    let root = c.root-root.result in
    let given = c.add_root.new.tree in
    let more = copies (option_map (λ (d : Document). d.tree) (option_copied c.args.partial)) in
    let live : root < length given.places = subst (λ (d : Document). root < length d.places) (sym c.in_ok-add_root.ensures) c.root-root.ensures.live in
    let nodes = machine_nodes guest.layout guest in
    built c.in_ok-tree.tree given c.add_partial.new.tree root (root_properties guest.gic) (nodes ++ more) c.in_ok-tree.ensures c.root-root.ensures.place c.in_ok-add_root.ensures (Grows-both given c.add_machine.new.tree c.add_partial.new.tree root nodes more live c.in_ok-add_machine.ensures c.in_ok-add_partial.ensures)
