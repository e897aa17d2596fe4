use Rattle.std.proofs.Common.{◌≡◌, List, ℕ, [], ◌∷◌, flat_map, ap, ◌∙◌, codes}
use Rattle.guest_fdt.specs.Machine.{static_ports, port_cells}
use Rattle.tree_parts.specs.Nodes.{trees_of, leaf, cells, text}
use Rattle.tree_parts.proofs.Growing.{grown-as}
use Rattle.guest_fdt.proofs.parts.add_static_ports.Goals as goal

pub returns : goal.returns
unfolding static_ports
returns c =
    let same : c.as_slice.result.now ≡ flat_map port_cells c.args.ports.now = c.as_slice.ensures.value ∙ c.in_ok-cells.ensures in
    grown-as c.add_leaf.result c.args.tree.now c.add_leaf.new.tree c.args.root _ _ c.add_leaf.ensures (ap (λ (ns : List ℕ). trees_of (leaf (codes "static-ports") (text (codes "compatible") (codes "dom0less,static-ports") ∷ cells (codes "ports") ns ∷ []) ∷ [])) same)
