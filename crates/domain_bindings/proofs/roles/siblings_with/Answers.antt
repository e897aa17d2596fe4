use Rattle.std.proofs.Common.{◌≡◌, sym, subst, All}
use Rattle.fdt_nodes.specs.Held.{node_of}
use Rattle.domain_bindings.specs.PrivateRoles.{has_role}
use Rattle.domain_bindings.proofs.Kept.{kept_cells}
use Rattle.domain_bindings.proofs.roles.siblings_with.Goals as goal

pub returns-clause-cells : goal.returns-clause-cells
returns-clause-cells c =
    subst (λ cells. All (λ number. (node_of c.args.tree.now number).cells ≡ cells) c.in_ok-nodes.nodes) (sym c.cells_below-cells.ensures.cells)
    (kept_cells c.args.tree.now (node_of c.args.tree.now c.args.node) (has_role c.args.role) c.in_ok-nodes.nodes c.in_ok-nodes.ensures)
