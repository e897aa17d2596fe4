use Rattle.std.proofs.Common.{[], ◌∷◌, ap, sym, ◌∙◌}
use Rattle.guest_fdt.specs.Machine.{static_ports}
use Rattle.tree_parts.specs.Nodes.{trees_of}
use Rattle.tree_parts.proofs.Growing.{grown-as, Grows-none, any-none, any-some}
use Rattle.guest_fdt.proofs.parts.add_ports.Goals as goal

pub returns-then-is_empty : goal.returns-then-is_empty
returns-then-is_empty c =
    Grows-none c.args.tree.now c.args.root _ (any-none c.args.ports.now (static_ports c.args.ports.now ∷ []) (sym c.is_empty.ensures ∙ c.if-is_empty.true))

pub returns-else-is_empty : goal.returns-else-is_empty
returns-else-is_empty c =
    grown-as c.add_static_ports.result c.args.tree.now c.add_static_ports.new.tree c.args.root _ _ c.add_static_ports.ensures (ap trees_of (sym (any-some c.args.ports.now (static_ports c.args.ports.now ∷ []) (sym c.is_empty.ensures ∙ c.if-is_empty.false))))
