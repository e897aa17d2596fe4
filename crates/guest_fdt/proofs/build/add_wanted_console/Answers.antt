use Rattle.std.proofs.Common.{[], ◌∷◌, ap, sym}
use Rattle.guest_fdt.specs.Machine.{console}
use Rattle.tree_parts.specs.Nodes.{trees_of, on}
use Rattle.tree_parts.proofs.Growing.{Grows-none, grown-as}
use Rattle.guest_fdt.proofs.build.add_wanted_console.Goals as goal

pub returns-then-guest : goal.returns-then-guest
returns-then-guest c =
    grown-as c.add_console.result c.args.tree.now c.add_console.new.tree c.args.root _ _ c.add_console.ensures (ap (λ b. trees_of (on b (console c.args.layout.now.console ∷ []))) (sym c.if-guest.true))

pub returns-else-guest : goal.returns-else-guest
returns-else-guest c =
    Grows-none c.args.tree.now c.args.root _ (ap (λ b. on b (console c.args.layout.now.console ∷ [])) c.if-guest.false)
