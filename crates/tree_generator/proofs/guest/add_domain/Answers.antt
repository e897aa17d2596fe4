use Rattle.std.proofs.Common.{Bool, ap, sym, refl}
use Rattle.tree_generator.specs.Guests.{properties_by}
use Rattle.tree_generator.proofs.Domains.{opened_as}
use Rattle.tree_generator.proofs.guest.add_domain.Goals as goal

pub returns-then-even-clause-ok : goal.returns-then-even-clause-ok
returns-then-even-clause-ok c =
    opened_as c.add_heap_domain.result c.args.tree.now c.add_heap_domain.new.tree c.args.chosen _ _ _ _ c.add_heap_domain.ensures.ok refl
    (ap (λ (even : Bool). properties_by even c.args.linked c.args.n c.args.pages) (sym c.if-even.true))

pub returns-else-even-clause-ok : goal.returns-else-even-clause-ok
returns-else-even-clause-ok c =
    opened_as c.add_static_domain.result c.args.tree.now c.add_static_domain.new.tree c.args.chosen _ _ _ _ c.add_static_domain.ensures.ok refl
    (ap (λ (even : Bool). properties_by even c.args.linked c.args.n c.args.pages) (sym c.if-even.false))
