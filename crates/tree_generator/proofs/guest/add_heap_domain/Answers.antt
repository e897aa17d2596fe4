use Rattle.std.proofs.Common.{◌∙◌, Bool, true, ap, sym}
use Rattle.tree_generator.specs.Guests.{properties_by}
use Rattle.tree_generator.proofs.Domains.{opened_as}
use Rattle.tree_generator.proofs.guest.add_heap_domain.Goals as goal

pub returns-then-linked-clause-ok : goal.returns-then-linked-clause-ok
returns-then-linked-clause-ok c =
    opened_as c.add_open.result c.args.tree.now c.add_open.new.tree c.args.chosen _ _ _ _ c.add_open.ensures.ok (c.as_slice.ensures ∙ c.in_ok-name.ensures.spelled)
    (ap (λ (linked : Bool). properties_by true linked c.args.n c.args.pages) (sym c.if-linked.true))

pub returns-clause-ok : goal.returns-clause-ok
returns-clause-ok c =
    opened_as c.add_open-else-linked.result c.args.tree.now c.add_open-else-linked.new.tree c.args.chosen _ _ _ _ c.add_open-else-linked.ensures.ok (c.as_slice-else-linked.ensures ∙ c.in_ok-name.ensures.spelled)
    (ap (λ (linked : Bool). properties_by true linked c.args.n c.args.pages) (sym c.if-linked.false))
