use Rattle.std.proofs.Common.{◌≡◌, true, false, sym, ap, ◌∙◌}
use Rattle.std.specs.Prelude.{bytes_eq}
use Rattle.fdt_tree.specs.Document.{name_of}
use Rattle.fdt_tree.proofs.Siblings.{standing, starts, goes_on}
use Rattle.overlaid_trees.proofs.ChildWalks.{child-found, no-child}
use Rattle.overlaid_trees.proofs.children.child_named.Goals as goal

pub loop-next-init : goal.loop-next-init
loop-next-init c =
    let u = standing c.args.tree.now c.args.node c.numbering.ensures c.requires in
    record { live = c.first_child-next.ensures.live; comes = starts _ _ _ u.0 u.1 c.first_child-next.result c.first_child-next.ensures.place }

pub loop-next-preserved : goal.loop-next-preserved
loop-next-preserved c =
    let u = standing c.args.tree.now c.args.node c.numbering.ensures c.requires in
    let other : bytes_eq (name_of c.args.tree.now c.in-Some.child) c.args.name.now ≡ false = ap (λ z. bytes_eq z c.args.name.now) (sym c.name.ensures) ∙ (sym c.eq.ensures ∙ c.if-eq.false) in
    record { live = c.next_sibling-next.ensures.live; comes = goes_on _ _ _ u.0 u.1 c.loop-next.next c.next_sibling-next.result c.in-Some.child c.in-Some.is c.loop-next.invariant.comes c.next_sibling-next.ensures.place other }

pub returns-then-eq-clause-place : goal.returns-then-eq-clause-place
returns-then-eq-clause-place c =
    let u = standing c.args.tree.now c.args.node c.numbering.ensures c.requires in
    let same : bytes_eq (name_of c.args.tree.now c.in-Some.child) c.args.name.now ≡ true = ap (λ z. bytes_eq z c.args.name.now) (sym c.name.ensures) ∙ (sym c.eq.ensures ∙ c.if-eq.true) in
    child-found _ _ _ u.0 u.1 c.loop-next.next c.in-Some.child c.in-Some.is c.loop-next.invariant.comes same

pub returns-clause-place : goal.returns-clause-place
returns-clause-place c =
    let u = standing c.args.tree.now c.args.node c.numbering.ensures c.requires in
    no-child _ _ _ u.0 u.1 c.loop-next.next c.in_default.is c.loop-next.invariant.comes
