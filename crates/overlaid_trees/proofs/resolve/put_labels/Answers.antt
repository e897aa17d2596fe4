use Rattle.std.proofs.Common.{rules, ◌≡◌, ◌∙◌, ap, inl, inr, length, arith, Err}
use Rattle.fdt_tree.specs.Tree.{Property}
use Rattle.fdt_tree.specs.Document.{properties_of}
use Rattle.std.specs.Prelude.{codes}
use Rattle.overlaid_trees.specs.Turns.{each}
use Rattle.overlaid_trees.specs.Resolve.{with_label}
use Rattle.overlaid_trees.proofs.TurnLemmas.{each-next, each-stop, each-end}
use Rattle.overlaid_trees.proofs.LabelLemmas.{found-properties}
use Rattle.overlaid_trees.proofs.resolve.put_labels.Goals as goal

pub loop-index-preserved : goal.loop-index-preserved
loop-index-preserved c =
    let ps = properties_of c.args.overlay.now c.in-Some.fixups in
    let label : Property = (c.prop_at.result.0.now, c.prop_at.result.1.now) in
    c.loop-index.invariant ∙ each-next (with_label c.args.base.now.tree) c.loop-index.tree.tree c.put_label.new.tree.tree ps c.loop-index.index label c.prop_at.ensures c.in_ok-put_label.ensures.ok

pub returns-in_err-put_label-clause-refused : goal.returns-in_err-put_label-clause-refused
returns-in_err-put_label-clause-refused c =
    let ps = properties_of c.args.overlay.now c.in-Some.fixups in
    let label : Property = (c.prop_at.result.0.now, c.prop_at.result.1.now) in
    let found = ap (each (with_label c.args.base.now.tree) c.args.tree.now.tree) (found-properties c.args.overlay.now c.in-Some.fixups (codes "/__fixups__") c.in-Some.ensures.place) in
    let handed : c.from_residual.result ≡ Err (c.in_err-put_label.field-0.0) = search rules in
    rw handed elim c.in_err-put_label.ensures.refused [
      | inl memory ↦ inl memory
      | inr stop ↦ inr (found ∙ (c.loop-index.invariant ∙ each-stop (with_label c.args.base.now.tree) c.loop-index.tree.tree (c.in_err-put_label.field-0.0) ps c.loop-index.index label c.prop_at.ensures stop))
    ]

pub returns-clause-ok : goal.returns-clause-ok
returns-clause-ok c =
    let ps = properties_of c.args.overlay.now c.in-Some.fixups in
    let end : c.loop-index.index ≡ length ps = omega (arith, c.prop_count-index-end.ensures) in
    let found = ap (each (with_label c.args.base.now.tree) c.args.tree.now.tree) (found-properties c.args.overlay.now c.in-Some.fixups (codes "/__fixups__") c.in-Some.ensures.place) in
    found ∙ (c.loop-index.invariant ∙ each-end (with_label c.args.base.now.tree) c.loop-index.tree.tree ps c.loop-index.index end)
