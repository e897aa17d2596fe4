use Rattle.std.proofs.Common.{rules, ◌≡◌, ◌∙◌, ap, inl, inr, subst, length, arith, None, Some, Err}
use Rattle.fdt_tree.specs.Tree.{Property, Place}
use Rattle.fdt_tree.specs.Document.{place_of, properties_of}
use Rattle.overlaid_trees.specs.Turns.{all}
use Rattle.overlaid_trees.specs.Shift.{moved_by_property}
use Rattle.overlaid_trees.proofs.ShiftLemmas.{same-place, at-found}
use Rattle.overlaid_trees.proofs.TurnLemmas.{all-next, all-stop, all-end}
use Rattle.overlaid_trees.proofs.shift.move_words_at.Goals as goal

pub loop-index-preserved : goal.loop-index-preserved
loop-index-preserved c =
    let ps = properties_of c.args.overlay.now c.args.fixups in
    let place = place_of c.args.tree.now c.in-Some.node in
    let fixup : Property = (c.prop_at.result.0.now, c.prop_at.result.1.now) in
    let same : place_of c.loop-index.tree c.in-Some.node ≡ place = same-place c.args.tree.now c.loop-index.tree c.in-Some.node c.loop-index.invariant.places in
    let done = subst (λ (p : Place). moved_by_property c.args.by p c.loop-index.tree.tree fixup ≡ Some c.move_words.new.tree.tree) same c.in_ok-move_words.ensures.ok in
    let places = c.in_ok-move_words.ensures.places in
    record {
      live = (let count = ap (λ qs. length qs) places in omega (arith, count, c.loop-index.invariant.live));
      places = places ∙ c.loop-index.invariant.places;
      whole = c.loop-index.invariant.whole ∙ all-next (moved_by_property c.args.by place) c.loop-index.tree.tree c.move_words.new.tree.tree ps c.loop-index.index fixup c.prop_at.ensures done;
    }

pub returns-in_err-move_words-clause-err : goal.returns-in_err-move_words-clause-err
returns-in_err-move_words-clause-err c =
    let ps = properties_of c.args.overlay.now c.args.fixups in
    let place = place_of c.args.tree.now c.in-Some.node in
    let fixup : Property = (c.prop_at.result.0.now, c.prop_at.result.1.now) in
    let same : place_of c.loop-index.tree c.in-Some.node ≡ place = same-place c.args.tree.now c.loop-index.tree c.in-Some.node c.loop-index.invariant.places in
    let handed : c.from_residual.result ≡ Err (c.in_err-move_words.field-0.0) = search rules in
    rw handed elim c.in_err-move_words.ensures.err [
      | inl memory ↦ inl memory
      | inr missing ↦
          let stop = subst (λ (p : Place). moved_by_property c.args.by p c.loop-index.tree.tree fixup ≡ None) same missing.1 in
          inr (missing.0, at-found c.args.tree.now c.in-Some.node _ (λ p. all (moved_by_property c.args.by p) c.args.tree.now.tree ps) None c.in-Some.ensures.place (c.loop-index.invariant.whole ∙ all-stop (moved_by_property c.args.by place) c.loop-index.tree.tree ps c.loop-index.index fixup c.prop_at.ensures stop))
    ]

pub returns-clause-ok : goal.returns-clause-ok
returns-clause-ok c =
    let ps = properties_of c.args.overlay.now c.args.fixups in
    let place = place_of c.args.tree.now c.in-Some.node in
    let end : c.loop-index.index ≡ length ps = omega (arith, c.prop_count-index-end.ensures) in
    at-found c.args.tree.now c.in-Some.node _ (λ p. all (moved_by_property c.args.by p) c.args.tree.now.tree ps) (Some c.loop-index.tree.tree) c.in-Some.ensures.place (c.loop-index.invariant.whole ∙ all-end (moved_by_property c.args.by place) c.loop-index.tree.tree ps c.loop-index.index end)
