use Rattle.std.proofs.Common.{rules, ◌≡◌, ◌∙◌, ◌<◌, ◌==◌, ap, sym, subst, inl, inr, refl, ℕ, zero, suc, false, Some, None, Err, length, arith}
use Rattle.fdt_tree.specs.Tree.{Place}
use Rattle.fdt_tree.specs.Document.{place_of}
use Rattle.overlaid_trees.specs.Words.{with_moved, with_all_moved}
use Rattle.overlaid_trees.specs.Values.{changed_at}
use Rattle.overlaid_trees.proofs.ShiftLemmas.{same-place}
use Rattle.overlaid_trees.proofs.PutLemmas.{words-step, words-fault, words-end, words-missing, words-left}
use Rattle.overlaid_trees.proofs.local_words.move_in_place.Goals as goal
use Rattle.overlaid_trees.proofs.local_words.move_in_place.Goals.{else-is_empty-via-then-is_empty+else-is_some, else-is_empty-via-else-is_empty}

pub loop-rest-preserved : goal.loop-rest-preserved
loop-rest-preserved c =
    let place = place_of c.args.tree.now c.args.node in
    let same : place_of c.loop-rest.tree c.args.node ≡ place = same-place c.args.tree.now c.loop-rest.tree c.args.node c.loop-rest.invariant.places in
    let done = subst (λ (p : Place). changed_at c.loop-rest.tree.tree p c.args.name.now (λ value. with_moved c.args.by value c.from_be_bytes-offset.result) ≡ Some c.move_word.new.tree.tree) same c.in_ok-move_word.ensures.ok in
    let places = c.in_ok-move_word.ensures.places in
    record {
      live = (let count = ap (λ qs. length qs) places in omega (arith, count, c.loop-rest.invariant.live));
      places = places ∙ c.loop-rest.invariant.places;
      whole = c.loop-rest.invariant.whole ∙ words-step c.args.by c.loop-rest.rest.now c.from_be_bytes-offset.result c.loop-rest.tree.tree c.move_word.new.tree.tree place c.args.name.now c.in-len4-up.len_at_least c.from_be_bytes-offset.ensures done;
    }

pub returns-in_err-move_word-clause-err : goal.returns-in_err-move_word-clause-err
returns-in_err-move_word-clause-err c =
    let place = place_of c.args.tree.now c.args.node in
    let same : place_of c.loop-rest.tree c.args.node ≡ place = same-place c.args.tree.now c.loop-rest.tree c.args.node c.loop-rest.invariant.places in
    let handed : c.from_residual.result ≡ Err (c.in_err-move_word.field-0.0) = search rules in
    rw handed elim c.in_err-move_word.ensures.err [
      | inl memory ↦ inl memory
      | inr missing ↦
          let stop = subst (λ (p : Place). changed_at c.loop-rest.tree.tree p c.args.name.now (λ value. with_moved c.args.by value c.from_be_bytes-offset.result) ≡ None) same missing.1 in
          inr (missing.0, c.loop-rest.invariant.whole ∙ words-fault c.args.by c.loop-rest.rest.now c.from_be_bytes-offset.result c.loop-rest.tree.tree place c.args.name.now c.in-len4-up.len_at_least c.from_be_bytes-offset.ensures stop)
    ]

pub returns-then-is_some-clause-ok : goal.returns-then-is_some-clause-ok
returns-then-is_some-clause-ok c =
    let same : place_of c.loop-rest.tree c.args.node ≡ place_of c.args.tree.now c.args.node = same-place c.args.tree.now c.loop-rest.tree c.args.node c.loop-rest.invariant.places in
    let empty : length c.loop-rest.rest.now ≡ 0 = search rules in
    let end = words-end c.args.by c.loop-rest.rest.now c.loop-rest.tree.tree (place_of c.loop-rest.tree c.args.node) c.args.name.now _ c.prop.result empty (search rules) c.prop.ensures in
    c.loop-rest.invariant.whole ∙ subst (λ (p : Place). changed_at c.loop-rest.tree.tree p c.args.name.now (with_all_moved c.args.by c.loop-rest.rest.now) ≡ Some c.loop-rest.tree.tree) same end

pub returns-else-is_empty-clause-err : goal.returns-else-is_empty-clause-err
returns-else-is_empty-clause-err c =
    let same : place_of c.loop-rest.tree c.args.node ≡ place_of c.args.tree.now c.args.node = same-place c.args.tree.now c.loop-rest.tree c.args.node c.loop-rest.invariant.places in
    elim c.else-is_empty.branch [
      | else-is_empty-via-then-is_empty+else-is_some w ↦
          let missing = words-missing c.args.by c.loop-rest.rest.now c.loop-rest.tree.tree (place_of c.loop-rest.tree c.args.node) c.args.name.now _ w.prop.result (sym w.is_some.ensures ∙ w.if-is_some.false) w.prop.ensures in
          inr (refl, c.loop-rest.invariant.whole ∙ subst (λ (p : Place). changed_at c.loop-rest.tree.tree p c.args.name.now (with_all_moved c.args.by c.loop-rest.rest.now) ≡ None) same missing)
      | else-is_empty-via-else-is_empty w ↦
          let some : 0 < length c.loop-rest.rest.now = some-left (length c.loop-rest.rest.now) (sym c.is_empty.ensures ∙ w.if-is_empty.false) in
          inr (refl, c.loop-rest.invariant.whole ∙ words-left c.args.by c.loop-rest.rest.now c.loop-rest.tree.tree (place_of c.args.tree.now c.args.node) c.args.name.now c.in_default.len_below some)
    ]
  where
    some-left : (n : ℕ) → (n == 0) ≡ false → 0 < n
    some-left zero is = absurd (cc)
    some-left (suc n) is = omega arith
