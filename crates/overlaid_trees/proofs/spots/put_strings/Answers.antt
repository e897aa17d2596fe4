use Rattle.std.proofs.Common.{rules, ◌≡◌, ◌∙◌, inl, inr, Err}
use Rattle.overlaid_trees.proofs.SpotLemmas.{strings-stop}
use Rattle.overlaid_trees.proofs.spots.put_strings.Goals as goal

pub returns-in_err-put_string-clause-err : goal.returns-in_err-put_string-clause-err
returns-in_err-put_string-clause-err c =
    let handed : c.from_residual.result ≡ Err (c.in_err-put_string.field-0.0) = search rules in
    rw handed elim c.in_err-put_string.ensures.err [
      | inl memory ↦ inl memory
      | inr missing ↦ inr (missing.0, c.loop-string.invariant ∙ strings-stop c.args.number c.loop-string.tree.tree c.loop-string.rest.now c.in-Some.string.now c.in-Some.after.now c.in-Some.ensures.parts missing.1)
    ]
