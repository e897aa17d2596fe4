use Rattle.std.proofs.Common.{◌≡◌, ◌∙◌, ap, inl, inr, drop}
use Rattle.fdt_nodes.specs.Nodes.{shown}
use Rattle.fdt_nodes.specs.Held.{node_of}
use Rattle.overlaid_trees.specs.Shift.{spoken_path}
use Rattle.overlaid_trees.proofs.LocalLemmas.{behind-shown, node-done, node-missing}
use Rattle.overlaid_trees.proofs.shift.move_words_of.Goals as goal

pub returns-in-Ok-clause-ok : goal.returns-in-Ok-clause-ok
returns-in-Ok-clause-ok c =
    let node = node_of c.args.overlay.now c.args.fixups in
    let same : c.spoken_path-spoken.result.now ≡ spoken_path node = c.spoken_path-spoken.ensures ∙ (ap (λ path. shown (drop 17 path)) (c.as_slice.ensures ∙ c.in_ok-own.ensures) ∙ ap shown (behind-shown node.path)) in
    node-done c.args.by c.args.tree.now.tree c.move_words_at.new.tree.tree node c.spoken_path-spoken.result.now same c.in-Ok.ensures.ok

pub returns-clause-refused : goal.returns-clause-refused
returns-clause-refused c =
    let node = node_of c.args.overlay.now c.args.fixups in
    let same : c.spoken_path-spoken.result.now ≡ spoken_path node = c.spoken_path-spoken.ensures ∙ (ap (λ path. shown (drop 17 path)) (c.as_slice.ensures ∙ c.in_ok-own.ensures) ∙ ap shown (behind-shown node.path)) in
    elim c.in-Err-Missing.ensures.err [
      | inl memory ↦ let missing = c.in-Err-Missing.field-0-is in absurd (cc)
      | inr missing ↦ inr (node-missing c.args.by c.args.tree.now.tree node c.spoken_path-spoken.result.now c.in_ok-held-in-Err-Missing.field-0 same c.in_ok-held-in-Err-Missing.ensures missing.1)
    ]
