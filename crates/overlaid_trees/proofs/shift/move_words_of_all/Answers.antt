use Rattle.std.proofs.Common.{rules, ◌≡◌, ◌∙◌, inl, inr, map, length, arith, Err}
use Rattle.std.proofs.lemmas.List.{length-map}
use Rattle.fdt_nodes.specs.Held.{node_of}
use Rattle.overlaid_trees.specs.Shift.{moved_by_node}
use Rattle.overlaid_trees.proofs.TurnLemmas.{each-next, each-stop, each-end}
use Rattle.overlaid_trees.proofs.LocalLemmas.{get-map, get-is}
use Rattle.overlaid_trees.proofs.shift.move_words_of_all.Goals as goal

pub loop-index-preserved : goal.loop-index-preserved
loop-index-preserved c =
    let f = node_of c.args.overlay.now in
    let nodes = c.args.nodes.now in
    let node = c.index-nodes-index.result in
    c.loop-index.invariant ∙ each-next (moved_by_node c.args.by) c.loop-index.tree.tree c.move_words_of.new.tree.tree (map f nodes) c.loop-index.index (f node) (get-map f nodes c.loop-index.index node (get-is nodes c.loop-index.index node c.index-nodes-index.is c.loop-index-test.true)) c.in_ok-move_words_of.ensures.ok

pub returns-in_err-move_words_of-clause-refused : goal.returns-in_err-move_words_of-clause-refused
returns-in_err-move_words_of-clause-refused c =
    let f = node_of c.args.overlay.now in
    let nodes = c.args.nodes.now in
    let node = c.index-nodes-index.result in
    let handed : c.from_residual.result ≡ Err (c.in_err-move_words_of.field-0.0) = search rules in
    rw handed elim c.in_err-move_words_of.ensures.refused [
      | inl memory ↦ inl memory
      | inr stop ↦ inr (c.loop-index.invariant ∙ each-stop (moved_by_node c.args.by) c.loop-index.tree.tree (c.in_err-move_words_of.field-0.0) (map f nodes) c.loop-index.index (f node) (get-map f nodes c.loop-index.index node (get-is nodes c.loop-index.index node c.index-nodes-index.is c.loop-index-test.true)) stop)
    ]

pub returns-clause-ok : goal.returns-clause-ok
returns-clause-ok c =
    let nodes = map (node_of c.args.overlay.now) c.args.nodes.now in
    let end : c.loop-index.index ≡ length nodes = omega (arith, length-map c.args.nodes.now (node_of c.args.overlay.now)) in
    c.loop-index.invariant ∙ each-end (moved_by_node c.args.by) c.loop-index.tree.tree nodes c.loop-index.index end
