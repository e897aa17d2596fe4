use Rattle.std.proofs.Common.{◌≡◌, ◌∙◌, ◌⊎◌, ap, map, sym, subst, Ok, Err}
use Rattle.std.specs.Prelude.{OnOk, IfErr, Result}
use Rattle.fdt_tree.specs.Tree.{Tree}
use Rattle.fdt_nodes.specs.Held.{node_of}
use Rattle.overlaid_trees.specs.declared.fault.OverlayFault.{OverlayFault}
use Rattle.overlaid_trees.specs.declared.fault.OverlayFault.TheVariants.{Memory}
use Rattle.overlaid_trees.proofs.LocalLemmas.{local-next}
use Rattle.overlaid_trees.proofs.shift.move_local_words.Goals as goal

pub returns-clause-ok : goal.returns-clause-ok
returns-clause-ok c =
    let f = node_of c.args.overlay.now in
    let next = local-next c.args.by c.args.tree.now.tree c.move_words_of.new.tree.tree c.args.overlay.now.tree (f c.in-Some.node) (map f c.as_slice.result.now) c.in-Some.ensures.node (ap (map f) c.as_slice.ensures ∙ c.in_ok-below.ensures.are) c.in_ok-move_words_of.ensures.ok in
    subst (λ (r : Result Tree OverlayFault). OnOk c.move_words_of_all.result (r ≡ Ok c.move_words_of_all.new.tree.tree)) (sym next) c.move_words_of_all.ensures.ok

pub returns-clause-refused : goal.returns-clause-refused
returns-clause-refused c =
    let f = node_of c.args.overlay.now in
    let next = local-next c.args.by c.args.tree.now.tree c.move_words_of.new.tree.tree c.args.overlay.now.tree (f c.in-Some.node) (map f c.as_slice.result.now) c.in-Some.ensures.node (ap (map f) c.as_slice.ensures ∙ c.in_ok-below.ensures.are) c.in_ok-move_words_of.ensures.ok in
    subst (λ (r : Result Tree OverlayFault). IfErr c.move_words_of_all.result (λ fault. (fault ≡ Memory) ⊎ (r ≡ Err fault))) (sym next) c.move_words_of_all.ensures.refused
