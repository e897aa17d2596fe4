use Rattle.std.proofs.Common.{◌∙◌, ap, sym, map, ℕ}
use Rattle.fdt_nodes.specs.Nodes.{Node}
use Rattle.fdt_nodes.specs.Held.{node_of}
use Rattle.domain_bindings.specs.Modules.{first_of_kind, kind_of}
use Rattle.domain_bindings.proofs.FirstLemmas.{kept_first, left_first, met_before, met_other}
use Rattle.domain_bindings.proofs.modules.note_kind.Goals as goal
use Rattle.domain_bindings.proofs.modules.note_kind.Goals.{else-is_one_of_three-via-then-is_one_of_three+else-is_none, else-is_one_of_three-via-else-is_one_of_three}

pub returns-in_ok-push-clause-firsts : goal.returns-in_ok-push-clause-firsts
returns-in_ok-push-clause-firsts c = λ earlier are. kept_first c.args.tree.now earlier c.args.firsts.now.items _ c.args.node are c.in_ok-push.ensures.items

pub returns-else-is_one_of_three-clause-firsts : goal.returns-else-is_one_of_three-clause-firsts
returns-else-is_one_of_three-clause-firsts c = λ earlier are.
    let f : ℕ → Node = node_of c.args.tree.now in
    let kind = kind_of (f c.args.node) in
    left_first c.args.tree.now earlier c.args.firsts.now.items c.args.node are (elim c.else-is_one_of_three.branch [
      | else-is_one_of_three-via-then-is_one_of_three+else-is_none w ↦
          met_before kind f w.first_of_kind.result (first_of_kind kind (map f c.args.firsts.now.items)) w.if-is_none.ensures
          (w.first_of_kind.ensures.first ∙ ap (λ k. first_of_kind k (map f w.deref.result.now)) c.kind_of-kind.ensures ∙ ap (λ l. first_of_kind kind (map f l)) w.deref.ensures.value)
      | else-is_one_of_three-via-else-is_one_of_three w ↦
          met_other c.kind_of-kind.result kind (first_of_kind kind (map f c.args.firsts.now.items)) c.kind_of-kind.ensures (sym w.if-is_one_of_three.ensures)
    ])
