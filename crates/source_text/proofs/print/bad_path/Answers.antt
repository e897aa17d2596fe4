use Rattle.std.proofs.Common.{rules, ◌≡◌, ◌∷◌, ◌++◌, ap, sym, ◌∙◌}
use Rattle.fdt_tree.specs.Tree.{Bytes}
use Rattle.fdt_write.specs.Meaning.{meaning}
use Rattle.source_text.proofs.Bad.{first-token, bad-first}
use Rattle.source_text.proofs.print.bad_path.Goals as goal

pub loop-token-init : goal.loop-token-init
loop-token-init c =
    first-token c.args.tree.now.tree c.new-nodes.result c.into_iter-token-iterator.result c.new-nodes.ensures (cc c.new-token-items.ensures)

pub returns-then-branch : goal.returns-then-branch
returns-then-branch c =
    let steps : c.loop-token.token-iterator ≡ meaning c.in-Some.token ∷ c.next.new.self = search rules in
    bad-first c.args.tree.now.tree c.loop-token.nodes c.loop-token.token-iterator c.next.new.self (meaning c.in-Some.token) c.append.new.self c.loop-token.invariant steps (sym c.in_ok-is_bad.ensures.bad ∙ c.if-branch.true) (λ p others e. c.in_ok-append.ensures.ok ∙ (ap (λ (b : Bytes). b ++ c.shown.result.now) c.new-path.ensures ∙ c.shown.ensures p others (c.in_ok-is_bad.ensures.nodes ∙ e)))
