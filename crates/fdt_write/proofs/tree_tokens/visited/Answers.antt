use Rattle.std.proofs.Common.{◌∷◌, sym, ap, ◌∙◌}
use Rattle.fdt_read.specs.Tokens.{begin_node}
use Rattle.fdt_write.specs.Left.{left_at}
use Rattle.fdt_write.specs.declared.tree_tokens.Step.TheVariants.{Inside}
use Rattle.fdt_write.proofs.TokenLemmas.{tokens-enter, tokens-leave, entered-live}
use Rattle.fdt_write.proofs.tree_tokens.visited.Goals as goal

pub name-requires : goal.name-requires
name-requires c = entered-live c.args.tree.now c.args.visit c.in-Some.node c.in-Some.ensures c.requires

pub returns-in-Some-clause-token : goal.returns-in-Some-clause-token
returns-in-Some-clause-token c =
    λ left.
    let d = c.args.tree.now in
    let node = c.in-Some.node in
    tokens-enter d c.args.visit node left c.in-Some.ensures ∙ ap (λ name. begin_node name ∷ left_at d left (Inside node 0)) (sym c.name.ensures)

pub returns-in-Some-clause-live : goal.returns-in-Some-clause-live
returns-in-Some-clause-live c = entered-live c.args.tree.now c.args.visit c.in-Some.node c.in-Some.ensures c.requires

pub returns-in-None-clause-token : goal.returns-in-None-clause-token
returns-in-None-clause-token c = λ left. tokens-leave c.args.tree.now c.args.visit left c.in-None.ensures
