use Rattle.std.proofs.Common.{ap, ◌∙◌}
use Rattle.fdt_write.specs.Left.{left_at}
use Rattle.fdt_write.proofs.TokenLemmas.{property-next}
use Rattle.fdt_write.proofs.tree_tokens.next_token.Goals as goal

pub returns-then-index-prop_count-clause-token : goal.returns-then-index-prop_count-clause-token
returns-then-index-prop_count-clause-token c =
    let d = c.args.tree.now in
    ap (left_at d c.args.walk.now) c.in-Inside.is ∙ property-next d c.args.walk.now c.in-Inside.node c.in-Inside.index c.prop_at.result.0.now c.prop_at.result.1.now c.prop_at.ensures
