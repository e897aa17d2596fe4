use Rattle.fdt_write.proofs.TokenLemmas.{tokens-whole}
use Rattle.fdt_write.proofs.tree_tokens.TreeTokens.new.Goals as goal

pub returns : goal.returns
returns c = tokens-whole c.args.tree.now c.new.result c.new.ensures.visits
