use Rattle.source_text.proofs.Lined.{first-token}
use Rattle.source_text.proofs.print.append_nodes.Goals as goal

pub loop-token-init : goal.loop-token-init
loop-token-init c =
    first-token c.args.tree.now.tree c.args.out.now c.new-tabs.result c.into_iter-token-iterator.result c.new-tabs.ensures (cc c.new-token-items.ensures)
