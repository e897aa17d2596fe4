use Rattle.fdt_listing.proofs.Listed.{first-token}
use Rattle.fdt_listing.proofs.listing.append_nodes.Goals as goal

pub loop-token-init : goal.loop-token-init
loop-token-init c =
    first-token c.args.tree.now.tree c.args.out.now c.new-nodes.result c.into_iter-token-iterator.result c.new-nodes.ensures (cc c.new-token-items.ensures)
