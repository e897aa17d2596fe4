use Rattle.fdt_read.proofs.Reserved.{pair_read}
use Rattle.fdt_read.proofs.reservations.pair_at.Goals as goal

pub returns : goal.returns
returns c = pair_read c.args.block.now c.args.offset _ _ c.wide_of.ensures c.wide_of-2.ensures
