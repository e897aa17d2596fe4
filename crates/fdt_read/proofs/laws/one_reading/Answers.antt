use Rattle.fdt_read.proofs.Decided.{decided}
use Rattle.fdt_read.proofs.laws.one_reading.Goals as goal

pub returns : goal.returns
returns c = decided c.args.bytes.now
