use Rattle.fdt_read.proofs.Decided.{says_nothing}
use Rattle.fdt_read.proofs.NoLastPair.{none_read_ends}
use Rattle.fdt_read.proofs.flat.read.Goals as goal

pub returns-clause-nothing : goal.returns-clause-nothing
returns-clause-nothing c = says_nothing c.args.bytes.now c.flat_of.result c.flat_of.ensures.refused

pub returns-clause-reserved : goal.returns-clause-reserved
returns-clause-reserved c = none_read_ends c.args.bytes.now c.flat_of.result c.flat_of.ensures.read
