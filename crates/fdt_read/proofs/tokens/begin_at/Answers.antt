use Rattle.std.proofs.Common.{ap}
use Rattle.fdt_read.specs.Tokens.{begin_node_at}
use Rattle.fdt_read.proofs.tokens.begin_at.Goals as goal

pub returns-in-None-clause-token : goal.returns-in-None-clause-token
returns-in-None-clause-token c = ap (begin_node_at c.args.stop c.args.offset) c.in-None.ensures.text
