use Rattle.std.proofs.Common.{sym}
use Rattle.fdt_read.proofs.Texts.{no_nul-before}
use Rattle.fdt_read.proofs.tokens.text_of.Goals as goal

pub returns-in-Some-clause-no_nul : goal.returns-in-Some-clause-no_nul
returns-in-Some-clause-no_nul c = no_nul-before c.args.bytes.now c.in-Some.index (sym c.in-Some.ensures.place)
