use Rattle.fdt_write.proofs.ReadBack.{is_read_back}
use Rattle.fdt_write.proofs.laws.written_is_read.Goals as goal

pub returns : goal.returns
returns c = is_read_back
