use Rattle.source_text.proofs.PrintedBack.{read_back}
use Rattle.source_text.proofs.laws.printed_is_read.Goals as goal

pub returns : goal.returns
returns c = read_back
