use Rattle.source_text.proofs.Only.{only}
use Rattle.source_text.proofs.laws.one_source.Goals as goal

pub returns : goal.returns
returns c = only
