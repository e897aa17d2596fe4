use Rattle.source_text.proofs.Grown.{grown_open}
use Rattle.source_text.proofs.growing.open.Goals as goal

pub returns-in-Ok : goal.returns-in-Ok
returns-in-Ok c = λ tokens depth i. grown_open tokens depth c.args.growing.now i c.args.name.now _ c.in-Ok.ensures.ok c.in-Ok.ensures.newest
