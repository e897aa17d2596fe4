use Rattle.std.proofs.Common.{refl}
use Rattle.source_text.proofs.Grown.{grown_close}
use Rattle.source_text.proofs.growing.close.Goals as goal

pub returns-in-Some : goal.returns-in-Some
returns-in-Some c = λ tokens depth i. grown_close tokens depth c.args.growing.now i _ refl c.in-Some.ensures.live c.in-Some.ensures.place
