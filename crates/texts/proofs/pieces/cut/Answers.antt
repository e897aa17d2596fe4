use Rattle.std.proofs.Common.{sym, ◌∙◌}
use Rattle.texts.proofs.Cuts.{uncut, cut_at}
use Rattle.texts.proofs.pieces.cut.Goals as goal

pub returns-in-None-clause-parts : goal.returns-in-None-clause-parts
returns-in-None-clause-parts c = uncut _ _ (sym c.mark_at.ensures.place ∙ c.in-None.is)

pub returns-in-Some-clause-parts : goal.returns-in-Some-clause-parts
returns-in-Some-clause-parts c = cut_at _ _ _ (sym c.mark_at.ensures.place ∙ c.in-Some.is)
