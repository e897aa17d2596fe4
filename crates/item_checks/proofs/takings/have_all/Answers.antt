use Rattle.std.proofs.Common.{arith}
use Rattle.std.proofs.lemmas.Grind.{common_steps}
use Rattle.item_checks.proofs.TakingsLemmas.{all_end}
use Rattle.item_checks.proofs.takings.have_all.Goals as goal

pub returns-in-Some-clause-no : goal.returns-in-Some-clause-no
returns-in-Some-clause-no c short one last has by =
    let part = c.range.ensures.in_range tt in
    all_end c.args.ends.now c.args.first c.args.end _ c.in-Some.last.now one last c.requires (part.3 _ _ c.in-Some.ensures.steps).1 (grind (arith, common_steps, short)) (part.4 _ _ c.in-Some.ensures.steps) has by
