use Rattle.std.proofs.Common.{◌≤◌, arith}
use Rattle.std.proofs.lemmas.Grind.{common_steps}
use Rattle.item_checks.proofs.TakingsLemmas.{clear_past}
use Rattle.item_checks.proofs.takings.may_meet.Goals as goal

pub returns-in-Some : goal.returns-in-Some
returns-in-Some c past =
    let part = c.range.ensures.in_range tt in
    let first = c.from-first.ensures in
    let count = c.from.ensures in
    let short : c.in-Some.last.now ≤ c.args.range.first = grind (arith, common_steps, past, first) in
    clear_past c.args.ends.now c.args.range _ c.in-Some.last.now _ c.requires (part.3 _ _ c.in-Some.ensures.steps).1 short (omega (arith, first, count)) (part.4 _ _ c.in-Some.ensures.steps)
