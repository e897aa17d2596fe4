use Rattle.std.proofs.Common.{◌≡◌, List, [], ◌∷◌, ◌++◌, sym, subst, ◌∙◌}
use Rattle.described.specs.declared.item.Described.{Described}
use Rattle.item_checks.specs.Taken.{passing}
use Rattle.domain_plan.specs.Regions.{placed_item}
use Rattle.item_checks.specs.Standing.{entry_of}
use Rattle.domain_plan.specs.PrivateGiving.{Gives}
use Rattle.domain_plan.proofs.PlacedGuests.{placed_is}
use Rattle.domain_plan.proofs.giving.give_placed.Goals as goal

pub returns : goal.returns
returns c number drawn before is gives =
    let whole : Described = placed_item c.args.runs.now c.args.described.now in
    let same : c.placed_or-item.result.now ≡ whole = c.placed_or-item.ensures ∙ placed_is c.in_ok-placed.placed c.args.described.now whole c.in_ok-placed.ensures.placed c.in_ok-placed.ensures.stays in
    subst (λ (one : Described). Gives number drawn (before ++ passing before (entry_of c.args.owner one) ∷ []) c.give_item.new.given) same (c.in_ok-give_item.ensures number drawn before is gives)
