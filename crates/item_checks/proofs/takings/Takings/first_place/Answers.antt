use Rattle.std.proofs.Common.{sym, ap}
use Rattle.std.specs.Prelude.{option_map}
use Rattle.item_checks.specs.declared.state.Taken.{Taken}
use Rattle.item_checks.proofs.takings.Takings.first_place.Goals as goal

pub returns-then-not-may_take : goal.returns-then-not-may_take
returns-then-not-may_take c =
    sym (ap (option_map (λ (one : Taken). one.item)) (c.may_take.ensures c.if-not-may_take.true))
