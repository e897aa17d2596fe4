use Rattle.std.proofs.Common.{[], ◌∷◌, not, Option, sym, ap}
use Rattle.std.specs.Prelude.{option_map, option_and_then, slice_get}
use Rattle.frame_alloc.specs.Ranges.{have_common}
use Rattle.item_checks.specs.declared.state.Taken.{Taken}
use Rattle.item_checks.specs.PrivateStanding.{is_region_at}
use Rattle.item_checks.proofs.TakingsLemmas.{none_of_kind}
use Rattle.item_checks.proofs.regions.first_other_item.Goals as goal

pub returns-then-not-may_take : goal.returns-then-not-may_take
returns-then-not-may_take c =
    let none = none_of_kind (λ (one : Taken). have_common (one.range ∷ []) c.args.ranges.now) (λ (one : Taken). not (is_region_at c.args.id.now one.item c.args.regions.now)) c.args.taken.now (c.may_take.ensures c.if-not-may_take.true) in
    sym (ap (λ (o : Option Taken). option_and_then (slice_get c.args.items.now) (option_map (λ (one : Taken). one.item) o)) none)
