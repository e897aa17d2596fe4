use Rattle.std.proofs.Common.{ℕ, true, false, Option, sym, ap, ◌∙◌}
use Rattle.std.specs.Prelude.{option_map}
use Rattle.described.specs.declared.why.Why.{Why}
use Rattle.item_checks.specs.declared.state.Region.{Region}
use Rattle.item_checks.proofs.RegionLemmas.{inner, differs, differs_found, differs_is}
use Rattle.item_checks.proofs.state.State.unlike_first.Goals as goal

abbrev told : Option ℕ → ℕ → Option Region → Option Why
told host size region = inner (option_map (differs host size) region)

pub returns-in-None : goal.returns-in-None
returns-in-None c before stands =
    ap (told c.args.host c.args.size) c.in-None.ensures ∙ rw (c.as_slice.ensures.value, stands.regions) (differs_found c.args.id.now c.args.owner.guest c.args.host c.args.size before)

pub returns-then-is_unlike : goal.returns-then-is_unlike
returns-then-is_unlike c before stands =
    differs_is true c.args.host c.args.size c.in-Some.region.now (sym c.is_unlike.ensures ∙ c.if-is_unlike.true)
    ∙ ap (told c.args.host c.args.size) c.in-Some.ensures ∙ rw (c.as_slice.ensures.value, stands.regions) (differs_found c.args.id.now c.args.owner.guest c.args.host c.args.size before)

pub returns-else-is_unlike : goal.returns-else-is_unlike
returns-else-is_unlike c before stands =
    differs_is false c.args.host c.args.size c.in-Some.region.now (sym c.is_unlike.ensures ∙ c.if-is_unlike.false)
    ∙ ap (told c.args.host c.args.size) c.in-Some.ensures ∙ rw (c.as_slice.ensures.value, stands.regions) (differs_found c.args.id.now c.args.owner.guest c.args.host c.args.size before)
