use Rattle.std.proofs.Common.{◌≡◌, ◌∙◌, sym}
use Rattle.domain_plan.proofs.PlacedGuests.{host_stays, run_places}
use Rattle.domain_plan.proofs.runs.placed_item.Goals as goal

pub returns-then-is_some-clause-stays : goal.returns-then-is_some-clause-stays
returns-then-is_some-clause-stays c none =
    host_stays c.args.runs.now c.args.described.now c.in-Shared.id c.in-Shared.host c.in-Shared.guest c.in-Shared.size c.in-Shared.owner c.in-Shared.is (sym c.is_some.ensures ∙ c.if-is_some.true)

pub returns-in_ok-own-in-Shared-clause-placed : goal.returns-in_ok-own-in-Shared-clause-placed
returns-in_ok-own-in-Shared-clause-placed c =
    rw (c.in_ok-item-in-Shared.ensures, c.in_ok-own-in-Shared.ensures, c.in_ok-name-in-Shared.ensures, c.run_host-base.ensures, c.as_slice.ensures)
    (sym (run_places c.args.runs.now c.args.described.now c.in-Shared.id c.in-Shared.host c.in-Shared.guest c.in-Shared.size c.in-Shared.owner c.in-Shared.is (sym c.is_some.ensures ∙ c.if-is_some.false)))
