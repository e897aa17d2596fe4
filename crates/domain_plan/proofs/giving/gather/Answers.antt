use Rattle.std.proofs.Common.{◌≡◌, List, [], ◌++◌, ap, ◌∙◌}
use Rattle.described.specs.declared.map_range.MapRange.{MapRange}
use Rattle.domain_plan.specs.declared.giving.Given.{Given}
use Rattle.domain_plan.specs.GuestMaps.{laid}
use Rattle.domain_plan.specs.PrivateGiving.{Gives}
use Rattle.domain_plan.proofs.GivingLemmas.{gives_none}
use Rattle.domain_plan.proofs.giving.gather.Goals as goal

pub returns : goal.returns
returns c =
    let given : Given = record { state = c.new-given.result.state; ranges = c.lay.new.ranges; said = c.new-given.result.said } in
    let ranges : c.lay.new.ranges.items ≡ laid 0 c.args.drawn.now = c.in_ok-lay.ensures ∙ ap (λ (xs : List MapRange). xs ++ laid 0 c.args.drawn.now) c.new-given.ensures.ranges in
    let first : Gives c.args.number c.args.drawn.now [] given = gives_none c.args.number c.args.drawn.now given c.new-given.ensures.state ranges (c.new-given.ensures.said c.args.number) in
    c.in_ok-give_guest.ensures c.args.drawn.now [] first
