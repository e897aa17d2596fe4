use Rattle.std.proofs.Common.{map, take, Vec, Global}
use Rattle.texts.specs.declared.ranges.FrameRange.{FrameRange}
use Rattle.domain_plan.specs.Plans.{placed_of, AreGuestPlans}
use Rattle.domain_plan.proofs.planning.guest_plans.Given as goal

-- the guests before the index have their plans
abbrev pub invariant-loop-i : goal.invariant-loop-i
invariant-loop-i l = AreGuestPlans l.fn.host (placed_of l.fn.runs l.fn.host l.fn.loads l.fn.guests) 0 (take l.i l.guests) (map (λ (frames : Vec FrameRange Global). frames.items) (take l.i l.drawn)) l.plans
