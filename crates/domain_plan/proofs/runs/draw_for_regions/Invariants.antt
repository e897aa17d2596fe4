use Rattle.std.proofs.Common.{◌≡◌, [], take, drop}
use Rattle.domain_plan.specs.Regions.{runs_drawn}
use Rattle.domain_plan.specs.PrivateRuns.{requests_in}
use Rattle.domain_plan.proofs.RunSteps.{after_runs}
use Rattle.domain_plan.proofs.runs.draw_for_regions.Given as goal

-- what the regions before the index drew, and then the others, is all
abbrev pub invariant-loop-i : goal.invariant-loop-i
invariant-loop-i l = runs_drawn (requests_in [] l.regions) l.initial.pool.free ≡ after_runs l.runs (runs_drawn (requests_in (take l.i l.regions) (drop l.i l.regions)) l.pool.free)
