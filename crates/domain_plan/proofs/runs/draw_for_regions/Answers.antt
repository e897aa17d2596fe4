use Rattle.std.proofs.Common.{◌≡◌, ℕ, ◌+◌, ◌<◌, ◌≤◌, ◌++◌, List, [], take, drop, length, Ok, Err, refl, sym, ap, ◌∙◌, rules, arith}
use Rattle.domain_plan.specs.Regions.{runs_drawn}
use Rattle.domain_plan.specs.PrivateRuns.{asked, requests_in}
use Rattle.item_checks.specs.declared.state.Region.{Region}
use Rattle.domain_plan.specs.declared.runs.Run.{Run}
use Rattle.domain_plan.proofs.RunSteps.{after_runs, runs_start, region_met, region_unmet, regions_done}
use Rattle.domain_plan.proofs.runs.draw_for_regions.Goals as goal

pub loop-i-init : goal.loop-i-init
loop-i-init c =
    runs_start (runs_drawn (requests_in [] c.args.regions.now) c.args.pool.now.free)
    ∙ ap (λ (all : List Run). after_runs all (runs_drawn (requests_in [] c.args.regions.now) c.args.pool.now.free)) (sym c.new-runs.ensures)

pub loop-i-preserved : goal.loop-i-preserved
loop-i-preserved c =
    let drew = c.in_ok-draw_asked.ensures.drawn in
    c.loop-i.invariant
    ∙ region_met c.args.regions.now c.loop-i.i c.index-regions-i.result c.loop-i.pool.free c.draw_asked.new.pool.free c.loop-i.runs drew.0 c.loop-i-test.true c.index-regions-i.is drew.2
    ∙ ap (λ (all : List Run). after_runs all (runs_drawn (requests_in (take (c.loop-i.i + 1) c.args.regions.now) (drop (c.loop-i.i + 1) c.args.regions.now)) c.draw_asked.new.pool.free)) (sym drew.1)

pub returns-in_err-draw_asked-clause-refused : goal.returns-in_err-draw_asked-clause-refused
returns-in_err-draw_asked-clause-refused c =
    let handed : c.from_residual.result ≡ Err (c.in_err-draw_asked.field-0.0) = search rules in
    rw handed (λ item why is.
    c.loop-i.invariant
    ∙ region_unmet c.args.regions.now c.loop-i.i c.index-regions-i.result c.loop-i.pool.free c.loop-i.runs (item, why) c.loop-i-test.true c.index-regions-i.is (c.in_err-draw_asked.ensures.refused item why is))

pub returns-clause-drawn : goal.returns-clause-drawn
returns-clause-drawn c = c.loop-i.invariant ∙ regions_done c.args.regions.now c.loop-i.i c.loop-i.pool.free c.loop-i.runs c.loop-i-test.false
