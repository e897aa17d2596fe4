use Rattle.std.proofs.Common.{◌≡◌, ℕ, true, false, Bool, cond, List, [], ◌∷◌, ◌++◌, Ok, Err, refl, sym, ap, ◌∙◌, rules, append-nil}
use Rattle.domain_plan.specs.Regions.{Request, runs_drawn}
use Rattle.domain_plan.specs.PrivateRuns.{is_requested, request_of, asked}
use Rattle.domain_plan.proofs.RunSteps.{nothing_drawn, asked_one, asked_none}
use Rattle.domain_plan.proofs.runs.draw_asked.Goals as goal

pub returns-then-not-is_requested-clause-drawn : goal.returns-then-not-is_requested-clause-drawn
returns-then-not-is_requested-clause-drawn c = (
  [],
  sym (append-nil c.args.runs.now),
  ap (λ (wanted : List Request). runs_drawn wanted c.args.pool.now.free) (asked_none c.args.before.now c.args.region.now (sym c.is_requested.ensures ∙ c.if-not-is_requested.true)) ∙ nothing_drawn c.args.pool.now.free,
)

pub returns-in_err-run-clause-refused : goal.returns-in_err-run-clause-refused
returns-in_err-run-clause-refused c =
    let handed : c.from_residual.result ≡ Err (c.in_err-run.field-0.0) = search rules in
    rw handed (λ item why is.
    ap (λ (wanted : List Request). runs_drawn wanted c.args.pool.now.free) (asked_one c.args.before.now c.args.region.now (sym c.is_requested.ensures ∙ c.if-not-is_requested.false)) ∙ c.in_err-run.ensures.refused item why is)

pub returns-clause-drawn : goal.returns-clause-drawn
returns-clause-drawn c = (
  c.in_ok-run.run' ∷ [],
  c.in_ok-push.ensures.ok,
  ap (λ (wanted : List Request). runs_drawn wanted c.args.pool.now.free) (asked_one c.args.before.now c.args.region.now (sym c.is_requested.ensures ∙ c.if-not-is_requested.false)) ∙ c.in_ok-run.ensures.drawn,
)
