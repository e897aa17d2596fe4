use Rattle.std.proofs.Common.{◌≡◌, ◌+◌, true, false, Bool, Option, get_or, drop, Some, sym, ap, ◌∙◌}
use Rattle.std.specs.Prelude.{option_map}
use Rattle.std.specs.List.{find}
use Rattle.std.proofs.lemmas.List.{drop_more, drop_all}
use Rattle.domain_plan.specs.declared.runs.Run.{Run}
use Rattle.domain_plan.specs.PrivateRuns.{is_run_of}
use Rattle.item_checks.proofs.RegionLemmas.{found, missed}
use Rattle.domain_plan.proofs.runs.run_host.Goals as goal

pub returns-then-is_run_of : goal.returns-then-is_run_of
returns-then-is_run_of c =
    let d : Run = c.run-item.result in
    let es = c.args.runs.now in
    let i = c.loop-run.run-index in
    let test : Run → Bool = is_run_of c.args.id.now in
    let same : d ≡ get_or es i d = c.run-item.is in
    let here : test (get_or es i d) ≡ true = ap test (sym same) ∙ sym c.is_run_of.ensures ∙ c.if-is_run_of.true in
    ap (option_map (λ (run : Run). run.host)) (ap Some same ∙ sym (found test (get_or es i d) (drop (i + 1) es) here) ∙ ap (find test) (sym (drop_more es i d c.loop-run-test.true)) ∙ c.loop-run.invariant)

pub loop-run-preserved : goal.loop-run-preserved
loop-run-preserved c =
    let d : Run = c.run-item.result in
    let es = c.args.runs.now in
    let i = c.loop-run.run-index in
    let test : Run → Bool = is_run_of c.args.id.now in
    let same : d ≡ get_or es i d = c.run-item.is in
    let here : test (get_or es i d) ≡ false = ap test (sym same) ∙ sym c.is_run_of.ensures ∙ c.if-is_run_of.false in
    sym (missed test (get_or es i d) (drop (i + 1) es) here) ∙ ap (find test) (sym (drop_more es i d c.loop-run-test.true)) ∙ c.loop-run.invariant

pub returns : goal.returns
returns c =
    ap (option_map (λ (run : Run). run.host)) (ap (find (is_run_of c.args.id.now)) (sym (drop_all c.loop-run.run-index c.args.runs.now c.loop-run-test.false)) ∙ c.loop-run.invariant)
