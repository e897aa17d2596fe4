use Rattle.std.proofs.Common.{◌≡◌, ℕ, ◌+◌, ◌*◌, ◌/◌, ◌^◌, ◌≤◌, List, [], ◌∷◌, length, Some, None, Ok, Err, refl, sym, ap, ◌∙◌, arith}
use Rattle.described.specs.declared.item.Item.{Item}
use Rattle.described.specs.declared.why.Why.{Why}
use Rattle.described.specs.declared.why.Why.TheVariants.{NoRam}
use Rattle.frame_alloc.specs.Frames.{lowest_run}
use Rattle.frame_alloc.proofs.AscendingFrames.{lowest_run-bound}
use Rattle.item_checks.specs.declared.faults.PlanFault.{PlanFault}
use Rattle.item_checks.specs.declared.faults.PlanFault.TheVariants as faults
use Rattle.domain_plan.specs.Regions.{Request, region_item}
use Rattle.domain_plan.specs.PrivateRuns.{request_of}
use Rattle.domain_plan.specs.declared.runs.Run.{Run}
use Rattle.domain_plan.proofs.RunSteps.{drawn_one, short_one}
use Rattle.domain_plan.proofs.runs.draw_run.Goals as goal

pub overflow_mul-host : goal.overflow_mul-host
overflow_mul-host c =
    let bound = lowest_run-bound (c.args.region.now.size / 4096) c.args.pool.now.free c.in-Ok.first c.requires c.free_frames-free.ensures.ascending c.in-Ok.ensures.run in
    omega (arith, bound)

pub returns-in_ok-id-in-Ok-clause-drawn : goal.returns-in_ok-id-in-Ok-clause-drawn
returns-in_ok-id-in-Ok-clause-drawn c =
    let request : Request = request_of c.args.region.now in
    let run : Run = record { id = c.in_ok-id-in-Ok.id; host = c.in-Ok.first * 4096 } in
    drawn_one request c.args.pool.now.free c.in-Ok.first c.in_ok-id-in-Ok.id (c.in-Ok.first * 4096) c.in-Ok.ensures.run c.in_ok-id-in-Ok.ensures refl
    ∙ ap (λ (left : List ℕ). Ok (record { runs = run ∷ []; left = left })) (sym c.in-Ok.ensures.ok)

pub returns-in_ok-no_run-in-Err-NoRun-clause-refused : goal.returns-in_ok-no_run-in-Err-NoRun-clause-refused
returns-in_ok-no_run-in-Err-NoRun-clause-refused c item why is =
    let request : Request = request_of c.args.region.now in
    let none : lowest_run (c.args.region.now.size / 4096) c.args.pool.now.free ≡ None = (rw c.in-Err-NoRun.field-0-is at c.in-Err-NoRun.ensures.none) refl in
    let made : faults.Refused (region_item request) (NoRam request.count c.free_frames-free.result) ≡ faults.Refused item why = sym c.in_ok-no_run-in-Err-NoRun.ensures ∙ is in
    let same_item : region_item request ≡ item = cc in
    let same_why : NoRam request.count c.free_frames-free.result ≡ why = cc in
    short_one request c.args.pool.now.free none
    ∙ ap (λ (n : ℕ). Err (region_item request, NoRam request.count n)) (sym c.free_frames-free.ensures.count)
    ∙ ap (λ (one : Item). Err (one, NoRam request.count c.free_frames-free.result)) same_item
    ∙ ap (λ (reason : Why). Err (item, reason)) same_why
