use Rattle.std.proofs.Common.{◌≡◌, ℕ, List, [], map, Vec, Global, Option, Some, None, Result, Ok, Err, rules, refl, sym, ap, ◌∙◌, arith}
use Rattle.texts.specs.declared.ranges.FrameRange.{FrameRange}
use Rattle.domain_bindings.specs.declared.host.Host.{Host}
use Rattle.described.specs.declared.loaded.Loaded.{Loaded}
use Rattle.item_checks.specs.declared.guests.Guest.{Guest}
use Rattle.item_checks.specs.Entries.{joined}
use Rattle.item_checks.specs.Refusals.{Refusal, first_refused}
use Rattle.domain_plan.specs.Draws.{free_frames, heaps}
use Rattle.item_checks.specs.Taken.{passed_of}
use Rattle.domain_plan.specs.Plans.{Draws, placed_of, and_heaps, draws_after, draws, outcome, unless_refused}
use Rattle.domain_plan.proofs.ClearLemmas.{all_clear}
use Rattle.domain_plan.proofs.LayoutLemmas.{plans_laid}
use Rattle.domain_plan.proofs.LowClaims.{all_claims_low}
use Rattle.domain_plan.proofs.RunSteps.{all_some, ran_for}
use Rattle.domain_plan.proofs.planning.plan.Goals as goal

-- the outcome, where an item is refused, and where none is
item_refused : (host : Host) (loads : List Loaded) (guests : List Guest) (refusal : Refusal) → first_refused host [] (joined host loads guests) ≡ Some refusal → outcome host loads guests ≡ Err refusal
unfolding outcome
item_refused host loads guests refusal some = ap (λ (o : Option Refusal). unless_refused o (draws guests host.ram (passed_of host loads guests))) some

none_refused : (host : Host) (loads : List Loaded) (guests : List Guest) (o : Result Draws Refusal) → first_refused host [] (joined host loads guests) ≡ None → draws guests host.ram (passed_of host loads guests) ≡ o → outcome host loads guests ≡ o
unfolding outcome
none_refused host loads guests o none drew = ap (λ (one : Option Refusal). unless_refused one (draws guests host.ram (passed_of host loads guests))) none ∙ drew

pub returns-in_err-state-clause-refused : goal.returns-in_err-state-clause-refused
returns-in_err-state-clause-refused c =
    let handed : c.from_residual.result ≡ Err (c.in_err-state.field-0.0) = search rules in
    rw handed (λ item why is. item_refused c.args.host.now c.args.loads.now c.args.guests.now (item, why) (c.in_err-state.ensures.refused item why is))

pub free_pool-requires-clause-low : goal.free_pool-requires-clause-low
free_pool-requires-clause-low c k d under =
    all_claims_low c.claims.result.now (joined c.args.host.now c.args.loads.now c.args.guests.now) (c.claims.ensures c.in_ok-state.ensures.passed.0 (passed_of c.args.host.now c.args.loads.now c.args.guests.now) c.in_ok-state.ensures.passed.1) k d under

pub draw_for_regions-requires : goal.draw_for_regions-requires
draw_for_regions-requires c =
    let entries = joined c.args.host.now c.args.loads.now c.args.guests.now in
    all_some c.regions.result.now (passed_of c.args.host.now c.args.loads.now c.args.guests.now) (c.regions.ensures c.in_ok-state.ensures.passed.0 (passed_of c.args.host.now c.args.loads.now c.args.guests.now) c.in_ok-state.ensures.passed.1)
    (λ k p at. (all_clear c.args.host.now [] entries c.in_ok-state.ensures.clear c.requires.items k p (omega arith) at).1.sound)

pub returns-in_err-runs-clause-refused : goal.returns-in_err-runs-clause-refused
returns-in_err-runs-clause-refused c =
    let handed : c.from_residual-in_err-runs.result ≡ Err (c.in_err-runs.field-0.0) = search rules in
    let passed = passed_of c.args.host.now c.args.loads.now c.args.guests.now in
    let free : c.in_ok-pool.pool.free ≡ free_frames c.args.host.now.ram (passed_of c.args.host.now c.args.loads.now c.args.guests.now) = c.in_ok-pool.ensures passed (c.claims.ensures c.in_ok-state.ensures.passed.0 (passed_of c.args.host.now c.args.loads.now c.args.guests.now) c.in_ok-state.ensures.passed.1) in
    rw handed (λ item why is. none_refused c.args.host.now c.args.loads.now c.args.guests.now (Err (item, why)) c.in_ok-state.ensures.clear
    (ap (draws_after c.args.guests.now) (ran_for c.args.host.now.ram passed c.regions.result.now c.in_ok-pool.pool.free (Err (item, why)) (c.regions.ensures c.in_ok-state.ensures.passed.0 (passed_of c.args.host.now c.args.loads.now c.args.guests.now) c.in_ok-state.ensures.passed.1) free (c.in_err-runs.ensures.refused item why is))))

pub returns-in_err-drawn-clause-refused : goal.returns-in_err-drawn-clause-refused
returns-in_err-drawn-clause-refused c =
    let handed : c.from_residual-in_err-drawn.result ≡ Err (c.in_err-drawn.field-0.0) = search rules in
    let passed = passed_of c.args.host.now c.args.loads.now c.args.guests.now in
    let free : c.in_ok-pool.pool.free ≡ free_frames c.args.host.now.ram (passed_of c.args.host.now c.args.loads.now c.args.guests.now) = c.in_ok-pool.ensures passed (c.claims.ensures c.in_ok-state.ensures.passed.0 (passed_of c.args.host.now c.args.loads.now c.args.guests.now) c.in_ok-state.ensures.passed.1) in
    let ran = ran_for c.args.host.now.ram passed c.regions.result.now c.in_ok-pool.pool.free (Ok (record { runs = c.in_ok-runs.runs; left = c.draw_for_regions.new.pool.free })) (c.regions.ensures c.in_ok-state.ensures.passed.0 (passed_of c.args.host.now c.args.loads.now c.args.guests.now) c.in_ok-state.ensures.passed.1) free c.in_ok-runs.ensures.drawn in
    rw handed (λ item why is. none_refused c.args.host.now c.args.loads.now c.args.guests.now (Err (item, why)) c.in_ok-state.ensures.clear
    (ap (draws_after c.args.guests.now) ran ∙ ap (and_heaps c.in_ok-runs.runs) (ap (λ (guests : List Guest). heaps guests c.draw_for_regions.new.pool.free) (sym c.as_slice.ensures) ∙ c.in_err-drawn.ensures.refused item why is)))

pub returns-clause-planned : goal.returns-clause-planned
returns-clause-planned c =
    let passed = passed_of c.args.host.now c.args.loads.now c.args.guests.now in
    let free : c.in_ok-pool.pool.free ≡ free_frames c.args.host.now.ram (passed_of c.args.host.now c.args.loads.now c.args.guests.now) = c.in_ok-pool.ensures passed (c.claims.ensures c.in_ok-state.ensures.passed.0 (passed_of c.args.host.now c.args.loads.now c.args.guests.now) c.in_ok-state.ensures.passed.1) in
    let ran = ran_for c.args.host.now.ram passed c.regions.result.now c.in_ok-pool.pool.free (Ok (record { runs = c.in_ok-runs.runs; left = c.draw_for_regions.new.pool.free })) (c.regions.ensures c.in_ok-state.ensures.passed.0 (passed_of c.args.host.now c.args.loads.now c.args.guests.now) c.in_ok-state.ensures.passed.1) free c.in_ok-runs.ensures.drawn in
    let all : Draws = record { runs = c.in_ok-runs.runs; heaps = record { drawn = map (λ (frames : Vec FrameRange Global). frames.items) c.in_ok-drawn.drawn; left = c.draw_for_guests.new.pool.free } } in (
      all,
      none_refused c.args.host.now c.args.loads.now c.args.guests.now (Ok all) c.in_ok-state.ensures.clear
          (ap (draws_after c.args.guests.now) ran ∙ ap (and_heaps c.in_ok-runs.runs) (ap (λ (guests : List Guest). heaps guests c.draw_for_regions.new.pool.free) (sym c.as_slice.ensures) ∙ c.in_ok-drawn.ensures.drawn)),
      refl,
      c.in_ok-guests.ensures,
    )

pub guest_plans-requires-clause-drawn : goal.guest_plans-requires-clause-drawn
guest_plans-requires-clause-drawn c =
    let passed = passed_of c.args.host.now c.args.loads.now c.args.guests.now in
    let free : c.in_ok-pool.pool.free ≡ free_frames c.args.host.now.ram (passed_of c.args.host.now c.args.loads.now c.args.guests.now) = c.in_ok-pool.ensures passed (c.claims.ensures c.in_ok-state.ensures.passed.0 (passed_of c.args.host.now c.args.loads.now c.args.guests.now) c.in_ok-state.ensures.passed.1) in
    let ran = ran_for c.args.host.now.ram passed c.regions.result.now c.in_ok-pool.pool.free (Ok (record { runs = c.in_ok-runs.runs; left = c.draw_for_regions.new.pool.free })) (c.regions.ensures c.in_ok-state.ensures.passed.0 (passed_of c.args.host.now c.args.loads.now c.args.guests.now) c.in_ok-state.ensures.passed.1) free c.in_ok-runs.ensures.drawn in (
      c.draw_for_guests.new.pool.free,
      ap (draws_after c.args.guests.now) ran ∙ ap (and_heaps c.in_ok-runs.runs) (ap (λ (guests : List Guest). heaps guests c.draw_for_regions.new.pool.free) (sym c.as_slice.ensures) ∙ c.in_ok-drawn.ensures.drawn),
    )

pub returns-clause-layouts : goal.returns-clause-layouts
returns-clause-layouts c =
    plans_laid c.args.host.now c.requires.devices (placed_of c.in_ok-runs.runs c.args.host.now c.args.loads.now c.args.guests.now) 0 c.args.guests.now
    (map (λ (frames : Vec FrameRange Global). frames.items) c.in_ok-drawn.drawn) c.in_ok-guests.guests c.in_ok-guests.ensures
