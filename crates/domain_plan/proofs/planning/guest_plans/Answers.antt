use Rattle.std.proofs.Common.{◌≡◌, ◌<◌, ◌≤◌, List, [], map, Vec, Global, Some, length, sym, ap, subst, ◌∙◌, arith}
use Rattle.std.specs.Prelude.{slice_get}
use Rattle.texts.specs.declared.ranges.FrameRange.{FrameRange}
use Rattle.item_checks.specs.declared.guests.Guest.{Guest}
use Rattle.item_checks.specs.Entries.{of_guest, is_read, items_of}
use Rattle.item_checks.specs.Taken.{all_passed}
use Rattle.domain_plan.specs.Plans.{Draws, placed_of, IsGuestPlan, AreGuestPlans}
use Rattle.domain_plan.specs.PrivateGiving.{IsReady}
use Rattle.domain_plan.specs.Regions.{placed_item}
use Rattle.domain_plan.specs.declared.runs.Run.{Run}
use Rattle.domain_plan.proofs.OwnItems.{plan_by_own}
use Rattle.domain_plan.proofs.PlacedGuests.{placed_items}
use Rattle.domain_plan.proofs.PlacedLaws.{drew_of, ready_placed, own_placed}
use Rattle.domain_plan.proofs.ReadyLemmas.{item_at, drawn_at, as_many, plans_next, plans_all}
use Rattle.domain_plan.proofs.planning.guest_plans.Goals as goal

pub bounds-drawn-i : goal.bounds-drawn-i
bounds-drawn-i c =
    let many : length c.args.drawn.now ≡ length c.args.guests.now = let told = drew_of c.args.host.now c.args.loads.now c.args.guests.now (record { runs = c.args.runs.now; heaps = record { drawn = map (λ (frames : Vec FrameRange Global). frames.items) c.args.drawn.now; left = c.requires.drawn.0 } }) c.requires.clear c.requires.drawn.1 in as_many c.args.drawn.now c.args.guests.now told.left c.requires.drawn.0 told.drew in
    let guests : length c.as_slice-guests.result.now ≡ length c.args.guests.now = ap length c.as_slice-guests.ensures in
    let drawn : length c.as_slice-drawn.result.now ≡ length c.args.drawn.now = ap length c.as_slice-drawn.ensures in
    let low : c.loop-i.i < length c.as_slice-guests.result.now = c.loop-i-test.true in
    omega arith

pub guest_plan-requires : goal.guest_plan-requires
guest_plan-requires c =
    let many : length c.args.drawn.now ≡ length c.args.guests.now = let told = drew_of c.args.host.now c.args.loads.now c.args.guests.now (record { runs = c.args.runs.now; heaps = record { drawn = map (λ (frames : Vec FrameRange Global). frames.items) c.args.drawn.now; left = c.requires.drawn.0 } }) c.requires.clear c.requires.drawn.1 in as_many c.args.drawn.now c.args.guests.now told.left c.requires.drawn.0 told.drew in
    let guests : length c.as_slice-guests.result.now ≡ length c.args.guests.now = ap length c.as_slice-guests.ensures in
    let drawn : length c.as_slice-drawn.result.now ≡ length c.args.drawn.now = ap length c.as_slice-drawn.ensures in
    let low : c.loop-i.i < length c.as_slice-guests.result.now = c.loop-i-test.true in
    let low_drawn : c.loop-i.i < length c.as_slice-drawn.result.now = omega arith in
    let all : Draws = record { runs = c.args.runs.now; heaps = record { drawn = map (λ (frames : Vec FrameRange Global). frames.items) c.args.drawn.now; left = c.requires.drawn.0 } } in
    let drew = drew_of c.args.host.now c.args.loads.now c.args.guests.now all c.requires.clear c.requires.drawn.1 in
    let at : slice_get c.args.guests.now c.loop-i.i ≡ Some c.index-guests-i.result =
    ap (λ (xs : List Guest). slice_get xs c.loop-i.i) (sym c.as_slice-guests.ensures) ∙ item_at c.as_slice-guests.result.now c.loop-i.i c.index-guests-i.result low c.index-guests-i.is in
    let at_drawn : slice_get (map (λ (frames : Vec FrameRange Global). frames.items) c.args.drawn.now) c.loop-i.i ≡ Some c.as_slice.result.now =
    ap (λ (xs : List (Vec FrameRange Global)). slice_get (map (λ (frames : Vec FrameRange Global). frames.items) xs) c.loop-i.i) (sym c.as_slice-drawn.ensures)
    ∙ drawn_at c.as_slice-drawn.result.now c.loop-i.i c.index-drawn-i.result c.as_slice.result.now low_drawn c.index-drawn-i.is c.as_slice.ensures.value in
    subst (λ (runs : List Run). IsReady c.loop-i.i c.index-guests-i.result (map (placed_item runs) (items_of c.index-guests-i.result)) c.as_slice.result.now) (sym c.as_slice-runs.ensures)
    (ready_placed c.args.host.now c.args.loads.now c.args.guests.now all c.requires.read drew c.loop-i.i c.index-guests-i.result c.as_slice.result.now at at_drawn)

pub loop-i-preserved : goal.loop-i-preserved
loop-i-preserved c =
    let many : length c.args.drawn.now ≡ length c.args.guests.now = let told = drew_of c.args.host.now c.args.loads.now c.args.guests.now (record { runs = c.args.runs.now; heaps = record { drawn = map (λ (frames : Vec FrameRange Global). frames.items) c.args.drawn.now; left = c.requires.drawn.0 } }) c.requires.clear c.requires.drawn.1 in as_many c.args.drawn.now c.args.guests.now told.left c.requires.drawn.0 told.drew in
    let guests : length c.as_slice-guests.result.now ≡ length c.args.guests.now = ap length c.as_slice-guests.ensures in
    let drawn : length c.as_slice-drawn.result.now ≡ length c.args.drawn.now = ap length c.as_slice-drawn.ensures in
    let low : c.loop-i.i < length c.as_slice-guests.result.now = c.loop-i-test.true in
    let low_drawn : c.loop-i.i < length c.as_slice-drawn.result.now = omega arith in
    let at : slice_get c.args.guests.now c.loop-i.i ≡ Some c.index-guests-i.result =
    ap (λ (xs : List Guest). slice_get xs c.loop-i.i) (sym c.as_slice-guests.ensures) ∙ item_at c.as_slice-guests.result.now c.loop-i.i c.index-guests-i.result low c.index-guests-i.is in
    plans_next c.args.host.now (placed_of c.args.runs.now c.args.host.now c.args.loads.now c.args.guests.now) c.as_slice-guests.result.now c.as_slice-drawn.result.now c.loop-i.i c.index-guests-i.result c.index-drawn-i.result c.as_slice.result.now c.loop-i.plans c.push.new.self c.in_ok-plan.plan
    low low_drawn c.index-guests-i.is c.index-drawn-i.is c.as_slice.ensures.value c.in_ok-push.ensures.ok c.loop-i.invariant
    (plan_by_own c.args.host.now (placed_of c.args.runs.now c.args.host.now c.args.loads.now c.args.guests.now) (all_passed [] (of_guest c.loop-i.i (is_read c.index-guests-i.result.partial) (placed_items c.args.runs.now (items_of c.index-guests-i.result)))) c.loop-i.i c.index-guests-i.result c.as_slice.result.now c.in_ok-plan.plan
    (own_placed c.args.runs.now c.args.host.now c.args.loads.now c.args.guests.now c.loop-i.i c.index-guests-i.result at)
    (subst (λ (runs : List Run). IsGuestPlan c.args.host.now (all_passed [] (of_guest c.loop-i.i (is_read c.index-guests-i.result.partial) (map (placed_item runs) (items_of c.index-guests-i.result)))) c.loop-i.i c.index-guests-i.result c.as_slice.result.now c.in_ok-plan.plan)
    c.as_slice-runs.ensures c.in_ok-plan.ensures))

pub returns : goal.returns
returns c =
    let many : length c.args.drawn.now ≡ length c.args.guests.now = let told = drew_of c.args.host.now c.args.loads.now c.args.guests.now (record { runs = c.args.runs.now; heaps = record { drawn = map (λ (frames : Vec FrameRange Global). frames.items) c.args.drawn.now; left = c.requires.drawn.0 } }) c.requires.clear c.requires.drawn.1 in as_many c.args.drawn.now c.args.guests.now told.left c.requires.drawn.0 told.drew in
    let guests : length c.as_slice-guests.result.now ≡ length c.args.guests.now = ap length c.as_slice-guests.ensures in
    let drawn : length c.as_slice-drawn.result.now ≡ length c.args.drawn.now = ap length c.as_slice-drawn.ensures in
    let past : length c.as_slice-guests.result.now ≤ c.loop-i.i = c.loop-i-test.false in
    let past_drawn : length c.as_slice-drawn.result.now ≤ c.loop-i.i = omega arith in
    let passed = placed_of c.args.runs.now c.args.host.now c.args.loads.now c.args.guests.now in
    subst (λ (xs : List Guest). AreGuestPlans c.args.host.now (placed_of c.args.runs.now c.args.host.now c.args.loads.now c.args.guests.now) 0 xs (map (λ (frames : Vec FrameRange Global). frames.items) c.args.drawn.now) c.loop-i.plans) c.as_slice-guests.ensures
    (subst (λ (xs : List (Vec FrameRange Global)). AreGuestPlans c.args.host.now (placed_of c.args.runs.now c.args.host.now c.args.loads.now c.args.guests.now) 0 c.as_slice-guests.result.now (map (λ (frames : Vec FrameRange Global). frames.items) xs) c.loop-i.plans) c.as_slice-drawn.ensures
    (plans_all c.args.host.now passed c.as_slice-guests.result.now c.as_slice-drawn.result.now c.loop-i.i c.loop-i.plans past past_drawn c.loop-i.invariant))
