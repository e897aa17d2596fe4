use Rattle.std.proofs.Common.{sym, arith}
use Rattle.frame_alloc.specs.Frames.{begins_run}
use Rattle.frame_alloc.specs.Extents.{frames_of}
use Rattle.frame_alloc.specs.Slots.{extents_in}
use Rattle.frame_alloc.proofs.LowestRuns.{run_found, run_past, run_none}
use Rattle.frame_alloc.proofs.Searches.{search-begins, search-below, search-turn}
use Rattle.frame_alloc.proofs.groups.lowest_run.Goals as goal

pub loop-at-init : goal.loop-at-init
loop-at-init c = search-begins (begins_run c.args.count (frames_of (extents_in c.args.list.now))) c.args.list.now c.requires.whole

pub index-slot-requires : goal.index-slot-requires
index-slot-requires c =
    let low = search-below (begins_run c.args.count (frames_of (extents_in c.args.list.now))) c.args.list.now c.loop-at.at c.in-Some.index c.loop-at.invariant c.in-Some.is in
    omega (arith, low, c.args.list.now.slots.ok.0)

pub loop-at-preserved : goal.loop-at-preserved
loop-at-preserved c =
    let turn = search-turn (begins_run c.args.count (frames_of (extents_in c.args.list.now))) c.args.list.now c.loop-at.at c.in-Some.index c.index-slot.result.now c.loop-at.invariant c.in-Some.is c.index-slot.ensures in
    let short = c.if-count-extent.false in
    run_past c.args.count c.args.list.now c.loop-at.at c.index-slot.result.now turn (omega (arith, short))

pub loop-at-smaller : goal.loop-at-smaller
loop-at-smaller c =
    let turn = search-turn (begins_run c.args.count (frames_of (extents_in c.args.list.now))) c.args.list.now c.loop-at.at c.in-Some.index c.index-slot.result.now c.loop-at.invariant c.in-Some.is c.index-slot.ensures in
    turn.less

pub returns-then-count-extent-clause-lowest : goal.returns-then-count-extent-clause-lowest
returns-then-count-extent-clause-lowest c =
    let turn = search-turn (begins_run c.args.count (frames_of (extents_in c.args.list.now))) c.args.list.now c.loop-at.at c.in-Some.index c.index-slot.result.now c.loop-at.invariant c.in-Some.is c.index-slot.ensures in
    sym (run_found c.args.count c.args.list.now c.loop-at.at c.index-slot.result.now turn c.requires.some c.if-count-extent.true)

pub returns-then-count-extent-clause-low : goal.returns-then-count-extent-clause-low
returns-then-count-extent-clause-low c =
    let turn = search-turn (begins_run c.args.count (frames_of (extents_in c.args.list.now))) c.args.list.now c.loop-at.at c.in-Some.index c.index-slot.result.now c.loop-at.invariant c.in-Some.is c.index-slot.ensures in
    let bound = turn.extent.2 in
    let fits = c.if-count-extent.true in
    omega (arith, bound, fits)

pub returns-clause-lowest : goal.returns-clause-lowest
returns-clause-lowest c = sym (run_none c.args.count c.args.list.now c.loop-at.at c.loop-at.invariant c.in_default.is)
