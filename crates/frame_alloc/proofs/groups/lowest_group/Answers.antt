use Rattle.std.proofs.Common.{sym, arith}
use Rattle.frame_alloc.specs.Frames.{begins_group}
use Rattle.frame_alloc.specs.Extents.{frames_of}
use Rattle.frame_alloc.specs.Slots.{extents_in}
use Rattle.frame_alloc.proofs.LowestGroups.{group_found, group_past, group_none}
use Rattle.frame_alloc.proofs.Searches.{search-begins, search-below, search-turn}
use Rattle.frame_alloc.proofs.groups.lowest_group.Goals as goal

pub loop-at-init : goal.loop-at-init
loop-at-init c = search-begins (begins_group c.args.size (frames_of (extents_in c.args.list.now))) c.args.list.now c.requires.whole

pub index-slot-requires : goal.index-slot-requires
index-slot-requires c =
    let low = search-below (begins_group c.args.size (frames_of (extents_in c.args.list.now))) c.args.list.now c.loop-at.at c.in-Some.index c.loop-at.invariant c.in-Some.is in
    omega (arith, low, c.args.list.now.slots.ok.0)

pub loop-at-preserved : goal.loop-at-preserved
loop-at-preserved c =
    let turn = search-turn (begins_group c.args.size (frames_of (extents_in c.args.list.now))) c.args.list.now c.loop-at.at c.in-Some.index c.index-slot.result.now c.loop-at.invariant c.in-Some.is c.index-slot.ensures in
    let found = c.next_multiple_of-first.ensures in
    group_past c.args.size c.next_multiple_of-first.result c.args.list.now c.loop-at.at c.index-slot.result.now turn found.lower_bound found.upper_bound found.multiple c.if-first-size.false

pub loop-at-smaller : goal.loop-at-smaller
loop-at-smaller c =
    let turn = search-turn (begins_group c.args.size (frames_of (extents_in c.args.list.now))) c.args.list.now c.loop-at.at c.in-Some.index c.index-slot.result.now c.loop-at.invariant c.in-Some.is c.index-slot.ensures in
    turn.less

pub returns-then-first-size-clause-lowest : goal.returns-then-first-size-clause-lowest
returns-then-first-size-clause-lowest c =
    let turn = search-turn (begins_group c.args.size (frames_of (extents_in c.args.list.now))) c.args.list.now c.loop-at.at c.in-Some.index c.index-slot.result.now c.loop-at.invariant c.in-Some.is c.index-slot.ensures in
    let found = c.next_multiple_of-first.ensures in
    sym (group_found c.args.size c.next_multiple_of-first.result c.args.list.now c.loop-at.at c.index-slot.result.now turn c.requires.some found.lower_bound found.upper_bound found.multiple c.if-first-size.true)

pub returns-clause-lowest : goal.returns-clause-lowest
returns-clause-lowest c = sym (group_none c.args.size c.args.list.now c.loop-at.at c.loop-at.invariant c.in_default.is)

pub next_multiple_of-first-requires-clause-fits : goal.next_multiple_of-first-requires-clause-fits
next_multiple_of-first-requires-clause-fits c =
    let turn = search-turn (begins_group c.args.size (frames_of (extents_in c.args.list.now))) c.args.list.now c.loop-at.at c.in-Some.index c.index-slot.result.now c.loop-at.invariant c.in-Some.is c.index-slot.ensures in
    let bound = turn.extent.2 in
    let small = c.requires.small in
    omega (arith, bound, small)

pub overflow_add-first : goal.overflow_add-first
overflow_add-first c =
    let turn = search-turn (begins_group c.args.size (frames_of (extents_in c.args.list.now))) c.args.list.now c.loop-at.at c.in-Some.index c.index-slot.result.now c.loop-at.invariant c.in-Some.is c.index-slot.ensures in
    let bound = turn.extent.2 in
    let small = c.requires.small in
    let upper = c.next_multiple_of-first.ensures.upper_bound in
    omega (arith, bound, small, upper)

pub overflow_add-extent : goal.overflow_add-extent
overflow_add-extent c =
    let turn = search-turn (begins_group c.args.size (frames_of (extents_in c.args.list.now))) c.args.list.now c.loop-at.at c.in-Some.index c.index-slot.result.now c.loop-at.invariant c.in-Some.is c.index-slot.ensures in
    let bound = turn.extent.2 in
    omega (arith, bound)

pub returns-then-first-size-clause-low : goal.returns-then-first-size-clause-low
returns-then-first-size-clause-low c =
    let turn = search-turn (begins_group c.args.size (frames_of (extents_in c.args.list.now))) c.args.list.now c.loop-at.at c.in-Some.index c.index-slot.result.now c.loop-at.invariant c.in-Some.is c.index-slot.ensures in
    let bound = turn.extent.2 in
    let fits = c.if-first-size.true in
    omega (arith, bound, fits)
