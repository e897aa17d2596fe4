use Rattle.std.proofs.Common.{sym, ◌∙◌, arith}
use Rattle.frame_alloc.specs.declared.extents.Extent.{Extent}
use Rattle.frame_alloc.specs.Slots.{extents_in}
use Rattle.frame_alloc.proofs.GroupLemmas.{count-bound, length-frames_of}
use Rattle.frame_alloc.proofs.Walks.{sum-begins, sum-below, sum-turn, sum-ends}
use Rattle.frame_alloc.proofs.extents.frame_count.Goals as goal

pub loop-at-init : goal.loop-at-init
loop-at-init c = sum-begins (λ (extent : Extent). extent.count) c.args.list.now c.requires

pub index-slot-requires : goal.index-slot-requires
index-slot-requires c =
    let low = sum-below (λ (extent : Extent). extent.count) c.args.list.now c.loop-at.at c.loop-at.total c.in-Some.index c.loop-at.invariant c.in-Some.is in
    omega (arith, low, c.args.list.now.slots.ok.0)

pub overflow_add-total : goal.overflow_add-total
overflow_add-total c =
    let turn = sum-turn (λ (extent : Extent). extent.count) c.args.list.now c.loop-at.at c.loop-at.total c.in-Some.index c.index-slot.result.now c.loop-at.invariant c.in-Some.is c.index-slot.ensures in
    let all = count-bound (extents_in c.args.list.now) c.requires.apart in
    let low = turn.low in
    omega (arith, all, low)

pub loop-at-preserved : goal.loop-at-preserved
loop-at-preserved c =
    let turn = sum-turn (λ (extent : Extent). extent.count) c.args.list.now c.loop-at.at c.loop-at.total c.in-Some.index c.index-slot.result.now c.loop-at.invariant c.in-Some.is c.index-slot.ensures in
    turn.next

pub loop-at-smaller : goal.loop-at-smaller
loop-at-smaller c =
    let turn = sum-turn (λ (extent : Extent). extent.count) c.args.list.now c.loop-at.at c.loop-at.total c.in-Some.index c.index-slot.result.now c.loop-at.invariant c.in-Some.is c.index-slot.ensures in
    turn.less

pub returns : goal.returns
returns c =
    sum-ends (λ (extent : Extent). extent.count) c.args.list.now c.loop-at.at c.loop-at.total c.loop-at.invariant c.in_default.is ∙ sym (length-frames_of (extents_in c.args.list.now))
