use Rattle.std.proofs.Common.{sym, ◌∙◌, subst, arith}
use Rattle.frame_alloc.specs.Slots.{extents_in}
use Rattle.frame_alloc.proofs.GroupLemmas.{chunks_of, chunks-bound, chunk_count-extents}
use Rattle.frame_alloc.proofs.Walks.{IsSummedTo, sum-begins, sum-below, sum-turn, sum-ends}
use Rattle.frame_alloc.proofs.groups.chunks_in.Goals as goal

pub loop-at-init : goal.loop-at-init
loop-at-init c = sum-begins chunks_of c.args.list.now c.requires

pub index-slot-requires : goal.index-slot-requires
index-slot-requires c =
    let low = sum-below chunks_of c.args.list.now c.loop-at.at c.loop-at.total c.in-Some.index c.loop-at.invariant c.in-Some.is in
    omega (arith, low, c.args.list.now.slots.ok.0)

pub overflow_add-end : goal.overflow_add-end
overflow_add-end c =
    let turn = sum-turn chunks_of c.args.list.now c.loop-at.at c.loop-at.total c.in-Some.index c.index-slot.result.now c.loop-at.invariant c.in-Some.is c.index-slot.ensures in
    let bound = turn.extent.2 in
    omega (arith, bound)

pub overflow_add-total : goal.overflow_add-total
overflow_add-total c =
    let turn = sum-turn chunks_of c.args.list.now c.loop-at.at c.loop-at.total c.in-Some.index c.index-slot.result.now c.loop-at.invariant c.in-Some.is c.index-slot.ensures in
    let all = chunks-bound (extents_in c.args.list.now) c.requires.apart in
    let low = turn.low in
    omega (arith, all, low, c.saturating_sub-total.ensures, c.div_ceil.ensures)

pub loop-at-preserved : goal.loop-at-preserved
loop-at-preserved c =
    let turn = sum-turn chunks_of c.args.list.now c.loop-at.at c.loop-at.total c.in-Some.index c.index-slot.result.now c.loop-at.invariant c.in-Some.is c.index-slot.ensures in
    subst (λ n. IsSummedTo chunks_of c.args.list.now c.index-slot.result.now.after n) (omega (arith, c.saturating_sub-total.ensures, c.div_ceil.ensures)) turn.next

pub loop-at-smaller : goal.loop-at-smaller
loop-at-smaller c =
    let turn = sum-turn chunks_of c.args.list.now c.loop-at.at c.loop-at.total c.in-Some.index c.index-slot.result.now c.loop-at.invariant c.in-Some.is c.index-slot.ensures in
    turn.less

pub returns : goal.returns
returns c =
    sum-ends chunks_of c.args.list.now c.loop-at.at c.loop-at.total c.loop-at.invariant c.in_default.is ∙ sym (chunk_count-extents (extents_in c.args.list.now) c.requires.apart)
