use Rattle.std.proofs.Common.{◌<◌, Ok, Err, sym, arith}
use Rattle.std.specs.Prelude.{Result, OnErr}
use Rattle.frame_alloc.specs.Extents.{frames_of}
use Rattle.frame_alloc.specs.Slots.{extents_in}
use Rattle.frame_alloc.proofs.Without.{without-zero}
use Rattle.frame_alloc.proofs.Removals.{IsRemoved, cut-begins, cut-below, cut-at, cut-ends, cut-past, cut-before, cut-low, cut-gone, cut-high, cut-inside, cut-after, cut-used_still, cut-unchanged, unchanged-whole}
use Rattle.frame_alloc.proofs.removal.remove_range.Goals as goal

on_err : {A B P : Type 0} (r : Result A B) → P → OnErr r P
on_err (Ok x) p = tt
on_err (Err e) p = p

pub returns-then-count-eq0-clause-ok : goal.returns-then-count-eq0-clause-ok
returns-then-count-eq0-clause-ok c = sym (without-zero c.args.first c.args.count (frames_of (extents_in c.args.list.now)) c.if-count-eq0.true)

pub loop-at-init : goal.loop-at-init
loop-at-init c = cut-begins c.args.first c.args.count c.args.list.now c.requires.whole

pub index-slot-requires : goal.index-slot-requires
index-slot-requires c =
    let low = cut-below c.args.first c.args.count c.args.list.now c.loop-at.list c.loop-at.at c.in-Some.index c.loop-at.invariant c.in-Some.is in
    omega (arith, low, c.loop-at.list.slots.ok.0)

pub overflow_add-extent_end : goal.overflow_add-extent_end
overflow_add-extent_end c =
    let here = cut-at c.args.first c.args.count c.args.list.now c.loop-at.list c.loop-at.at c.in-Some.index c.index-slot.result.now c.loop-at.invariant c.in-Some.is c.index-slot.ensures in
    let bound = here.apart.2 in
    omega (arith, bound)

pub returns-then-end-extent-clause-ok : goal.returns-then-end-extent-clause-ok
returns-then-end-extent-clause-ok c =
    let here = cut-at c.args.first c.args.count c.args.list.now c.loop-at.list c.loop-at.at c.in-Some.index c.index-slot.result.now c.loop-at.invariant c.in-Some.is c.index-slot.ensures in
    let some : 0 < c.args.count = let h = c.if-count-eq0.false in omega arith in
    let is : IsRemoved c.args.first c.args.count c.args.list.now c.loop-at.list = cut-past c.args.first c.args.count c.args.list.now c.loop-at.list c.loop-at.at c.in-Some.index c.index-slot.result.now some c.requires.whole here c.if-end-extent.true in
    is.frames

pub returns-then-end-extent-clause-kept : goal.returns-then-end-extent-clause-kept
returns-then-end-extent-clause-kept c =
    let here = cut-at c.args.first c.args.count c.args.list.now c.loop-at.list c.loop-at.at c.in-Some.index c.index-slot.result.now c.loop-at.invariant c.in-Some.is c.index-slot.ensures in
    let some : 0 < c.args.count = let h = c.if-count-eq0.false in omega arith in
    let is : IsRemoved c.args.first c.args.count c.args.list.now c.loop-at.list = cut-past c.args.first c.args.count c.args.list.now c.loop-at.list c.loop-at.at c.in-Some.index c.index-slot.result.now some c.requires.whole here c.if-end-extent.true in
    is.whole

pub insert_after-requires : goal.insert_after-requires
insert_after-requires c =
    let here = cut-at c.args.first c.args.count c.args.list.now c.loop-at.list c.loop-at.at c.in-Some.index c.index-slot.result.now c.loop-at.invariant c.in-Some.is c.index-slot.ensures in
    cut-after c.args.first c.args.count c.args.list.now c.loop-at.list c.loop-at.at c.in-Some.index c.index-slot.result.now here

pub returns-in_err-insert_after-clause-err : goal.returns-in_err-insert_after-clause-err
returns-in_err-insert_after-clause-err c =
    let here = cut-at c.args.first c.args.count c.args.list.now c.loop-at.list c.loop-at.at c.in-Some.index c.index-slot.result.now c.loop-at.invariant c.in-Some.is c.index-slot.ensures in
    on_err c.from_residual.result (cut-unchanged c.args.first c.args.count c.args.list.now c.loop-at.list c.insert_after.new.list c.loop-at.at c.in-Some.index c.index-slot.result.now here c.if-extent-first.true c.in_err-insert_after.ensures.err)

pub returns-in_err-insert_after-clause-kept : goal.returns-in_err-insert_after-clause-kept
returns-in_err-insert_after-clause-kept c =
    let here = cut-at c.args.first c.args.count c.args.list.now c.loop-at.list c.loop-at.at c.in-Some.index c.index-slot.result.now c.loop-at.invariant c.in-Some.is c.index-slot.ensures in
    unchanged-whole c.args.list.now c.insert_after.new.list (cut-unchanged c.args.first c.args.count c.args.list.now c.loop-at.list c.insert_after.new.list c.loop-at.at c.in-Some.index c.index-slot.result.now here c.if-extent-first.true c.in_err-insert_after.ensures.err) c.requires.whole

pub change-requires : goal.change-requires
change-requires c =
    let here = cut-at c.args.first c.args.count c.args.list.now c.loop-at.list c.loop-at.at c.in-Some.index c.index-slot.result.now c.loop-at.invariant c.in-Some.is c.index-slot.ensures in
    cut-used_still c.args.first c.args.count c.args.list.now c.loop-at.list c.insert_after.new.list c.loop-at.at c.in-Some.index c.in_ok-insert_after.field-0 c.index-slot.result.now c.between.result here c.in_ok-insert_after.ensures.inserted

pub returns-then-end-extent_end-clause-ok : goal.returns-then-end-extent_end-clause-ok
returns-then-end-extent_end-clause-ok c =
    let here = cut-at c.args.first c.args.count c.args.list.now c.loop-at.list c.loop-at.at c.in-Some.index c.index-slot.result.now c.loop-at.invariant c.in-Some.is c.index-slot.ensures in
    let some : 0 < c.args.count = let h = c.if-count-eq0.false in omega arith in
    let is : IsRemoved c.args.first c.args.count c.args.list.now c.change.new.list = cut-inside c.args.first c.args.count c.args.list.now c.loop-at.list c.insert_after.new.list c.change.new.list c.loop-at.at c.in-Some.index c.in_ok-insert_after.field-0 c.index-slot.result.now c.between-then-end-extent_end.result c.between.result some c.requires.whole here c.between-then-end-extent_end.ensures c.between.ensures c.in_ok-insert_after.ensures.inserted c.change.ensures.changed c.if-extent-first.true c.if-end-extent_end.true in
    is.frames

pub returns-then-end-extent_end-clause-kept : goal.returns-then-end-extent_end-clause-kept
returns-then-end-extent_end-clause-kept c =
    let here = cut-at c.args.first c.args.count c.args.list.now c.loop-at.list c.loop-at.at c.in-Some.index c.index-slot.result.now c.loop-at.invariant c.in-Some.is c.index-slot.ensures in
    let some : 0 < c.args.count = let h = c.if-count-eq0.false in omega arith in
    let is : IsRemoved c.args.first c.args.count c.args.list.now c.change.new.list = cut-inside c.args.first c.args.count c.args.list.now c.loop-at.list c.insert_after.new.list c.change.new.list c.loop-at.at c.in-Some.index c.in_ok-insert_after.field-0 c.index-slot.result.now c.between-then-end-extent_end.result c.between.result some c.requires.whole here c.between-then-end-extent_end.ensures c.between.ensures c.in_ok-insert_after.ensures.inserted c.change.ensures.changed c.if-extent-first.true c.if-end-extent_end.true in
    is.whole

pub returns-then-end-extent_end-2-clause-ok : goal.returns-then-end-extent_end-2-clause-ok
returns-then-end-extent_end-2-clause-ok c =
    let here = cut-at c.args.first c.args.count c.args.list.now c.loop-at.list c.loop-at.at c.in-Some.index c.index-slot.result.now c.loop-at.invariant c.in-Some.is c.index-slot.ensures in
    let some : 0 < c.args.count = let h = c.if-count-eq0.false in omega arith in
    let begins = c.if-extent-first.false in
    let within = c.if-end-extent.false in
    let is : IsRemoved c.args.first c.args.count c.args.list.now c.change-then-end-extent_end-2.new.list = cut-high c.args.first c.args.count c.args.list.now c.loop-at.list c.change-then-end-extent_end-2.new.list c.loop-at.at c.in-Some.index c.index-slot.result.now c.between-then-end-extent_end-2.result some c.requires.whole here c.between-then-end-extent_end-2.ensures c.change-then-end-extent_end-2.ensures.changed (omega (arith, begins)) (omega (arith, within)) c.if-end-extent_end-2.true in
    is.frames

pub returns-then-end-extent_end-2-clause-kept : goal.returns-then-end-extent_end-2-clause-kept
returns-then-end-extent_end-2-clause-kept c =
    let here = cut-at c.args.first c.args.count c.args.list.now c.loop-at.list c.loop-at.at c.in-Some.index c.index-slot.result.now c.loop-at.invariant c.in-Some.is c.index-slot.ensures in
    let some : 0 < c.args.count = let h = c.if-count-eq0.false in omega arith in
    let begins = c.if-extent-first.false in
    let within = c.if-end-extent.false in
    let is : IsRemoved c.args.first c.args.count c.args.list.now c.change-then-end-extent_end-2.new.list = cut-high c.args.first c.args.count c.args.list.now c.loop-at.list c.change-then-end-extent_end-2.new.list c.loop-at.at c.in-Some.index c.index-slot.result.now c.between-then-end-extent_end-2.result some c.requires.whole here c.between-then-end-extent_end-2.ensures c.change-then-end-extent_end-2.ensures.changed (omega (arith, begins)) (omega (arith, within)) c.if-end-extent_end-2.true in
    is.whole

pub loop-at-smaller-else-end-extent_end : goal.loop-at-smaller-else-end-extent_end
loop-at-smaller-else-end-extent_end c =
    let here = cut-at c.args.first c.args.count c.args.list.now c.loop-at.list c.loop-at.at c.in-Some.index c.index-slot.result.now c.loop-at.invariant c.in-Some.is c.index-slot.ensures in
    let ends = c.if-end-extent_end.false in
    let on = cut-low c.args.first c.args.count c.args.list.now c.loop-at.list c.change-then-extent-first.new.list c.loop-at.at c.in-Some.index c.index-slot.result.now c.between-then-extent-first.result here c.between-then-extent-first.ensures c.change-then-extent-first.ensures.changed c.change-then-extent-first.ensures.same c.if-extent-first.true c.if-first-extent_end.true (omega (arith, ends)) in
    on.less

pub loop-at-smaller-else-end-extent_end-2 : goal.loop-at-smaller-else-end-extent_end-2
loop-at-smaller-else-end-extent_end-2 c =
    let here = cut-at c.args.first c.args.count c.args.list.now c.loop-at.list c.loop-at.at c.in-Some.index c.index-slot.result.now c.loop-at.invariant c.in-Some.is c.index-slot.ensures in
    let begins = c.if-extent-first.false in
    let within = c.if-end-extent.false in
    let ends = c.if-end-extent_end-2.false in
    let on = cut-gone c.args.first c.args.count c.args.list.now c.loop-at.list c.remove.new.list c.loop-at.at c.in-Some.index c.index-slot.result.now here c.remove.ensures.removed c.remove.ensures.spare (omega (arith, begins)) c.if-first-extent_end.true (omega (arith, within)) (omega (arith, ends)) in
    on.less

pub loop-at-smaller : goal.loop-at-smaller
loop-at-smaller c =
    let here = cut-at c.args.first c.args.count c.args.list.now c.loop-at.list c.loop-at.at c.in-Some.index c.index-slot.result.now c.loop-at.invariant c.in-Some.is c.index-slot.ensures in
    let below = c.if-first-extent_end.false in
    let on = cut-before c.args.first c.args.count c.args.list.now c.loop-at.list c.loop-at.at c.in-Some.index c.index-slot.result.now here (omega (arith, below)) in
    on.less

pub loop-at-preserved-else-end-extent_end : goal.loop-at-preserved-else-end-extent_end
loop-at-preserved-else-end-extent_end c =
    let here = cut-at c.args.first c.args.count c.args.list.now c.loop-at.list c.loop-at.at c.in-Some.index c.index-slot.result.now c.loop-at.invariant c.in-Some.is c.index-slot.ensures in
    let ends = c.if-end-extent_end.false in
    let on = cut-low c.args.first c.args.count c.args.list.now c.loop-at.list c.change-then-extent-first.new.list c.loop-at.at c.in-Some.index c.index-slot.result.now c.between-then-extent-first.result here c.between-then-extent-first.ensures c.change-then-extent-first.ensures.changed c.change-then-extent-first.ensures.same c.if-extent-first.true c.if-first-extent_end.true (omega (arith, ends)) in
    on.next

pub loop-at-preserved-else-end-extent_end-2 : goal.loop-at-preserved-else-end-extent_end-2
loop-at-preserved-else-end-extent_end-2 c =
    let here = cut-at c.args.first c.args.count c.args.list.now c.loop-at.list c.loop-at.at c.in-Some.index c.index-slot.result.now c.loop-at.invariant c.in-Some.is c.index-slot.ensures in
    let begins = c.if-extent-first.false in
    let within = c.if-end-extent.false in
    let ends = c.if-end-extent_end-2.false in
    let on = cut-gone c.args.first c.args.count c.args.list.now c.loop-at.list c.remove.new.list c.loop-at.at c.in-Some.index c.index-slot.result.now here c.remove.ensures.removed c.remove.ensures.spare (omega (arith, begins)) c.if-first-extent_end.true (omega (arith, within)) (omega (arith, ends)) in
    on.next

pub loop-at-preserved : goal.loop-at-preserved
loop-at-preserved c =
    let here = cut-at c.args.first c.args.count c.args.list.now c.loop-at.list c.loop-at.at c.in-Some.index c.index-slot.result.now c.loop-at.invariant c.in-Some.is c.index-slot.ensures in
    let below = c.if-first-extent_end.false in
    let on = cut-before c.args.first c.args.count c.args.list.now c.loop-at.list c.loop-at.at c.in-Some.index c.index-slot.result.now here (omega (arith, below)) in
    on.next

pub returns-clause-ok : goal.returns-clause-ok
returns-clause-ok c =
    let some : 0 < c.args.count = let h = c.if-count-eq0.false in omega arith in
    let is : IsRemoved c.args.first c.args.count c.args.list.now c.loop-at.list = cut-ends c.args.first c.args.count c.args.list.now c.loop-at.list c.loop-at.at some c.requires.whole c.loop-at.invariant c.in_default.is in
    is.frames

pub returns-clause-kept : goal.returns-clause-kept
returns-clause-kept c =
    let some : 0 < c.args.count = let h = c.if-count-eq0.false in omega arith in
    let is : IsRemoved c.args.first c.args.count c.args.list.now c.loop-at.list = cut-ends c.args.first c.args.count c.args.list.now c.loop-at.list c.loop-at.at some c.requires.whole c.loop-at.invariant c.in_default.is in
    is.whole
