use Rattle.std.proofs.Common.{sym}
use Rattle.frame_alloc.proofs.Fronts.{front-at, front-used, front-lowest, front-gone, front-shorter}
use Rattle.frame_alloc.proofs.removal.take_lowest.Goals as goal

pub remove-requires : goal.remove-requires
remove-requires c =
    let here = front-at c.args.list.now c.in-Some.index c.index.result.now c.requires c.in-Some.is c.index.ensures in
    front-used c.args.list.now c.in-Some.index c.index.result.now here

pub change-requires : goal.change-requires
change-requires c =
    let here = front-at c.args.list.now c.in-Some.index c.index.result.now c.requires c.in-Some.is c.index.ensures in
    front-used c.args.list.now c.in-Some.index c.index.result.now here

pub returns-then-front-eq1-clause-lowest_frame : goal.returns-then-front-eq1-clause-lowest_frame
returns-then-front-eq1-clause-lowest_frame c =
    let here = front-at c.args.list.now c.in-Some.index c.index.result.now c.requires c.in-Some.is c.index.ensures in
    sym (front-lowest c.args.list.now c.in-Some.index c.index.result.now here)

pub returns-then-front-eq1-clause-rest : goal.returns-then-front-eq1-clause-rest
returns-then-front-eq1-clause-rest c =
    let here = front-at c.args.list.now c.in-Some.index c.index.result.now c.requires c.in-Some.is c.index.ensures in
    let done = front-gone c.args.list.now c.remove.new.list c.in-Some.index c.index.result.now here c.remove.ensures.removed c.if-front-eq1.true in
    done.frames

pub returns-then-front-eq1-clause-whole : goal.returns-then-front-eq1-clause-whole
returns-then-front-eq1-clause-whole c =
    let here = front-at c.args.list.now c.in-Some.index c.index.result.now c.requires c.in-Some.is c.index.ensures in
    let done = front-gone c.args.list.now c.remove.new.list c.in-Some.index c.index.result.now here c.remove.ensures.removed c.if-front-eq1.true in
    done.whole

pub returns-else-front-eq1-clause-lowest_frame : goal.returns-else-front-eq1-clause-lowest_frame
returns-else-front-eq1-clause-lowest_frame c =
    let here = front-at c.args.list.now c.in-Some.index c.index.result.now c.requires c.in-Some.is c.index.ensures in
    sym (front-lowest c.args.list.now c.in-Some.index c.index.result.now here)

pub returns-else-front-eq1-clause-rest : goal.returns-else-front-eq1-clause-rest
returns-else-front-eq1-clause-rest c =
    let here = front-at c.args.list.now c.in-Some.index c.index.result.now c.requires c.in-Some.is c.index.ensures in
    let done = front-shorter c.args.list.now c.change.new.list c.in-Some.index c.index.result.now here c.change.ensures.changed c.if-front-eq1.false in
    done.frames

pub returns-else-front-eq1-clause-whole : goal.returns-else-front-eq1-clause-whole
returns-else-front-eq1-clause-whole c =
    let here = front-at c.args.list.now c.in-Some.index c.index.result.now c.requires c.in-Some.is c.index.ensures in
    let done = front-shorter c.args.list.now c.change.new.list c.in-Some.index c.index.result.now here c.change.ensures.changed c.if-front-eq1.false in
    done.whole
