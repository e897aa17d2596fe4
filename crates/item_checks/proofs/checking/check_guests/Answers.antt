use Rattle.std.proofs.Common.{arith}
use Rattle.item_checks.proofs.GuestSteps.{at_first, at_next, refused_at, at_last}
use Rattle.item_checks.proofs.checking.check_guests.Goals as goal

pub loop-i-init : goal.loop-i-init
loop-i-init c before stands host = at_first c.args.host.now before c.args.guests.now c.args.state.now stands host

pub loop-i-preserved : goal.loop-i-preserved
loop-i-preserved c before stands host =
    let at = c.loop-i.invariant before stands host in
    let told = c.in-Ok.ensures at.last at.mid at.stands (at.fresh c.loop-i.i (omega arith)) in
    at_next c.args.host.now before c.args.guests.now c.loop-i.i c.index-guests-i.result c.loop-i.state c.check_guest.new.state c.loop-i-test.true c.index-guests-i.is at told.0 told.1

pub returns-in-Err-clause-refused : goal.returns-in-Err-clause-refused
returns-in-Err-clause-refused c before stands host item reason is =
    let at = c.loop-i.invariant before stands host in
    refused_at c.args.host.now before c.args.guests.now c.loop-i.i c.index-guests-i.result c.loop-i.state item reason c.loop-i-test.true c.index-guests-i.is at
    (c.in-Err.ensures at.last at.mid at.stands (at.fresh c.loop-i.i (omega arith)) item reason is)

pub returns-clause-passed : goal.returns-clause-passed
returns-clause-passed c before stands host = (at_last c.args.host.now before c.args.guests.now c.loop-i.i c.loop-i.state c.loop-i-test.false (c.loop-i.invariant before stands host)).0

pub returns-clause-clear : goal.returns-clause-clear
returns-clause-clear c before stands host = (at_last c.args.host.now before c.args.guests.now c.loop-i.i c.loop-i.state c.loop-i-test.false (c.loop-i.invariant before stands host)).1
