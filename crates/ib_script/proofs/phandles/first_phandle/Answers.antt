use Rattle.std.proofs.Common.{arith}
use Rattle.ib_script.specs.Phandles.{first_phandle as first_number}
use Rattle.ib_script.proofs.PhandleLemmas.{before_all, room_for}
use Rattle.ib_script.proofs.phandles.first_phandle.Goals as goal

pub overflow_cast-result : goal.overflow_cast-result
overflow_cast-result c = omega (arith, before_all c.args.config.now.guests c.args.guest)

pub overflow_add-result-2 : goal.overflow_add-result-2
overflow_add-result-2 c = omega (arith, before_all c.args.config.now.guests c.args.guest)

pub returns-clause-value : goal.returns-clause-value
unfolding first_number
returns-clause-value c = rw c.groups_before.ensures.value

pub returns-clause-room : goal.returns-clause-room
returns-clause-room c = room_for c.args.config.now.guests c.args.highest c.args.guest _ c.requires (rw c.groups_before.ensures.value)
