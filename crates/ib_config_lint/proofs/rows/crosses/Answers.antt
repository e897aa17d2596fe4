use Rattle.std.proofs.Common.{arith}
use Rattle.std.proofs.lemmas.Bool.Decides.{nat_tests}
use Rattle.ib_config_lint.proofs.BankLemmas.{first_past}
use Rattle.ib_config_lint.proofs.rows.crosses.Goals as goal

pub returns-then-range-used : goal.returns-then-range-used
returns-then-range-used c = first_past c.args.ranges.now c.loop-range.range-index c.loop-range.used (grind (arith, nat_tests)) c.loop-range.invariant.same c.loop-range.invariant.fit
    (grind (arith, nat_tests))
