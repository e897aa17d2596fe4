use Rattle.std.proofs.Common.{◌≡◌, length, drop, arith, length-drop, ap}
use Rattle.ib_config.specs.Runs.{after_run}
use Rattle.ib_config.proofs.RunLemmas.{length-after_run}
use Rattle.ib_config.specs.PrivateScan.{not_feed}
use Rattle.ib_config.proofs.assignments.cut_line.Goals as goal

pub returns-clause-shorter : goal.returns-clause-shorter
returns-clause-shorter c some =
    let rest = length-after_run not_feed c.args.bytes.now in
    let dropped = length-drop 1 (after_run not_feed c.args.bytes.now) in
    let same : c.skip_one.result.now ≡ drop 1 (after_run not_feed c.args.bytes.now) = cc in
    let long : length c.skip_one.result.now ≡ length (drop 1 (after_run not_feed c.args.bytes.now)) = ap length same in
    omega arith
