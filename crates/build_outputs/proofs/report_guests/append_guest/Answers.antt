use Rattle.std.proofs.Common.{◌+◌, ◌^◌, ◌≤◌, arith}
use Rattle.build_outputs.specs.ReportLines.{ram_pages}
use Rattle.build_outputs.proofs.MapBounds.{have_addresses, few_pages}
use Rattle.build_outputs.proofs.report_guests.append_guest.Goals as goal

pub append_head-requires : goal.append_head-requires
append_head-requires c =
    let few : 0 + ram_pages c.args.plan.now.ranges ≤ 2 ^ 28 = few_pages c.args.plan.now.ranges 0 (omega arith) c.requires in
    omega arith

pub append_runs-requires : goal.append_runs-requires
append_runs-requires c = rw c.as_slice.ensures (have_addresses c.args.plan.now.ranges 0 c.requires)
