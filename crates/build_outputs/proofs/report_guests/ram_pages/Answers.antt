use Rattle.std.proofs.Common.{◌+◌, ◌^◌, ◌<◌, ◌≤◌, arith}
use Rattle.build_outputs.specs.ReportLines.{ram_pages}
use Rattle.build_outputs.proofs.MapBounds.{few_pages}
use Rattle.build_outputs.proofs.report_guests.ram_pages.Goals as goal

pub pages_in-requires : goal.pages_in-requires
pages_in-requires c =
    let few : 0 + ram_pages c.args.plan.now.ranges ≤ 2 ^ 28 = few_pages c.args.plan.now.ranges 0 (omega arith) c.requires in
    rw c.as_slice.ensures (let low : ram_pages c.args.plan.now.ranges < 2 ^ 64 = omega arith in low)
