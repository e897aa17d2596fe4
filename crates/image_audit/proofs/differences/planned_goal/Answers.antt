use Rattle.std.proofs.Common.{arith}
use Rattle.described.specs.declared.map_range.Kind.TheVariants.{Ram}
use Rattle.image_audit.proofs.PlannedRanges.{ends_at}
use Rattle.image_audit.proofs.differences.planned_goal.Goals as goal

-- a frame of the range is low
pub overflow_add-result : goal.overflow_add-result
overflow_add-result c =
    let ends = ends_at c.args.ranges.now 0 c.loop-range.range-index (record { page = 0; first = 0; count = 0; kind = Ram }) c.requires c.loop-range-test.true in
    omega arith

pub returns-then-page-range-clause-low : goal.returns-then-page-range-clause-low
returns-then-page-range-clause-low c =
    let ends = ends_at c.args.ranges.now 0 c.loop-range.range-index (record { page = 0; first = 0; count = 0; kind = Ram }) c.requires c.loop-range-test.true in
    omega arith
