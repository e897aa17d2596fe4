use Rattle.described.specs.declared.map_range.Kind.TheVariants.{Ram}
use Rattle.image_audit.proofs.PlannedRanges.{ends_at}
use Rattle.image_audit.proofs.differences.find_parting.Goals as goal

-- the range at the index ends at or below page 2^28
pub parting_page-requires : goal.parting_page-requires
parting_page-requires c =
    let ends = ends_at c.args.ranges.now 0 c.loop-index.index (record { page = 0; first = 0; count = 0; kind = Ram }) c.requires c.if-index-ranges.false in
    rw c.planned_run-planned.ensures ends.0
