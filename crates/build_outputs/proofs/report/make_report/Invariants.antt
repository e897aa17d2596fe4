use Rattle.std.proofs.Common.{◌≡◌, take, flat_map}
use Rattle.build_outputs.specs.Report.{guest_lines}
use Rattle.build_outputs.specs.Outputs.{with_tables}
use Rattle.build_outputs.proofs.report.make_report.Given as goal

-- the lines of the guests so far
abbrev pub invariant-loop-index : goal.invariant-loop-index
invariant-loop-index l = l.report ≡ flat_map (λ guest. guest_lines guest.0 guest.1) (take l.index (with_tables l.guests))
