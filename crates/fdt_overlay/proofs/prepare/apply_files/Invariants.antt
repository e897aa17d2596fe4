use Rattle.std.proofs.Common.{drop, map, string_bytes}
use Rattle.outside.specs.Reads.{Reads}
use Rattle.fdt_overlay.proofs.OverlaySteps.{IsOnWay}
use Rattle.fdt_overlay.proofs.prepare.apply_files.Given as goal

-- the overlays so far are applied
abbrev pub invariant-loop-name : goal.invariant-loop-name
invariant-loop-name g l = record {
  way : IsOnWay (g.F.Files.held l.initial.files) (map string_bytes l.names) (map string_bytes (drop l.name-index l.names)) l.initial.tree.tree l.tree.tree;
  only_read : Reads g.F.Files.held g.F.Files.counts l.initial.files l.files;
}
