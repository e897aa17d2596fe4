use Rattle.std.proofs.Common.{rules, ◌≡◌, ◌∙◌, ◌+◌, refl, drop, map, string_bytes, arith}
use Rattle.run_steps.specs.Steps.{nothing}
use Rattle.run_steps.proofs.Due.{due_later, grew_twice}
use Rattle.fdt_overlay.specs.Overlays.{AfterOverlay}
use Rattle.fdt_overlay.proofs.OverlaySteps.{IsOnWay-start, IsOnWay-next, IsOnWay-stop, IsOnWay-end, words-next, words-end}
use Rattle.fdt_overlay.proofs.prepare.apply_files.Goals as goal

pub returns-in-Err-clause-stopped : goal.returns-in-Err-clause-stopped
returns-in-Err-clause-stopped g c =
    let told = g.F.Files.held c.args.files.now in
    let name = c.name-item.result in
    let names = c.args.names.now in
    let i = c.loop-name.name-index in
    let called : c.as_str.result.now ≡ string_bytes name = search rules in
    due_later (AfterOverlay told (string_bytes name) c.loop-name.tree.tree nothing) _
    (IsOnWay-stop told (map string_bytes names) c.args.base.tree (map string_bytes (drop i names)) (string_bytes name) (map string_bytes (drop (i + 1) names)) c.loop-name.tree.tree (words-next string_bytes names i name c.loop-name-test.true c.name-item.is) c.loop-name.invariant.way)
    _ _ _ c.loop-name.invariant.only_read.counted c.in-Err.stop (rw (c.loop-name.invariant.only_read.held_kept, called) at c.in-Err.ensures.stopped)

pub loop-name-init : goal.loop-name-init
loop-name-init g c = record {
  way = IsOnWay-start (g.F.Files.held c.args.files.now) (map string_bytes c.args.names.now) c.args.base.tree (map string_bytes (drop 0 c.args.names.now)) refl;
  only_read = record { held_kept = refl; counted = (omega arith, omega arith, omega arith) };
}

pub loop-name-preserved : goal.loop-name-preserved
loop-name-preserved g c =
    let told = g.F.Files.held c.args.files.now in
    let name = c.name-item.result in
    let names = c.args.names.now in
    let i = c.loop-name.name-index in
    let called : c.as_str.result.now ≡ string_bytes name = search rules in
    record {
      way = IsOnWay-next told (map string_bytes names) c.args.base.tree (map string_bytes (drop i names)) (string_bytes name) (map string_bytes (drop (i + 1) names)) c.loop-name.tree.tree (words-next string_bytes names i name c.loop-name-test.true c.name-item.is) c.loop-name.invariant.way
          c.in-Ok.made.tree (rw (c.loop-name.invariant.only_read.held_kept, called) at c.in-Ok.ensures.applied);
      only_read = record {
        held_kept = c.apply_file.ensures.only_read.held_kept ∙ c.loop-name.invariant.only_read.held_kept;
        counted = grew_twice _ _ _ c.loop-name.invariant.only_read.counted c.apply_file.ensures.only_read.counted;
      };
    }

pub returns-clause-applied : goal.returns-clause-applied
returns-clause-applied g c =
    let names = c.args.names.now in
    let i = c.loop-name.name-index in
    IsOnWay-end (g.F.Files.held c.args.files.now) (map string_bytes names) c.args.base.tree (map string_bytes (drop i names)) c.loop-name.tree.tree (words-end string_bytes names i (omega arith)) c.loop-name.invariant.way
