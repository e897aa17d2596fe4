use Rattle.std.proofs.Common.{rules, ◌≡◌, Err}
use Rattle.run_steps.specs.Steps.{nothing}
use Rattle.run_steps.proofs.Due.{due_here, stopped_anyway, built_for}
use Rattle.fdt_source.specs.PrivateMeant.{source_tree}
use Rattle.fdt_source.specs.Job.{IsBuilding}
use Rattle.fdt_source.specs.Texts.{AfterTextFile}
use Rattle.source_text.proofs.SaidReserves.{no_pair_ends}
use Rattle.fdt_source.proofs.TextSteps.{text_file_step}
use Rattle.fdt_source.proofs.text_building.build_file.Goals as goal

pub returns-in_err-source-clause-stopped : goal.returns-in_err-source-clause-stopped
returns-in_err-source-clause-stopped g c =
    let handed : c.from_residual.result ≡ Err (c.in_err-source.field-0.0) = search rules in
    rw handed
    (due_here (AfterTextFile (g.F.Files.held c.args.files.now) c.args.text.now nothing) _
    ((text_file_step (g.F.Files.held c.args.files.now) c.args.text.now).stays (IsBuilding c.args.out.now))
    _ _ (c.in_err-source.field-0.0) c.in_err-source.ensures.stopped)

pub build_tree-requires : goal.build_tree-requires
build_tree-requires g c = let read = c.in_ok-source.ensures.read in no_pair_ends read.file _ _ read.says

pub returns-clause-built : goal.returns-clause-built
returns-clause-built g c =
    built_for (IsBuilding c.args.out.now (source_tree c.in_ok-source.source)) _
    ((text_file_step (g.F.Files.held c.args.files.now) c.args.text.now).gives (source_tree c.in_ok-source.source) c.in_ok-source.ensures.read (IsBuilding c.args.out.now)) c.build_tree.result c.build_tree.ensures.built

pub returns-clause-stopped : goal.returns-clause-stopped
returns-clause-stopped g c =
    stopped_anyway (IsBuilding c.args.out.now (source_tree c.in_ok-source.source)) _
    ((text_file_step (g.F.Files.held c.args.files.now) c.args.text.now).gives (source_tree c.in_ok-source.source) c.in_ok-source.ensures.read (IsBuilding c.args.out.now)) _ _ c.build_tree.result c.build_tree.ensures.stopped
