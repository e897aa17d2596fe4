use Rattle.std.proofs.Common.{rules, ◌≡◌, Err}
use Rattle.run_steps.specs.Steps.{nothing}
use Rattle.tree_files.specs.Trees.{flat_tree, AfterTreeFile}
use Rattle.run_steps.proofs.Due.{due_here, stopped_anyway}
use Rattle.tree_files.proofs.TreeSteps.{tree_file_step}
use Rattle.fdt_overlay.specs.Overlays.{AfterApplied}
use Rattle.fdt_overlay.proofs.prepare.apply_file.Goals as goal

pub returns-in_err-overlay-clause-stopped : goal.returns-in_err-overlay-clause-stopped
returns-in_err-overlay-clause-stopped g c =
    let told = g.F.Files.held c.args.files.now in
    let handed : c.from_residual.result ≡ Err (c.in_err-overlay.field-0.0) = search rules in
    rw handed
    (due_here (AfterTreeFile told c.args.name.now nothing) _ ((tree_file_step told c.args.name.now).stays (λ overlay. AfterApplied c.args.name.now c.args.base.now.tree overlay.root nothing)) _ _ (c.in_err-overlay.field-0.0) c.in_err-overlay.ensures.stopped)

pub returns-clause-stopped : goal.returns-clause-stopped
returns-clause-stopped g c =
    let told = g.F.Files.held c.args.files.now in
    let overlay = flat_tree c.in_ok-overlay.overlay in
    stopped_anyway (AfterApplied c.args.name.now c.args.base.now.tree overlay.root nothing) _ ((tree_file_step told c.args.name.now).gives overlay c.in_ok-overlay.ensures.read (λ overlay. AfterApplied c.args.name.now c.args.base.now.tree overlay.root nothing)) _ _ c.apply_tree.result c.apply_tree.ensures.stopped
