use Rattle.std.proofs.Common.{rules, ◌≡◌, refl, Err}
use Rattle.run_steps.specs.Steps.{nothing}
use Rattle.tree_files.specs.Trees.{flat_tree, AfterTreeFile}
use Rattle.run_steps.proofs.Due.{due_here, due_later}
use Rattle.tree_files.proofs.TreeSteps.{tree_file_step}
use Rattle.fdt_overlay.specs.PrivateMeant.{meant}
use Rattle.fdt_overlay.specs.Overlays.{AfterOverlays, made_of}
use Rattle.fdt_overlay.proofs.OverlaySteps.{AfterTheBase, overlays_step}
use Rattle.fdt_overlay.proofs.prepare.make_tree.Goals as goal

pub returns-in_err-base-clause-stopped : goal.returns-in_err-base-clause-stopped
returns-in_err-base-clause-stopped g c =
    let told = g.F.Files.held c.args.files.now in
    let asked = meant c.args.asked.now in
    let handed : c.from_residual.result ≡ Err (c.in_err-base.field-0.0) = search rules in
    rw handed
    (due_here (AfterTreeFile told asked.base nothing) _ ((tree_file_step told asked.base).stays (λ base. AfterTheBase told asked base nothing)) _ _ (c.in_err-base.field-0.0) c.in_err-base.ensures.stopped)

pub returns-in_err-tree-clause-stopped : goal.returns-in_err-tree-clause-stopped
returns-in_err-tree-clause-stopped g c =
    let told = g.F.Files.held c.args.files.now in
    let asked = meant c.args.asked.now in
    let base = flat_tree c.in_ok-base.base in
    let handed : c.from_residual-in_err-tree.result ≡ Err (c.in_err-tree.field-0.0) = search (rules, c.from_residual-in_err-tree.ensures) in
    rw handed
    (due_later (AfterOverlays told asked.overlays base.root nothing) _
    (λ outcome refused. (tree_file_step told asked.base).gives base c.in_ok-base.ensures.read (λ base. AfterTheBase told asked base nothing) outcome ((overlays_step told asked.overlays base.root).stays (λ root. nothing (made_of base root)) outcome refused))
    _ _ _ c.in_ok-base.ensures.only_read.counted (c.in_err-tree.field-0.0) (rw (c.in_ok-base.ensures.only_read.held_kept) at c.in_err-tree.ensures.stopped))

pub returns-clause-made : goal.returns-clause-made
returns-clause-made g c =
    (flat_tree c.in_ok-base.base, c.in_ok-base.ensures.read, (c.in_ok-tree.tree.tree, rw (c.in_ok-base.ensures.only_read.held_kept) at c.in_ok-tree.ensures.applied, refl))
