use Rattle.std.proofs.Common.{rules, ◌≡◌, Err}
use Rattle.fdt_read.proofs.NoLastPair.{no_last_pairs}
use Rattle.run_steps.specs.Steps.{nothing}
use Rattle.tree_files.specs.Trees.{flat_tree, AfterTreeFile}
use Rattle.run_steps.proofs.Due.{due_here, stopped_anyway, built_for}
use Rattle.tree_files.proofs.TreeSteps.{tree_file_step}
use Rattle.fdt_source.specs.Job.{IsPrinting}
use Rattle.fdt_source.proofs.tree_printing.print_file.Goals as goal

pub returns-in_err-tree-clause-stopped : goal.returns-in_err-tree-clause-stopped
returns-in_err-tree-clause-stopped g c =
    let handed : c.from_residual.result ≡ Err (c.in_err-tree.field-0.0) = search rules in
    rw handed
    (due_here (AfterTreeFile (g.F.Files.held c.args.files.now) c.args.name.now nothing) _
    ((tree_file_step (g.F.Files.held c.args.files.now) c.args.name.now).stays (IsPrinting c.args.name.now))
    _ _ (c.in_err-tree.field-0.0) c.in_err-tree.ensures.stopped)

pub print_tree-requires : goal.print_tree-requires
print_tree-requires g c = let read = c.in_ok-tree.ensures.read in no_last_pairs read.file _ _ _ read.flattened.spelled

pub returns-clause-built : goal.returns-clause-built
returns-clause-built g c =
    built_for (IsPrinting c.args.name.now (flat_tree c.in_ok-tree.tree)) _
    ((tree_file_step (g.F.Files.held c.args.files.now) c.args.name.now).gives (flat_tree c.in_ok-tree.tree) c.in_ok-tree.ensures.read (IsPrinting c.args.name.now)) c.print_tree.result c.print_tree.ensures.built

pub returns-clause-stopped : goal.returns-clause-stopped
returns-clause-stopped g c =
    stopped_anyway (IsPrinting c.args.name.now (flat_tree c.in_ok-tree.tree)) _
    ((tree_file_step (g.F.Files.held c.args.files.now) c.args.name.now).gives (flat_tree c.in_ok-tree.tree) c.in_ok-tree.ensures.read (IsPrinting c.args.name.now)) _ _ c.print_tree.result c.print_tree.ensures.stopped
