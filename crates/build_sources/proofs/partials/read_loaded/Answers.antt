use Rattle.std.proofs.Common.{refl, Some}
use Rattle.std.specs.Option.{option_copied}
use Rattle.run_steps.specs.Names.{joined}
use Rattle.run_steps.specs.Steps.{nothing}
use Rattle.tree_files.specs.Trees.{AfterTreeFile, flat_tree}
use Rattle.run_steps.proofs.Due.{due_here}
use Rattle.tree_files.proofs.TreeSteps.{tree_file_step}
use Rattle.build_sources.specs.Handed.{is, unrefused}
use Rattle.build_sources.proofs.partials.read_loaded.Goals as goal

pub returns-in-Ok-clause-read : goal.returns-in-Ok-clause-read
returns-in-Ok-clause-read g c =
    rw c.in-Some.is
    ((tree_file_step (g.F.Files.held c.args.files.now) (joined (option_copied c.args.folder) c.in-Some.load.now.name)).gives (flat_tree c.in-Ok.file)
    (rw (c.as_str-2.ensures, c.in_ok-path.ensures, c.as_str.ensures) at c.in-Ok.ensures.read)
    (λ file. is (Some c.in-Ok.file.flat.tree.tree) (Some file.root)) unrefused refl)

pub returns-clause-stopped : goal.returns-clause-stopped
returns-clause-stopped g c =
    let told = g.F.Files.held c.args.files.now in
    let name = joined (option_copied c.args.folder) c.in-Some.load.now.name in
    rw c.in-Some.is
    (due_here (AfterTreeFile told name nothing) _ ((tree_file_step told name).stays (λ file. nothing (Some file.root))) _ _ c.in-Err.stop
    (rw (c.as_str-2.ensures, c.in_ok-path.ensures, c.as_str.ensures) at c.in-Err.ensures.stopped))
