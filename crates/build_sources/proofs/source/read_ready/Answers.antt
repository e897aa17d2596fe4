use Rattle.std.proofs.Common.{refl}
use Rattle.tree_files.specs.Trees.{flat_tree}
use Rattle.tree_files.proofs.TreeSteps.{tree_file_step}
use Rattle.build_sources.specs.Handed.{is, unrefused}
use Rattle.build_sources.specs.Sources.{ready_stand}
use Rattle.build_sources.proofs.source.read_ready.Goals as goal

pub returns-clause-stands : goal.returns-clause-stands
returns-clause-stands g c =
    rw (c.new.ensures, c.new-2.ensures, c.new-3.ensures)
    ((tree_file_step (g.F.Files.held c.args.files.now) c.args.tree.now).gives (flat_tree c.in_ok-flat.field-0) c.in_ok-flat.ensures.read
    (λ file. is (ready_stand (flat_tree c.in_ok-flat.field-0)) (ready_stand file)) unrefused refl)
