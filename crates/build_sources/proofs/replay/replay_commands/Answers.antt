use Rattle.std.specs.Option.{option_copied}
use Rattle.tree_files.specs.Trees.{flat_tree, AfterTreeFile}
use Rattle.build_sources.specs.PrivateReplays.{AfterTreeRead}
use Rattle.build_sources.proofs.Handing.{then_stops, handed}
use Rattle.build_sources.proofs.SourceSteps.{tree_step}
use Rattle.tree_files.proofs.TreeSteps.{tree_file_step}
use Rattle.build_sources.proofs.replay.replay_commands.Goals as goal

pub returns-clause-stopped : goal.returns-clause-stopped
returns-clause-stopped g c =
    let told = g.F.Files.held c.args.files.now in
    let folder = option_copied c.args.folder in
    then_stops (AfterTreeFile told c.args.tree.now) (AfterTreeRead told c.args.script.now folder c.args.commands.now) (tree_step told c.args.tree.now)
    (flat_tree c.in_ok-file.file) (handed _ _ (tree_file_step told c.args.tree.now) (flat_tree c.in_ok-file.file) c.in_ok-file.ensures.read)
    _ _ _ c.read_tree.ensures.only_read.counted c.replay_on.result (rw c.in_ok-file.ensures.only_read.held_kept at c.replay_on.ensures.stopped)
