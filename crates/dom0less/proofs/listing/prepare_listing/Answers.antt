use Rattle.tree_files.specs.Trees.{flat_tree}
use Rattle.tree_files.proofs.TreeSteps.{tree_file_step}
use Rattle.dom0less.specs.Job.{IsTreeListing}
use Rattle.dom0less.proofs.listing.prepare_listing.Goals as goal

pub returns-clause-built : goal.returns-clause-built
returns-clause-built g c =
    (tree_file_step (g.F.Files.held c.args.files.now) c.args.name.now).gives (flat_tree c.in_ok-tree.tree) c.in_ok-tree.ensures.read IsTreeListing _ c.in_ok-make_listing.ensures
