use Rattle.overlaid_trees.proofs.HighestLemmas.{can-move}
use Rattle.overlaid_trees.proofs.copies.copy_moved.Goals as goal

pub copy_whole-requires : goal.copy_whole-requires
copy_whole-requires c = can-move c.args.source.now c.args.by c.numbering.ensures c.requires
