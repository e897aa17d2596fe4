use Rattle.std.proofs.Common.{length}
use Rattle.fdt_nodes.proofs.path_index.PathIndex.+find_below.Given as goal

abbrev pub decreases-find_below : goal.decreases-find_below
decreases-find_below l = length l.names.now
