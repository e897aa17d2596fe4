use Rattle.stage2_tables.proofs.LeastLevels.{least_walks}
use Rattle.stage2_tables.proofs.laws.least_walks_the_map.Goals as goal

pub returns : goal.returns
returns c = least_walks
