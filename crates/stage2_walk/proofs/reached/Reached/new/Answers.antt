use Rattle.stage2_walk.proofs.ReachedLemmas.{no_frames}
use Rattle.stage2_walk.proofs.reached.Reached.new.Goals as goal

pub invariant_of-result : goal.invariant_of-result
invariant_of-result c = no_frames c.new-2.result c.new.result.items c.new-2.ensures.empty c.new.ensures.items
