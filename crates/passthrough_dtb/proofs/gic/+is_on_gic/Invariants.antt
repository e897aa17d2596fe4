use Rattle.passthrough_dtb.proofs.gic.+is_on_gic.Given as goal

abbrev pub decreases-is_on_gic : goal.decreases-is_on_gic
decreases-is_on_gic l = l.node
