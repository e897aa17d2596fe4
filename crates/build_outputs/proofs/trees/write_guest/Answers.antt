use Rattle.build_outputs.proofs.trees.write_guest.Goals as goal

pub returns-clause-spelled : goal.returns-clause-spelled
returns-clause-spelled c = rw c.in_ok-tree.ensures at c.in_ok-bytes.ensures.spelled
