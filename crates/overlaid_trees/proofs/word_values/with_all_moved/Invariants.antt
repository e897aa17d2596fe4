use Rattle.std.proofs.Common.{◌≡◌, length}
use Rattle.overlaid_trees.specs.Words.{with_all_moved}
use Rattle.overlaid_trees.proofs.word_values.with_all_moved.Given as goal

-- what is left, done to what is made, gives the whole
abbrev pub invariant-loop-rest : goal.invariant-loop-rest
invariant-loop-rest l = with_all_moved l.fn.by l.fn.offsets l.fn.bytes ≡ with_all_moved l.fn.by l.rest l.made.items

abbrev pub decreases-loop-rest : goal.decreases-loop-rest
decreases-loop-rest l = length l.rest
