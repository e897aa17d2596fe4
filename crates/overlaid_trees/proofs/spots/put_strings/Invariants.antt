use Rattle.std.proofs.Common.{◌≡◌, length}
use Rattle.overlaid_trees.specs.Resolve.{with_strings}
use Rattle.overlaid_trees.proofs.spots.put_strings.Given as goal

-- the strings that are left, done to the tree so far, give the whole
abbrev pub invariant-loop-string : goal.invariant-loop-string
invariant-loop-string l = with_strings l.fn.number l.initial.tree.tree l.value ≡ with_strings l.fn.number l.tree.tree l.rest

abbrev pub decreases-loop-string : goal.decreases-loop-string
decreases-loop-string l = length l.rest
