use Rattle.std.proofs.Common.{◌≡◌}
use Rattle.source_text.specs.BadNames.{first_bad}
use Rattle.source_text.proofs.Bad.{first_bad_token}
use Rattle.source_text.proofs.print.bad_path.Given as goal

-- The first fault of the tree is the first of the tokens that are left.
abbrev pub invariant-loop-token : goal.invariant-loop-token
invariant-loop-token l = first_bad_token l.nodes l.token-iterator ≡ first_bad l.tree.tree
