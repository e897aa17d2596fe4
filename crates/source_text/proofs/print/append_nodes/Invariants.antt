use Rattle.std.proofs.Common.{◌≡◌, ◌++◌}
use Rattle.source_text.specs.Printed.{tree_lines}
use Rattle.source_text.proofs.Lined.{tokens_lines}
use Rattle.source_text.proofs.print.append_nodes.Given as goal

-- What was added, and the lines of the tokens that are left, are the lines of the tree.
abbrev pub invariant-loop-token : goal.invariant-loop-token
invariant-loop-token l =
    l.out ++ tokens_lines l.tabs l.token-iterator ≡ l.initial.out ++ tree_lines l.tree.tree
