use Rattle.std.proofs.Common.{◌≡◌, ◌++◌, length}
use Rattle.std.specs.Prelude.{codes}
use Rattle.fdt_tree.specs.Values.{strings}
use Rattle.source_text.specs.Printed.{behind_marks, quoted}
use Rattle.source_text.proofs.values.append_more_strings.Given as goal

-- What was added, and the strings that are left, are all strings.
abbrev pub invariant-loop-string : goal.invariant-loop-string
invariant-loop-string l =
    l.out ++ behind_marks (codes ", ") quoted (strings l.rest) ≡ l.initial.out ++ behind_marks (codes ", ") quoted (strings l.value)

abbrev pub decreases-loop-string : goal.decreases-loop-string
decreases-loop-string l = length l.rest
