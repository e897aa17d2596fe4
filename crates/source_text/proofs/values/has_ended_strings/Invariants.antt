use Rattle.std.proofs.Common.{◌≡◌, ◌==◌, length}
use Rattle.std.specs.List.{slice_split}
use Rattle.source_text.specs.Printed.{are_ended_strings}
use Rattle.source_text.proofs.values.has_ended_strings.Given as goal

-- All pieces are ended strings where those that are left are.
abbrev pub invariant-loop-string : goal.invariant-loop-string
invariant-loop-string l =
    are_ended_strings (slice_split (λ byte. byte == 0) l.value) ≡ are_ended_strings (slice_split (λ byte. byte == 0) l.rest)

abbrev pub decreases-loop-string : goal.decreases-loop-string
decreases-loop-string l = length l.rest
