use Rattle.std.proofs.Common.{◌≡◌, ◌++◌, length}
use Rattle.std.specs.Prelude.{codes}
use Rattle.texts.specs.NumberTexts.{hexadecimal}
use Rattle.source_text.specs.Printed.{behind_marks, words}
use Rattle.source_text.proofs.values.append_more_words.Given as goal

-- What was added, and the words that are left, are all words.
abbrev pub invariant-loop-rest : goal.invariant-loop-rest
invariant-loop-rest l =
    l.out ++ behind_marks (codes " ") hexadecimal (words l.rest) ≡ l.initial.out ++ behind_marks (codes " ") hexadecimal (words l.value)

abbrev pub decreases-loop-rest : goal.decreases-loop-rest
decreases-loop-rest l = length l.rest
