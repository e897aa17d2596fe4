-- The exit statuses.
use Rattle.std.specs.Prelude.{ℕ}
use Rattle.outside.specs.declared.status.Status.{Status}
use Rattle.outside.specs.declared.status.Status.TheVariants.{Built, Memory, Words, Refused, Format, Read, Write, Longer, Differs}

-- the exit status of a run that ended so
abbrev pub code_of : Status → ℕ
code_of Built = 0
code_of Memory = 1
code_of Words = 2
code_of Refused = 3
code_of Format = 4
code_of Read = 5
code_of Write = 6
code_of Longer = 7
code_of Differs = 8
