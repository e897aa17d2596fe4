use Rattle.std.proofs.Common.{◌≡◌, Some, take}
use Rattle.source_text.specs.PrivateReadings.{Built, IsRead, reached}
use Rattle.source_text.proofs.Running.{stand}
use Rattle.source_text.proofs.read.read_source.Given as goal

-- The bytes so far are read.
abbrev pub invariant-loop-offset : goal.invariant-loop-offset
invariant-loop-offset l = (b : Built) × (reached (take l.offset l.bytes) ≡ Some (stand l.comment l.next l.depth b)) × IsRead b l.depth l.reading
