use Rattle.std.proofs.Common.{◌≡◌, ◌++◌, take, flat_map}
use Rattle.std.specs.Prelude.{codes}
use Rattle.source_text.specs.Printed.{pair_text}
use Rattle.source_text.proofs.values.append_more_bytes.Given as goal

-- The bytes so far are shown.
abbrev pub invariant-loop-byte : goal.invariant-loop-byte
invariant-loop-byte l = l.out ≡ l.initial.out ++ flat_map (λ byte. codes " " ++ pair_text byte) (take l.byte-index l.value)
