use Rattle.std.proofs.Common.{◌≡◌, ◌++◌, take, map, string_bytes}
use Rattle.ib_script.specs.Text.{spaced, two_digits}
use Rattle.ib_script.proofs.words.put_more_bytes.Given as goal

-- the bytes so far stand behind a space each
abbrev pub invariant-loop-byte : goal.invariant-loop-byte
invariant-loop-byte l = string_bytes l.out ≡ string_bytes l.initial.out ++ spaced (map two_digits (take l.byte-index l.bytes))
