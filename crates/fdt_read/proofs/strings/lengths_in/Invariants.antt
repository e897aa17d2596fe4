use Rattle.std.proofs.Common.{◌≡◌, ◌≤◌, length, drop}
use Rattle.std.specs.Prelude.{reverse}
use Rattle.fdt_read.specs.PrivateStrings.{length_before_nul, lengths_of}
use Rattle.fdt_read.proofs.strings.lengths_in.Given as goal

-- The lengths of the bytes from this one on are known, the last one first.
abbrev pub invariant-bytes : goal.invariant-bytes
invariant-bytes l = record {
  within : l.at ≤ length l.bytes;
  run : l.run ≡ length_before_nul (drop l.at l.bytes);
  known : reverse l.lengths.items ≡ lengths_of (drop l.at l.bytes);
}

abbrev pub decreases-bytes : goal.decreases-bytes
decreases-bytes l = l.at
