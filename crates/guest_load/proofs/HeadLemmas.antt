-- Numbers of the library `byteorder`, and those of std.
use Rattle.std.proofs.Common.{◌≡◌, List, ℕ, arith}
use Rattle.std.specs.Int.{w64, from_le_bytes}
use Rattle.byteorder.specs.Endian.{little_number}

-- eight bytes spell one number, the least significant first
pub little_number_8 : (bytes : List ℕ) → little_number 8 bytes ≡ from_le_bytes w64 bytes
little_number_8 bytes = omega arith
