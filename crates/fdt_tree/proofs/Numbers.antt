-- Numbers of the library `byteorder`, and those of std.
use Rattle.std.proofs.Common.{◌≡◌, ℕ, List, arith}
use Rattle.std.specs.Int.{w32, w64, from_be_bytes}
use Rattle.byteorder.specs.Endian.{big_number}

-- Four bytes spell one number, the most significant first.
pub big_number_4 : (bytes : List ℕ) → big_number 4 bytes ≡ from_be_bytes w32 bytes
big_number_4 bytes = omega arith

-- Eight bytes spell one number, the most significant first.
pub big_number_8 : (bytes : List ℕ) → big_number 8 bytes ≡ from_be_bytes w64 bytes
big_number_8 bytes = omega arith
