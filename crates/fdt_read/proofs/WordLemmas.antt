-- Numbers of a file, as the library `byteorder` reads them.
use Rattle.std.proofs.Common.{◌≡◌, ℕ, List, take, drop, sym, ◌∙◌, arith}
use Rattle.byteorder.specs.Endian.{big_number}
use Rattle.byteorder.specs.Numbers.{big_from-take}
use Rattle.fdt_tree.proofs.Numbers.{big_number_4, big_number_8}
use Rattle.fdt_read.specs.Header.{word, wide}

-- The first four bytes from an offset on are the word there.
pub word_read : (bytes : List ℕ) (offset : ℕ) → big_number 4 (drop offset bytes) ≡ word bytes offset
word_read bytes offset =
    sym (big_from-take 0 4 4 (drop offset bytes) (omega arith)) ∙ big_number_4 (take 4 (drop offset bytes))

-- The first eight bytes from an offset on are the number of 64 bits there.
pub wide_read : (bytes : List ℕ) (offset : ℕ) → big_number 8 (drop offset bytes) ≡ wide bytes offset
wide_read bytes offset =
    sym (big_from-take 0 8 8 (drop offset bytes) (omega arith)) ∙ big_number_8 (take 8 (drop offset bytes))
