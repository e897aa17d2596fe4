-- The memory reservation block (Devicetree Specification 0.4, 5.3).
use Rattle.std.specs.Prelude.{ℕ, zero, suc, Bool, ◌==◌, nat_lt, ◌&&◌, not, List, [], ◌∷◌, if◌then◌else◌, length, take, drop, take_while}
use Rattle.std.specs.List.{list_any}
use Rattle.fdt_tree.specs.Tree.{Bytes}
use Rattle.fdt_tree.specs.declared.reserve.Reserve.{Reserve}
use Rattle.fdt_read.specs.Header.{wide, total_size, reservations_offset}

-- The pair of 64-bit numbers that a row of bytes begins with: an address and a size in bytes.
abbrev pub first_pair : Bytes → Reserve
first_pair bytes = record { address = wide bytes 0; size = wide bytes 8 }

-- The whole pairs in a row of bytes, at most so many.
abbrev pub pairs_up_to : ℕ → Bytes → List Reserve
pairs_up_to zero bytes = []
pairs_up_to (suc most) bytes =
    if nat_lt (length bytes) 16 then [] else first_pair bytes ∷ pairs_up_to most (drop 16 bytes)

-- The whole pairs in a row of bytes. Each takes 16 bytes, so there are fewer than the bytes.
abbrev pub pairs : Bytes → List Reserve
pairs bytes = pairs_up_to (length bytes) bytes

-- The bytes from the reservation block on, up to the total size.
abbrev pub reservations_block : Bytes → Bytes
reservations_block bytes = drop (reservations_offset bytes) (take (total_size bytes) bytes)

-- A pair of zeros, which ends the list.
abbrev pub is_last_pair : Reserve → Bool
is_last_pair reserve = reserve.address == 0 && reserve.size == 0

-- Whether the list of reservations ends.
abbrev pub reservations_end : Bytes → Bool
reservations_end bytes = list_any is_last_pair (pairs (reservations_block bytes))

-- The pairs before the first pair of zeros.
abbrev pub before_last : List Reserve → List Reserve
before_last reserves = take_while (λ reserve. not (is_last_pair reserve)) reserves

-- The reservations.
abbrev pub reservations : Bytes → List Reserve
reservations bytes = before_last (pairs (reservations_block bytes))
