-- The bytes of tokens and of reservations (Devicetree Specification 0.4, 5.3 and 5.4).
use Rattle.std.specs.Prelude.{ℕ, ◌-◌, List, [], ◌++◌, Some, None, length, flat_map, replicate}
use Rattle.std.specs.Int.{w32, w64, to_be_bytes}
use Rattle.fdt_tree.specs.Tree.{Bytes, Tree}
use Rattle.fdt_tree.specs.declared.reserve.Reserve.{Reserve}
use Rattle.fdt_read.specs.Tokens.{Token, begin_node, end_node, property, nop, end, broken, padded}
use Rattle.fdt_read.specs.Spelling.{spelled_whole}
use Rattle.fdt_write.specs.Strings.{strings, offset_in, ended}

-- A number as four bytes, the most significant first.
abbrev pub word_bytes : ℕ → Bytes
word_bytes number = to_be_bytes w32 number

-- A number as eight bytes, the most significant first.
abbrev pub wide_bytes : ℕ → Bytes
wide_bytes number = to_be_bytes w64 number

-- Bytes with zeros after them up to a multiple of four.
abbrev pub with_padding : Bytes → Bytes
with_padding bytes = bytes ++ replicate (padded (length bytes) - length bytes) 0

-- The bytes of a token (5.4.1), where the strings block has these names. A property without a name, and what is no token, have none.
abbrev pub token_bytes : List Bytes → Token → Bytes
token_bytes names (begin_node name) = word_bytes 1 ++ with_padding (ended name)
token_bytes names end_node = word_bytes 2
token_bytes names (property (Some name) value) =
    word_bytes 3 ++ (word_bytes (length value) ++ (word_bytes (offset_in names name) ++ with_padding value))
token_bytes names (property None value) = []
token_bytes names nop = word_bytes 4
token_bytes names end = word_bytes 9
token_bytes names broken = []

-- The structure block (5.4): the tokens that spell the tree.
abbrev pub structure_bytes : Tree → Bytes
structure_bytes t = flat_map (token_bytes (strings t)) (spelled_whole t)

-- A reservation: its address and its size.
abbrev pub reserve_bytes : Reserve → Bytes
reserve_bytes reserve = wide_bytes reserve.address ++ wide_bytes reserve.size

-- The reservation block (5.3), with the pair of zeros that ends it.
abbrev pub reservation_bytes : List Reserve → Bytes
reservation_bytes reserves = flat_map reserve_bytes reserves ++ replicate 16 0
