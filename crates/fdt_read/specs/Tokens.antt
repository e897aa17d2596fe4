-- The tokens of the structure block (Devicetree Specification 0.4, 5.4).
use Rattle.std.specs.Prelude.{ℕ, zero, suc, ◌+◌, ◌*◌, ◌/◌, Bool, true, false, ◌==◌, nat_lt, nat_le, List, [], ◌∷◌, if◌then◌else◌, Option, Some, None, length, take, drop, option_map, position, slice_range}
use Rattle.fdt_tree.specs.Tree.{Bytes}
use Rattle.fdt_read.specs.Header.{word, strings_block, structure_offset, structure_size}

-- The bytes before the first NUL, where there is one.
abbrev pub text : Bytes → Option Bytes
text bytes = option_map (λ length. take length bytes) (position (λ byte. byte == 0) bytes)

-- A length with its padding to four bytes.
abbrev pub padded : ℕ → ℕ
padded size = 4 * ((size + 3) / 4)

-- A token (5.4.1). A property has its name, if the strings block has it, and its value. `broken` stands where there is no token.
pub data Token : Type 0 where
  begin_node : Bytes → Token
  end_node : Token
  property : Option Bytes → Bytes → Token
  nop : Token
  end : Token
  broken : Token

-- The name at an offset of the strings block (5.5).
abbrev pub name_at : Bytes → ℕ → Option Bytes
name_at bytes offset = text (drop offset (strings_block bytes))

-- A token at an offset and the offset past it, if that is in the structure block.
abbrev pub if_within : ℕ → ℕ → Token → ℕ → Token × ℕ
if_within stop offset token next = if nat_le next stop then (token, next) else (broken, offset)

-- A BEGIN_NODE at an offset, with the name after it, its NUL and padding.
abbrev pub begin_node_at : ℕ → ℕ → Option Bytes → Token × ℕ
begin_node_at stop offset None = (broken, offset)
begin_node_at stop offset (Some name) = if_within stop offset (begin_node name) (offset + 4 + padded (length name + 1))

-- A PROP at an offset, with the length of its value, the offset of its name, its value and padding.
abbrev pub property_at : Bytes → ℕ → ℕ → Token × ℕ
property_at bytes stop offset =
    if nat_lt stop (offset + 12) then (broken, offset) else if_within stop offset (property (name_at bytes (word bytes (offset + 8))) (slice_range bytes (offset + 12) (offset + 12 + word bytes (offset + 4)))) (offset + 12 + padded (word bytes (offset + 4)))

-- The token of a kind at an offset, and the offset past it.
abbrev pub token_of : ℕ → Bytes → ℕ → ℕ → Token × ℕ
token_of kind bytes stop offset =
    if kind == 1 then begin_node_at stop offset (text (slice_range bytes (offset + 4) stop)) else if kind == 2 then (end_node, offset + 4) else if kind == 3 then property_at bytes stop offset else if kind == 4 then (nop, offset + 4) else if kind == 9 then (end, offset + 4) else (broken, offset)

-- The token at an offset of the structure block, which ends at stop, and the offset past it.
abbrev pub token_at : Bytes → ℕ → ℕ → Token × ℕ
token_at bytes stop offset =
    if nat_lt stop (offset + 4) then (broken, offset) else token_of (word bytes offset) bytes stop offset

-- Whether no token follows this one.
abbrev pub is_final : Token → Bool
is_final end = true
is_final broken = true
is_final _ = false

-- The tokens from an offset on with their offsets, up to the first END or the first place without a token.
abbrev pub tokens_from : ℕ → Bytes → ℕ → ℕ → List (ℕ × Token)
tokens_from zero bytes stop offset = []
tokens_from (suc turns) bytes stop offset =
    (offset, (token_at bytes stop offset).0) ∷ (if is_final (token_at bytes stop offset).0 then [] else tokens_from turns bytes stop (token_at bytes stop offset).1)

-- The tokens of a block of so many bytes at an offset. Each takes four bytes or more, so there are fewer than the bytes.
abbrev pub tokens_of_block : Bytes → ℕ → ℕ → List (ℕ × Token)
tokens_of_block bytes start size = tokens_from (size + 1) bytes (start + size) start

-- The tokens of the structure block, each with its offset.
abbrev pub tokens : Bytes → List (ℕ × Token)
tokens bytes = tokens_of_block bytes (structure_offset bytes) (structure_size bytes)
