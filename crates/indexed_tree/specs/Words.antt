-- Words within a value: numbers of four bytes, the most significant first (Devicetree Specification 0.4, 2.2.4, u32).
use Rattle.std.specs.Prelude.{ℕ, ◌+◌, ◌++◌, take, drop}
use Rattle.std.specs.Int.{w32, to_be_bytes}
use Rattle.fdt_tree.specs.Tree.{Bytes}

-- the bytes with another word at an offset
abbrev pub with_word : Bytes → ℕ → ℕ → Bytes
with_word bytes offset number = take offset bytes ++ (to_be_bytes w32 number ++ drop (offset + 4) bytes)
