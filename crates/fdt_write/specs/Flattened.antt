-- The canonical bytes of a tree: the flattened format (Devicetree Specification 0.4, chapter 5), version 17, without gaps.
use Rattle.std.specs.Prelude.{ℕ, ◌+◌, List, [], ◌∷◌, ◌++◌, length, flat_map}
use Rattle.fdt_tree.specs.Tree.{Bytes, Tree}
use Rattle.fdt_tree.specs.declared.reserve.Reserve.{Reserve}
use Rattle.fdt_write.specs.Strings.{strings, strings_of}
use Rattle.fdt_write.specs.Blocks.{word_bytes, structure_bytes, reservation_bytes}

-- The words of the header (5.2), for blocks of these lengths: magic, total size, the offsets of structure, strings and reservations, version 17, compatible with 16, the boot processor, the sizes of strings and structure.
abbrev pub header_words : ℕ → ℕ → ℕ → ℕ → List ℕ
header_words boot reserved structured named =
    0xd00dfeed ∷ (40 + reserved + structured + named) ∷ (40 + reserved) ∷ (40 + reserved + structured) ∷ 40 ∷ 17 ∷ 16 ∷ boot ∷ named ∷ structured ∷ []

-- The header.
unfoldable pub header_bytes : ℕ → ℕ → ℕ → ℕ → Bytes
header_bytes boot reserved structured named = flat_map word_bytes (header_words boot reserved structured named)

-- The header before the three blocks.
abbrev pub with_header : ℕ → Bytes → Bytes → Bytes → Bytes
with_header boot reserved structured named =
    header_bytes boot (length reserved) (length structured) (length named) ++ (reserved ++ (structured ++ named))

-- The canonical bytes.
unfoldable pub flattened : List Reserve → ℕ → Tree → Bytes
flattened reserves boot t =
    with_header boot (reservation_bytes reserves) (structure_bytes t) (strings_of (strings t))

-- The most bytes that are written: 2 MiB.
abbrev pub length_limit : ℕ
length_limit = 2097152
