-- The header of a flattened device tree, and the blocks that it names (Devicetree Specification 0.4, 5.2). All offsets count bytes from the beginning of the file.
use Rattle.std.specs.Prelude.{ℕ, ◌+◌, take, drop}
use Rattle.std.specs.Int.{w32, w64, from_be_bytes}
use Rattle.fdt_tree.specs.Tree.{Bytes}

-- The big-endian 32-bit number at an offset.
abbrev pub word : Bytes → ℕ → ℕ
word bytes offset = from_be_bytes w32 (take 4 (drop offset bytes))

-- The big-endian 64-bit number at an offset.
abbrev pub wide : Bytes → ℕ → ℕ
wide bytes offset = from_be_bytes w64 (take 8 (drop offset bytes))

-- What a flattened tree begins with (5.2, `magic`).
abbrev pub magic : Bytes → ℕ
magic bytes = word bytes 0

-- How many bytes the blocks may take, from the beginning of the file on (5.2, `totalsize`).
abbrev pub total_size : Bytes → ℕ
total_size bytes = word bytes 4

-- Where the structure block begins (5.2, `off_dt_struct`).
abbrev pub structure_offset : Bytes → ℕ
structure_offset bytes = word bytes 8

-- Where the strings block begins (5.2, `off_dt_strings`).
abbrev pub strings_offset : Bytes → ℕ
strings_offset bytes = word bytes 12

-- Where the memory reservation block begins (5.2, `off_mem_rsvmap`).
abbrev pub reservations_offset : Bytes → ℕ
reservations_offset bytes = word bytes 16

-- The version of the format (5.2, `version`).
abbrev pub version : Bytes → ℕ
version bytes = word bytes 20

-- The lowest version with which the file is compatible (5.2, `last_comp_version`).
abbrev pub last_compatible_version : Bytes → ℕ
last_compatible_version bytes = word bytes 24

-- The processor that boots the system (5.2, `boot_cpuid_phys`).
abbrev pub boot_processor : Bytes → ℕ
boot_processor bytes = word bytes 28

-- How many bytes the strings block has (5.2, `size_dt_strings`).
abbrev pub strings_size : Bytes → ℕ
strings_size bytes = word bytes 32

-- How many bytes the structure block has (5.2, `size_dt_struct`).
abbrev pub structure_size : Bytes → ℕ
structure_size bytes = word bytes 36

-- The offset past the structure block (5.4).
abbrev pub structure_end : Bytes → ℕ
structure_end bytes = structure_offset bytes + structure_size bytes

-- The offset past the strings block (5.5).
abbrev pub strings_end : Bytes → ℕ
strings_end bytes = strings_offset bytes + strings_size bytes

-- The strings block (5.5).
abbrev pub strings_block : Bytes → Bytes
strings_block bytes = take (strings_size bytes) (drop (strings_offset bytes) bytes)
