-- What a stage 2 descriptor means (Arm ARM, VMSAv8-64 stage 2 translation, 4 KB granule, 48-bit output addresses).
use Rattle.std.specs.Prelude.{ℕ, ◌+◌, ◌*◌, ◌/◌, ◌%◌, ◌^◌, ◌==◌, if◌then◌else◌}
use Rattle.described.specs.Regions.{span}
use Rattle.stage2_walk.specs.declared.descriptor.Meaning.{Meaning}
use Rattle.stage2_walk.specs.declared.descriptor.Meaning.TheVariants.{Invalid, Reserved, Table, Leaf}

-- width bits of a word, from bit low on
abbrev pub bits : ℕ → ℕ → ℕ → ℕ
bits word low width = word / 2 ^ low % 2 ^ width

-- the frame that a word names: bits 47:12
abbrev pub frame_field : ℕ → ℕ
frame_field word = bits word 12 36

-- the attributes of a leaf word, bits 54:51 and 11:2, in their places
abbrev pub attribute_field : ℕ → ℕ
attribute_field word = bits word 51 4 * 2 ^ 51 + bits word 2 10 * 2 ^ 2

-- a leaf of a level. Its frame is a multiple of the pages that a word of the level spans
abbrev pub leaf : ℕ → ℕ → Meaning
leaf level word = Leaf (frame_field word / span level * span level) (attribute_field word)

-- a word with bit 0 set: bit 1 tells a table from a block, and at level 3 a page from the reserved form
abbrev pub valid_means : ℕ → ℕ → Meaning
valid_means level word =
    if bits word 1 1 == 1
    then if level == 3 then leaf level word else Table (frame_field word)
    else if level == 3 then Reserved else leaf level word

-- what a word of a level means
unfoldable pub meaning : ℕ → ℕ → Meaning
meaning level word = if bits word 0 1 == 0 then Invalid else valid_means level word
