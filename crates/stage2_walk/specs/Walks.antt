-- The stage 2 walk over an image (Arm ARM, VMSAv8-64 stage 2 translation, 4 KB granule, two concatenated root tables at level 1).
use Rattle.std.specs.Prelude.{ℕ, ◌+◌, ◌*◌, ◌/◌, ◌%◌, ◌^◌, List, Option, Some, None}
use Rattle.described.specs.Regions.{span}
use Rattle.stage2_walk.specs.Pages.{Page, word_in}
use Rattle.stage2_walk.specs.Descriptors.{meaning}
use Rattle.stage2_walk.specs.declared.descriptor.Meaning.{Meaning}
use Rattle.stage2_walk.specs.declared.descriptor.Meaning.TheVariants.{Invalid, Reserved, Table, Leaf}
use Rattle.stage2_walk.specs.declared.walk.Step.{Step}
use Rattle.stage2_walk.specs.declared.walk.Step.TheVariants.{Mapped, Fault, NoPage}

-- the index that an address has in a table of a level: bits 38:30, 29:21 and 20:12 at levels 1, 2 and 3
abbrev pub index_at : ℕ → ℕ → ℕ
index_at level address = address / 2 ^ 12 / span level % 512

-- where a walk goes on from what a word of a level means; a table is followed by `next`
abbrev pub follow : (ℕ → Step) → ℕ → ℕ → Meaning → Step
follow next level address Invalid = Fault level
follow next level address Reserved = Fault level
follow next level address (Table frame) = next frame
follow next level address (Leaf frame attr) = Mapped (frame * 2 ^ 12 + address % (span level * 2 ^ 12)) attr

-- the same from a word, if the image has it
abbrev pub follow_word : (ℕ → Step) → ℕ → ℕ → ℕ → Option ℕ → Step
follow_word next level frame address None = NoPage level frame
follow_word next level frame address (Some word) = follow next level address (meaning level word)

-- the walk from a table of level 3 on. No word of level 3 means a table
unfoldable pub walk_page : List Page → ℕ → ℕ → Step
walk_page pages address frame = follow_word (λ _. Fault 3) 3 frame address (word_in pages frame (index_at 3 address))

-- the walk from a table of level 2 on
unfoldable pub walk_middle : List Page → ℕ → ℕ → Step
walk_middle pages address frame = follow_word (walk_page pages address) 2 frame address (word_in pages frame (index_at 2 address))

-- the walk from a table of level 1 on
unfoldable pub walk_root : List Page → ℕ → ℕ → Step
walk_root pages address frame = follow_word (walk_middle pages address) 1 frame address (word_in pages frame (index_at 1 address))

-- the walk of an address below 2^40: bit 39 chooses one of the two root pages
unfoldable pub walk : List Page → ℕ → ℕ → Step
walk pages root address = walk_root pages address (root + address / 2 ^ 39)

-- where a walk that ends in a leaf arrives: the address and the attributes
abbrev pub reached : Step → Option (ℕ × ℕ)
reached (Mapped address attr) = Some (address, attr)
reached (Fault level) = None
reached (NoPage level frame) = None
