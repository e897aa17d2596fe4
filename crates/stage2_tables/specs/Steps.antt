-- For private contracts and proofs: what a sweep does at a leaf: it links the tables on the way that are not linked yet, and writes the leaf's word.
use Rattle.std.specs.Prelude.{ℕ, ◌+◌, ◌/◌, ◌%◌, ◌^◌, ◌<◌, ◌≤◌, ◌==◌, nat_le, nat_lt, if◌then◌else◌, List, slice_index}
use Rattle.described.specs.Regions.{span}
use Rattle.stage2_walk.specs.Pages.{Page, frames_of, with_word}
use Rattle.stage2_tables.specs.Words.{table_word}
use Rattle.stage2_tables.specs.declared.sweep.Sweep.{Sweep}

-- the sweep with the table of the 1 GiB region of a page linked
abbrev pub large_sweep : Sweep → ℕ → Sweep
large_sweep sweep page =
    if nat_le sweep.large (page / 2 ^ 18)
    then record { used = sweep.used + 1; large = page / 2 ^ 18 + 1; small = sweep.small; middle = sweep.used; last = sweep.last }
    else sweep

-- the sweep with the table of the 2 MiB region of a page linked
abbrev pub small_sweep : Sweep → ℕ → Sweep
small_sweep sweep page =
    if nat_le sweep.small (page / 2 ^ 9)
    then record { used = sweep.used + 1; large = sweep.large; small = page / 2 ^ 9 + 1; middle = sweep.middle; last = sweep.used }
    else sweep

-- the sweep with the tables linked that a leaf of a level needs
abbrev pub leaf_sweep : Sweep → ℕ → ℕ → Sweep
leaf_sweep sweep page level =
    if nat_lt 1 level
    then if nat_lt 2 level then small_sweep (large_sweep sweep page) page else large_sweep sweep page
    else sweep

-- the pages with a word written in the table at a place
abbrev pub word_at : List Page → ℕ → ℕ → ℕ → List Page
word_at pages place index word = with_word pages (slice_index (frames_of pages) place) index word

-- the pages with the table of the 1 GiB region of a page linked in its root table
abbrev pub large_pages : List Page → Sweep → ℕ → List Page
large_pages pages sweep page =
    if nat_le sweep.large (page / 2 ^ 18)
    then word_at pages (page / 2 ^ 27) (page / 2 ^ 18 % 512) (table_word (slice_index (frames_of pages) sweep.used))
    else pages

-- the pages with the table of the 2 MiB region of a page linked in the latest table of a 1 GiB region
abbrev pub small_pages : List Page → Sweep → ℕ → List Page
small_pages pages sweep page =
    if nat_le sweep.small (page / 2 ^ 9)
    then word_at pages sweep.middle (page / 2 ^ 9 % 512) (table_word (slice_index (frames_of pages) sweep.used))
    else pages

-- the pages with the tables linked that a leaf of a level needs
abbrev pub linked_pages : List Page → Sweep → ℕ → ℕ → List Page
linked_pages pages sweep page level =
    if nat_lt 1 level
    then if nat_lt 2 level then small_pages (large_pages pages sweep page) (large_sweep sweep page) page else large_pages pages sweep page
    else pages

-- the place of the table that has the word of a leaf
abbrev pub leaf_place : Sweep → ℕ → ℕ → ℕ
leaf_place sweep page level = if level == 1 then page / 2 ^ 27 else if level == 2 then sweep.middle else sweep.last

-- the pages with the word of a leaf
abbrev pub leaf_pages : List Page → Sweep → ℕ → ℕ → ℕ → List Page
leaf_pages pages sweep page level word = word_at pages (leaf_place sweep page level) (page / span level % 512) word

-- the tables that a leaf needs are there: places for the new ones, and the latest
pub record HasRoom (count : ℕ) (sweep : Sweep) (page level : ℕ) : Type 0 where
  pub roots : 2 ≤ count
  pub few : count < 2 ^ 32
  pub used : sweep.used ≤ count
  pub large : 1 < level → sweep.large ≤ page / 2 ^ 18 → sweep.used < count
  pub small : 2 < level → (large_sweep sweep page).small ≤ page / 2 ^ 9 → (large_sweep sweep page).used < count
  pub middle : 2 < level → (large_sweep sweep page).middle < count
  pub place : leaf_place (leaf_sweep sweep page level) page level < count
