-- For private contracts and proofs: which word maps the next pages of a range: a block of 1 GiB or 2 MiB where one begins, and else a page.
use Rattle.std.specs.Prelude.{ℕ, ◌-◌, ◌%◌, ◌==◌, ◌&&◌, nat_le, if◌then◌else◌, min, Bool}
use Rattle.described.specs.Regions.{span}

-- a region of this level begins at a page and at its frame, and lies in the pages that are left
abbrev pub fits : ℕ → ℕ → ℕ → ℕ → Bool
fits level page frame left = (page % span level == 0) && (frame % span level == 0) && nat_le (span level) left

-- the level of the largest word that fits
abbrev pub leaf_level : ℕ → ℕ → ℕ → ℕ
leaf_level page frame left = if fits 1 page frame left then 1 else if fits 2 page frame left then 2 else 3

-- how many of the pages left are mapped from a page on, until a block may begin: those of a block, or the pages whose words stand in one table
abbrev pub stretch : ℕ → ℕ → ℕ → ℕ
stretch level page left = if level == 3 then min (512 - page % 512) left else span level
