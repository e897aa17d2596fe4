-- What private contracts say of leaves.
use Rattle.std.specs.Prelude.{◌≡◌, ℕ, ◌-◌, ◌≤◌, true}
use Rattle.described.specs.Regions.{Map, region_around, is_run}

-- no larger run holds a page, but one that begins there
abbrev pub IsFresh : Map → ℕ → Type 0
IsFresh mapping page = (level : ℕ) → 1 ≤ level → level ≤ 2 → is_run mapping (region_around level page) ≡ true → (region_around level page).page ≡ page
