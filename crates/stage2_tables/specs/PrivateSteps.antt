-- What private contracts say of tables that are linked.
use Rattle.std.specs.Prelude.{ℕ, ◌/◌, ◌%◌, ◌^◌, ◌<◌}
use Rattle.stage2_tables.specs.declared.sweep.Sweep.{Sweep}

-- the tables on the way to a page are linked, and the page is not the first of its 2 MiB region
pub record IsInLinked (sweep : Sweep) (page : ℕ) : Type 0 where
  pub large : page / 2 ^ 18 < sweep.large
  pub small : page / 2 ^ 9 < sweep.small
  pub behind : 0 < page % 2 ^ 9
