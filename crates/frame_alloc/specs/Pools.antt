-- What contracts see of a pool.
use Rattle.std.specs.Prelude.{ℕ, List}

-- the free frames, ascending, and how many more extents the pool has room for without new memory
pub record Pool : Type 0 where
  pub free : List ℕ
  pub spare : ℕ
