-- What is written is read as what was written.
use Rattle.std.specs.Prelude.{ℕ, ◌^◌, ◌<◌, ◌≤◌, not, List, length, IsTrue, All}
use Rattle.std.specs.List.{list_all}
use Rattle.fdt_tree.specs.Tree.{Tree}
use Rattle.fdt_tree.specs.Whole.{IsKept}
use Rattle.fdt_tree.specs.declared.reserve.Reserve.{Reserve}
use Rattle.fdt_read.specs.Reservations.{is_last_pair}
use Rattle.fdt_read.specs.Spells.{Spells}
use Rattle.fdt_write.specs.Flattened.{flattened, length_limit}

-- The address and the size are numbers of 64 bits.
abbrev pub IsWide : Reserve → Type 0
IsWide reserve = (reserve.address < 2 ^ 64) × (reserve.size < 2 ^ 64)

-- Reservations that end where they end: numbers of 64 bits, and no pair of zeros.
pub record AreReserves (reserves : List Reserve) : Type 0 where
  pub wide : All IsWide reserves
  pub not_last : IsTrue (list_all (λ reserve. not (is_last_pair reserve)) reserves)

-- The canonical bytes spell the reservations, the boot processor and the tree that they were made from, for trees that are kept and at most 2 MiB.
abbrev pub IsReadBack : Type 0
IsReadBack =
    (reserves : List Reserve) (boot : ℕ) (t : Tree) → AreReserves reserves → boot < 2 ^ 32 → IsKept t → length (flattened reserves boot t) ≤ length_limit → Spells (flattened reserves boot t) reserves boot t
