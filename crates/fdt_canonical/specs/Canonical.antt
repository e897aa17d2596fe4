-- What the canonical spelling of a file is.
use Rattle.std.specs.Prelude.{◌≡◌, ℕ, ◌≤◌, List, length}
use Rattle.fdt_tree.specs.Tree.{Bytes, Tree}
use Rattle.fdt_tree.specs.declared.reserve.Reserve.{Reserve}
use Rattle.fdt_read.specs.Spells.{Spells}
use Rattle.fdt_write.specs.Flattened.{flattened, length_limit}

-- The bytes are the canonical spelling of what the file spells: its tree, reservations and boot processor.
pub record IsCanonicalOf (file bytes : Bytes) : Type 0 where
  pub reserves : List Reserve
  pub boot : ℕ
  pub whole : Tree
  pub spelled : Spells file reserves boot whole
  pub canonical : bytes ≡ flattened reserves boot whole

-- The bytes are the canonical spelling of the file, and nothing else is; they are at most 2 MiB, and their own canonical spelling.
pub record IsOneSpelling (file bytes : Bytes) : Type 0 where
  pub written : IsCanonicalOf file bytes
  pub only : (other : Bytes) → IsCanonicalOf file other → other ≡ bytes
  pub fits : length bytes ≤ length_limit
  pub settled : IsCanonicalOf bytes bytes
