-- A file is a flattened tree or is refused, and it is one tree.
use Rattle.std.specs.Prelude.{◌≡◌, ℕ, List, None, Some}
use Rattle.fdt_tree.specs.Tree.{Bytes, Tree}
use Rattle.fdt_tree.specs.declared.reserve.Reserve.{Reserve}
use Rattle.fdt_read.specs.declared.fault.FdtFault.{FdtFault}
use Rattle.fdt_read.specs.Refusals.{refusal}
use Rattle.fdt_read.specs.Spells.{Spells}

-- The file spells nothing.
abbrev pub SpellsNone : Bytes → Type 0
SpellsNone bytes = (reserves : List Reserve) (boot : ℕ) (t : Tree) → Spells bytes reserves boot t → ⊥

-- The file spells something, or has a refusal and spells nothing, and what it spells is one tree.
pub record IsDecided (bytes : Bytes) : Type 0 where
  pub spelled : refusal bytes ≡ None → (reserves : List Reserve) × (boot : ℕ) × (t : Tree) × Spells bytes reserves boot t
  pub refused : (fault : FdtFault) → refusal bytes ≡ Some fault → SpellsNone bytes
  pub one : (r q : List Reserve) (boot other : ℕ) (t u : Tree) → Spells bytes r boot t → Spells bytes q other u → (r ≡ q) × (boot ≡ other) × (t ≡ u)
