-- For proofs and private contracts alone: what the code keeps of the nodes above devices.
use Rattle.std.specs.Prelude.{◌≡◌, ◌≤◌, ℕ, Option, IfSome}
use Rattle.std.specs.BTreeMap.{BTreeMap, get}
use Rattle.std.specs.Ordering.{nat_cmp}
use Rattle.fdt_tree.specs.Document.{Document, properties_of}
use Rattle.fdt_tree.specs.Values.{cells_of}

-- these are the cells that a node says for its children
pub record AreCells (document : Document) (above : ℕ) (cells : Option (ℕ × ℕ)) : Type 0 where
  pub said : cells_of (properties_of document above) ≡ cells
  pub within : IfSome cells (λ counts. (1 ≤ counts.0) × (counts.0 ≤ 2) × (1 ≤ counts.1) × (counts.1 ≤ 2))

-- the cells that are kept of each node are its own
abbrev pub AreCounts : Document → BTreeMap ℕ (Option (ℕ × ℕ)) → Type 0
AreCounts document counts = (above : ℕ) → IfSome (get nat_cmp counts above) (AreCells document above)
