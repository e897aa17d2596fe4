-- For proofs and private contracts alone: the look-up of phandles.
use Rattle.std.specs.Prelude.{◌≡◌, ℕ, ◌==◌, List}
use Rattle.std.specs.BTreeMap.{BTreeMap, get}
use Rattle.std.specs.Map.{lookup}
use Rattle.std.specs.Ordering.{nat_cmp}

-- The index gives for each phandle the node that is listed with it first.
abbrev pub IsIndexed : BTreeMap ℕ ℕ → List (ℕ × ℕ) → Type 0
IsIndexed index found = (phandle : ℕ) → get nat_cmp index phandle ≡ lookup (λ other. phandle == other) found
