-- For proofs and private contracts alone: what was met, to be looked up.
use Rattle.std.specs.Prelude.{◌≡◌, ◌==◌, ℕ, List}
use Rattle.std.specs.List.{list_any}
use Rattle.std.specs.BTreeSet.{BTreeSet, contains}
use Rattle.std.specs.Ordering.{nat_cmp, ordering_then}
use Rattle.std.specs.declared.cmp.Ordering.{Ordering}
use Rattle.fdt_nodes.specs.declared.entries.Window.{Window}
use Rattle.passthrough_dtb.specs.Ranges.{is_among}

-- ranges in order: by host address, then by guest address, then by size
abbrev pub range_order : Window → Window → Ordering
range_order one other = ordering_then (nat_cmp one.host other.host) (ordering_then (nat_cmp one.guest other.guest) (nat_cmp one.size other.size))

-- the set has the ranges of the list, and no others
abbrev pub HasRanges : BTreeSet Window → List Window → Type 0
HasRanges known ranges = (range : Window) → contains range_order known range ≡ is_among ranges range

-- the set has the phandles of the list, and no others
abbrev pub HasPhandles : BTreeSet ℕ → List ℕ → Type 0
HasPhandles known phandles = (phandle : ℕ) → contains nat_cmp known phandle ≡ list_any (λ other. other == phandle) phandles
