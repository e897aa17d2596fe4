-- For proofs and private contracts alone: the names that the writer holds, with their offsets.
use Rattle.std.specs.Prelude.{◌≡◌, ℕ, ◌-◌, ◌^◌, min, List, [], ◌∷◌, ◌++◌, if◌then◌else◌, Option, Some, None, map}
use Rattle.std.specs.BTreeMap.{BTreeMap, get}
use Rattle.std.specs.Borrow.{Bor}
use Rattle.std.specs.Cmp.Lexicographic.{slice_cmp}
use Rattle.std.specs.Ordering.{nat_cmp}
use Rattle.std.specs.declared.cmp.Ordering.{Ordering}
use Rattle.fdt_tree.specs.Tree.{Bytes}
use Rattle.fdt_write.specs.Strings.{is_among, offset_in}

-- A length as 64 bits hold it: the greatest number where it is above that.
abbrev pub saturated : ℕ → ℕ
saturated length = min length (2 ^ 64 - 1)

-- The texts of names.
abbrev pub texts : List (Bor (List ℕ)) → List Bytes
texts names = map (λ name. name.now) names

-- The names and one more, if it is not among them.
abbrev pub with_name : List Bytes → Bytes → List Bytes
with_name names name = if is_among names name then names else names ++ name ∷ []

-- The offset of a name, if it is among them.
abbrev pub offset_of : List Bytes → Bytes → Option ℕ
offset_of names name = if is_among names name then Some (saturated (offset_in names name)) else None

-- The order of names.
abbrev pub name_cmp : Bor (List ℕ) → Bor (List ℕ) → Ordering
name_cmp one other = slice_cmp nat_cmp one.now other.now

-- The index gives the offset of each name, where these are the names of the strings block.
abbrev pub IsIndex : BTreeMap (Bor (List ℕ)) ℕ → List Bytes → Type 0
IsIndex index names = (name : Bor (List ℕ)) → get name_cmp index name ≡ offset_of names name.now
