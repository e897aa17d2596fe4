-- Only private contracts and proofs use this file: numbers by names.
use Rattle.std.specs.Prelude.{◌≡◌, ℕ, suc, List, [], ◌∷◌, if◌then◌else◌, Option, Some, None, option_map, bytes_eq}
use Rattle.fdt_tree.specs.Tree.{Bytes, Property}
use Rattle.fdt_nodes.specs.ChildMaps.{Named, named}

-- where the first property of a name stands
abbrev pub first_at : Bytes → List Property → Option ℕ
first_at name [] = None
first_at name (property ∷ properties) = if bytes_eq property.0 name then Some 0 else option_map suc (first_at name properties)

-- an index has for each name where the first property of that name stands
abbrev pub IsNameIndex : Named → List Property → Type 0
IsNameIndex index properties = (name : Bytes) → named index name ≡ first_at name properties

-- the number of a name, where one name has a number given that has none
abbrev pub entered : Bytes → ℕ → Bytes → Option ℕ → Option ℕ
entered name number other (Some held) = Some held
entered name number other None = if bytes_eq name other then Some number else None
