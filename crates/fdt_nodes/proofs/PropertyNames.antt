-- The names of a node's properties.
use Rattle.std.proofs.Common.{◌≡◌, subst, refl, ℕ, zero, suc, List, [], ◌∷◌, Some, Bool, true, false, slice_get}
use Rattle.std.specs.Prelude.{IsTrue, ◌&&◌}
use Rattle.fdt_tree.specs.Tree.{Bytes, Property, is_property_name}
use Rattle.fdt_tree.specs.Document.{have_names}

-- one of the properties has a name that it may have
pub named-at : (ps : List Property) (i : ℕ) (name value : Bytes) → IsTrue (have_names ps) → slice_get ps i ≡ Some (name, value) → IsTrue (is_property_name name)
named-at [] i name value named at = absurd (cc)
named-at (p ∷ ps) zero name value named at =
    let same : p.0 ≡ name = cc in subst (λ n. IsTrue (is_property_name n)) same (left (is_property_name p.0) (have_names ps) named)
  where
    left : (a b : Bool) → IsTrue (a && b) → IsTrue a
    left true b h = refl
    left false b h = h
named-at (p ∷ ps) (suc i) name value named at = named-at ps i name value (right (is_property_name p.0) (have_names ps) named) at
  where
    right : (a b : Bool) → IsTrue (a && b) → IsTrue b
    right true b h = h
    right false true h = refl
    right false false h = h
