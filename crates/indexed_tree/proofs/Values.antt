-- Properties and their names.
use Rattle.std.proofs.Common.{◌≡◌, ◌∙◌, sym, ap, subst, refl, ℕ, zero, suc, ◌+◌, ◌≤◌, List, [], ◌∷◌, ◌++◌, take, length, Bool, true, false, Some, slice_get, cond, arith}
use Rattle.std.specs.Prelude.{IsTrue, ◌&&◌, bytes_eq, Option, IsSomeAnd}
use Rattle.std.proofs.lemmas.Slice.Eq.{bytes_eq-Decides}
use Rattle.fdt_tree.specs.Tree.{Bytes, Property, is_property_name, property_of}
use Rattle.fdt_tree.specs.Document.{Document, have_names}
use Rattle.tree_parts.specs.Grown.{with_more}
use Rattle.tree_parts.proofs.Growing.{with_more-twice}

left : (a b : Bool) → IsTrue (a && b) → IsTrue a
left true b h = refl
left false b h = h

right : (a b : Bool) → IsTrue (a && b) → IsTrue b
right true b h = h
right false true h = refl
right false false h = h

-- one of the properties has a name that it may have
pub named-at : (ps : List Property) (i : ℕ) (name value : Bytes) → IsTrue (have_names ps) → slice_get ps i ≡ Some (name, value) → IsTrue (is_property_name name)
named-at [] i name value named at = absurd (cc)
named-at (p ∷ ps) zero name value named at =
    let same : p.0 ≡ name = cc in subst (λ n. IsTrue (is_property_name n)) same (left (is_property_name p.0) (have_names ps) named)
named-at (p ∷ ps) (suc i) name value named at = named-at ps i name value (right (is_property_name p.0) (have_names ps) named) at

-- one property more is given
pub given-next : (old now done : Document) (node i : ℕ) (ps : List Property) (p : Property) → now ≡ with_more old node (take i ps) → slice_get ps i ≡ Some p → done ≡ with_more now node (p ∷ []) → done ≡ with_more old node (take (i + 1) ps)
given-next old now done node i ps p before at after =
    after ∙ (ap (λ (z : Document). with_more z node (p ∷ [])) before ∙ (with_more-twice old node (take i ps) (p ∷ []) ∙ ap (with_more old node) (taken i ps at)))
  where
    taken : (i : ℕ) (ps : List Property) → slice_get ps i ≡ Some p → take i ps ++ p ∷ [] ≡ take (i + 1) ps
    taken i [] at = absurd (cc)
    taken zero (q ∷ ps) at = let same : p ≡ q = cc in ap (λ z. z ∷ []) same
    taken (suc i) (q ∷ ps) at = ap (λ z. q ∷ z) (taken i ps at) ∙ ap (λ n. take n (q ∷ ps)) (more i)
      where
        more : (i : ℕ) → suc (i + 1) ≡ suc i + 1
        more i = omega arith

-- all properties are given
pub all-given : (old now : Document) (node i : ℕ) (ps : List Property) → i ≡ length ps → now ≡ with_more old node (take i ps) → now ≡ with_more old node ps
all-given old now node i ps end given = given ∙ ap (with_more old node) (ap (λ n. take n ps) end ∙ all ps)
  where
    all : (ps : List Property) → take (length ps) ps ≡ ps
    all [] = refl
    all (p ∷ ps) = ap (λ z. p ∷ z) (all ps)

-- a property that is there has a name that it may have
pub named-of : (ps : List Property) (name value : Bytes) → IsTrue (have_names ps) → Some value ≡ property_of ps name → IsTrue (is_property_name name)
named-of [] name value named is = absurd (cc)
named-of (p ∷ ps) name value named is = by (named-of ps name value) (bytes_eq p.0 name) (λ e. (bytes_eq-Decides p.0 name).0 e) is
  where
    by : (IsTrue (have_names ps) → Some value ≡ property_of ps name → IsTrue (is_property_name name)) → (b : Bool) → (b ≡ true → p.0 ≡ name) → Some value ≡ cond b (Some p.1) (property_of ps name) → IsTrue (is_property_name name)
    by later true same is = subst (λ n. IsTrue (is_property_name n)) (same refl) (left (is_property_name p.0) (have_names ps) named)
    by later false decided is = later (right (is_property_name p.0) (have_names ps) named) is

-- the value of a property that is there is as long as is required
pub within-of : (value : Bytes) (found : Option Bytes) (offset : ℕ) → Some value ≡ found → IsSomeAnd found (λ other. offset + 4 ≤ length other) → offset + 4 ≤ length value
within-of value found offset is within = subst (λ (o : Option Bytes). IsSomeAnd o (λ other. offset + 4 ≤ length other)) (sym is) within
