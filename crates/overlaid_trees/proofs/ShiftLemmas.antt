-- Values that are changed at a place.
use Rattle.std.proofs.Common.{◌≡◌, ◌∙◌, ap, sym, subst, refl, ℕ, List, [], ◌∷◌, Bool, true, false, cond, Option, Some, option_map}
use Rattle.std.specs.Prelude.{bytes_eq, option_and_then, IsTrue, ◌&&◌, slice_index_or}
use Rattle.std.proofs.lemmas.Slice.Eq.{bytes_eq-Decides}
use Rattle.fdt_tree.specs.Tree.{Bytes, Property, Tree, Place, edit, change_properties, property_of, is_property_name}
use Rattle.fdt_tree.specs.PathEdits.{set_property}
use Rattle.fdt_tree.specs.Document.{Document, place_of, properties_of, with_properties, have_names}
use Rattle.overlaid_trees.specs.Values.{changed_at}

-- the value is there, and changed
pub changed-some : (d new : Document) (node : ℕ) (name value made slice : Bytes) (change : Bytes → Option Bytes) → Some value ≡ property_of (properties_of d node) name → change value ≡ Some made → slice ≡ made → new ≡ with_properties d (place_of d node) (set_property name slice) → changed_at d.tree (place_of d node) name change ≡ Some new.tree
changed-some d new node name value made slice change is ok same done =
    ap (λ o. option_map written (option_and_then change o)) (sym is) ∙ (ap (option_map written) ok ∙ (ap (λ bytes. Some (written bytes)) (sym same) ∙ ap (λ (z : Document). Some z.tree) (sym done)))
  where
    written : Bytes → Tree
    written bytes = edit (change_properties (set_property name bytes)) d.tree (place_of d node)

-- a node stands where it stood
pub same-place : (old new : Document) (node : ℕ) → new.places ≡ old.places → place_of new node ≡ place_of old node
same-place old new node same = ap (λ places. slice_index_or places node []) same

-- a place that a path finds
pub at-found : {B : Type 0} (d : Document) (node : ℕ) (found : Option Place) (next : Place → Option B) (end : Option B) → Some (place_of d node) ≡ found → next (place_of d node) ≡ end → option_and_then next found ≡ end
at-found d node found next end is done = ap (option_and_then next) (sym is) ∙ done

-- a property that is there has a name that it may have
pub named-of : (ps : List Property) (name value : Bytes) → IsTrue (have_names ps) → Some value ≡ property_of ps name → IsTrue (is_property_name name)
named-of [] name value named is = absurd (cc)
named-of (p ∷ ps) name value named is = by (named-of ps name value) (bytes_eq p.0 name) (λ e. (bytes_eq-Decides p.0 name).0 e) is
  where
    left : (a b : Bool) → IsTrue (a && b) → IsTrue a
    left true b h = refl
    left false b h = h

    right : (a b : Bool) → IsTrue (a && b) → IsTrue b
    right true b h = h
    right false true h = refl
    right false false h = h

    by : (IsTrue (have_names ps) → Some value ≡ property_of ps name → IsTrue (is_property_name name)) → (b : Bool) → (b ≡ true → p.0 ≡ name) → Some value ≡ cond b (Some p.1) (property_of ps name) → IsTrue (is_property_name name)
    by later true same is = subst (λ n. IsTrue (is_property_name n)) (same refl) (left (is_property_name p.0) (have_names ps) named)
    by later false decided is = later (right (is_property_name p.0) (have_names ps) named) is
