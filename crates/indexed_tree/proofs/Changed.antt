-- Entries of which one has other properties.
use Rattle.std.proofs.Common.{IsTrue, ◌≡◌, ◌≢◌, ◌⊎◌, inl, inr, ◌∙◌, ap, sym, subst, refl, ℕ, zero, suc, ◌<◌, List, [], ◌∷◌, Some, option_map, length, map, slice_get, arith}
use Rattle.std.proofs.lemmas.Bool.{cases_eq}
use Rattle.fdt_tree.specs.Tree.{Property, change_properties}
use Rattle.fdt_tree.specs.Document.{Document, place_of, properties_of, with_properties, have_names}
use Rattle.fdt_tree.specs.Assembled.{Added, assembled}
use Rattle.fdt_tree.specs.PrivateLinks.{modified}
use Rattle.fdt_tree.proofs.Edits.{name-edit}
use Rattle.fdt_tree.proofs.Lists.{get-modified_same, get-modified_other, length-modified, get-within}
use Rattle.fdt_tree.proofs.Changes.{altered, document-changed, children_at-change}
use Rattle.fdt_nodes.specs.ChildMaps.{IsChildMap}
use Rattle.indexed_tree.specs.PrivateArena.{row, held, IsEntryOf, IsHeld}
use Rattle.indexed_tree.specs.declared.entry.Entry.{Entry}
use Rattle.indexed_tree.proofs.Grown.{one-item}
use Rattle.indexed_tree.proofs.Numberings.{face-other, face-same, properties-face, IsNumbering-changed, IsNamed-changed}
use Rattle.indexed_tree.proofs.ChildMaps.{child-map-changed}

map-changed : (g : List Property → List Property) (es : List Entry) (p : ℕ) (x y : Entry) → slice_get es p ≡ Some x → row y ≡ altered g (row x) → map row (modified (λ _. y) p es) ≡ modified (altered g) p (map row es)
map-changed g [] p x y here same = refl
map-changed g (e ∷ es) zero x y here same = let one : e ≡ x = cc in ap (λ r. r ∷ map row es) (same ∙ ap (λ (z : Entry). altered g (row z)) (sym one))
map-changed g (e ∷ es) (suc p) x y here same = ap (λ rs. row e ∷ rs) (map-changed g es p x y here same)

pub row-there : (es : List Entry) (i : ℕ) (r : Added) → slice_get (map row es) i ≡ Some r → (e : Entry) × (slice_get es i ≡ Some e) × (row e ≡ r)
row-there [] i r at = absurd (cc)
row-there (e ∷ es) zero r at = (e, refl, cc)
row-there (e ∷ es) (suc i) r at = row-there es i r at

pub length-rows : (es : List Entry) → length (map row es) ≡ length es
length-rows [] = refl
length-rows (e ∷ es) = ap suc (length-rows es)

-- an entry with a change of its properties
pub record IsChanged (g : List Property → List Property) (was now : Entry) : Type 0 where
  pub entry : now ≡ record was { properties = now.properties }
  pub properties : now.properties ≡ g was.properties

module _ (was : List Entry) (p : ℕ) (x y : Entry) (g : List Property → List Property) (is : IsHeld (held was) was) (here : slice_get was p ≡ Some x) (changed : IsChanged g x y) where
  abbrev d : Document
  d = held was

  abbrev now : List Entry
  now = modified (λ _. y) p was

  live : p < length d.places
  live = omega (arith, get-within was p x here, is.numbered)

  pub held-changed : held now ≡ with_properties d (place_of d p) g
  held-changed =
      ap assembled (map-changed g was p x y here (ap row changed.entry ∙ ap (λ ps. record { parent = x.parent; name = x.name; properties = ps }) changed.properties))
      ∙ document-changed g (map row was) p (omega (arith, get-within was p x here, length-rows was)) (λ i r at ne. let w = row-there was i r at in subst (λ (z : Added). z.parent < i) w.2 ((is.entries_of i w.0 w.1).earlier ne))

  abbrev e' : Document
  e' = with_properties d (place_of d p) g

  before : (i : ℕ) (e : Entry) → slice_get now i ≡ Some e → ((i ≡ p) × (e ≡ y)) ⊎ ((i ≢ p) × (slice_get was i ≡ Some e))
  before i e at = by (cases_eq i p)
    where
      by : (i ≡ p) ⊎ (i ≡ p → ⊥) → ((i ≡ p) × (e ≡ y)) ⊎ ((i ≢ p) × (slice_get was i ≡ Some e))
      by (inl q) = inl (q, one-item _ e y (ap (slice_get now) (sym q) ∙ at) (get-modified_same (λ _. y) was p ∙ ap (option_map (λ _. y)) here))
      by (inr q) = inr (q, sym (get-modified_other (λ _. y) was p i q) ∙ at)

  old : IsEntryOf d p x
  old = is.entries_of p x here

  pub properties-here : properties_of d p ≡ x.properties
  properties-here = properties-face d p x.name x.properties old.says

  changed-entry : IsEntryOf e' p y
  changed-entry = record {
    says = face-same d p g is.numbering live x.name x.properties old.says ∙ (ap (λ ps. Some (x.name, ps)) (sym changed.properties) ∙ ap (λ (e : Entry). Some (e.name, y.properties)) (sym changed.entry));
    stands = ap (λ (e : Entry). e.place.items) changed.entry ∙ old.stands;
    counted = ap (λ (e : Entry). e.count) changed.entry ∙ (old.counted ∙ sym (children_at-change g d.tree (place_of d p) (place_of d p)));
    earlier = λ ne. subst (λ (e : Entry). e.parent < p) (sym changed.entry) (old.earlier ne);
    children = child-map-changed d p g is.numbering live p y.children live (subst (λ c. IsChildMap d p c) (sym (ap (λ (e : Entry). e.children) changed.entry)) old.children);
  }

  other-entry : (i : ℕ) (e : Entry) → i ≢ p → slice_get was i ≡ Some e → IsEntryOf e' i e
  other-entry i e ne at =
      let o = is.entries_of i e at in
      let b : i < length d.places = omega (arith, get-within was i e at, is.numbered) in
      record {
        says = face-other d p g is.numbering live i b ne ∙ o.says;
        stands = o.stands;
        counted = o.counted ∙ sym (children_at-change g d.tree (place_of d p) (place_of d i));
        earlier = o.earlier;
        children = child-map-changed d p g is.numbering live i e.children b o.children;
      }

  as_long : length now ≡ length was
  as_long = length-modified (λ _. y) was p

  pub IsHeld-changed : IsTrue (have_names (g x.properties)) → IsHeld e' now
  IsHeld-changed good = record {
    some = omega (arith, is.some, as_long);
    root = is.root;
    unnamed = name-edit (change_properties g) (λ t. refl) d.tree (place_of d p) ∙ is.unnamed;
    numbered = is.numbered ∙ sym as_long;
    numbering = IsNumbering-changed d p g is.numbering live;
    kept = IsNamed-changed d p g is.numbering live is.kept (subst (λ ps. IsTrue (have_names (g ps))) (sym properties-here) good);
    few = λ i e at. few_by i e (before i e at);
    entries_of = λ i e at. entry_by i e (before i e at);
  }
    where
      few_by : (i : ℕ) (e : Entry) → ((i ≡ p) × (e ≡ y)) ⊎ ((i ≢ p) × (slice_get was i ≡ Some e)) → e.count < length now
      few_by i e (inl w) = let same_count : e.count ≡ x.count = ap (λ (z : Entry). z.count) (w.1 ∙ changed.entry) in omega (arith, same_count, as_long, is.few p x here)
      few_by i e (inr w) = omega (arith, is.few i e w.1, as_long)

      entry_by : (i : ℕ) (e : Entry) → ((i ≡ p) × (e ≡ y)) ⊎ ((i ≢ p) × (slice_get was i ≡ Some e)) → IsEntryOf e' i e
      entry_by i e (inl w) = subst (λ (z : Entry). IsEntryOf e' i z) (sym w.1) (subst (λ j. IsEntryOf e' j y) (sym w.0) changed-entry)
      entry_by i e (inr w) = other-entry i e w.0 w.1
