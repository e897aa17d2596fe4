-- Entries with one more.
use Rattle.std.proofs.Common.{IsTrue, ◌≡◌, ◌≢◌, ◌⊎◌, inl, inr, ◌∙◌, ap, sym, subst, refl, ℕ, suc, ◌+◌, ◌<◌, List, [], ◌∷◌, ◌++◌, Option, Some, option_map, length, map, slice_get, arith}
use Rattle.std.specs.Prelude.{unwrap_or}
use Rattle.std.proofs.lemmas.Bool.{cases_eq}
use Rattle.std.proofs.lemmas.List.{map-append}
use Rattle.fdt_tree.specs.Tree.{Bytes, none, Tree, Place, at, count, add_child, depth, depth_limit, is_node_name}
use Rattle.fdt_tree.specs.Document.{Document, place_of, node_at, children_at, with_node}
use Rattle.fdt_tree.specs.Assembled.{grown, assembled}
use Rattle.fdt_tree.specs.PrivateLinks.{summary, modified}
use Rattle.fdt_tree.proofs.Edits.{add_child-Extends, at-edit_same, at-edit_other, name-edit}
use Rattle.fdt_tree.proofs.Lists.{get-modified_same, get-modified_other, length-modified, get-append_old, get-append_new, get-within, length-last, assembled-last}
use Rattle.fdt_tree.proofs.Links.{mapped, children_at-there, count-with_last}
use Rattle.fdt_nodes.specs.ChildMaps.{named, IsChildMap}
use Rattle.tree_parts.proofs.Growing.{stands}
use Rattle.indexed_tree.specs.PrivateIndex.{entered}
use Rattle.indexed_tree.specs.PrivateArena.{row, held, IsEntryOf, IsHeld, IsFresh, IsAdded, IsKept}
use Rattle.indexed_tree.specs.declared.entry.Entry.{Entry}
use Rattle.indexed_tree.proofs.EntryLists.{map-kept}
use Rattle.indexed_tree.proofs.Numberings.{above, count-above, longer, old, new, new_at, face-old, face-new, IsNumbering-grown, IsNamed-grown}
use Rattle.indexed_tree.proofs.ChildMaps.{child-map-same, child-map-other, child-map-mother, child-map-new}

-- an item of a list is one item
pub one-item : {A : Type 0} (o : Option A) (x y : A) → o ≡ Some x → o ≡ Some y → x ≡ y
one-item o x y e f = cc

-- what the entries add up to
pub held-added : (was now : List Entry) (p : ℕ) (name : Bytes) (entry : Entry) → 0 < length was → IsAdded was now p name entry → held now ≡ grown (held was) (row entry)
held-added was now p name entry some added =
    let same : row added.mother ≡ row added.above = ap row added.is_mother.entry in
    ap held added.entries ∙ (ap assembled (map-append row (modified (λ _. added.mother) p was) (entry ∷ []) ∙ ap (λ rows. rows ++ row entry ∷ []) (map-kept row was p added.above added.mother added.here same)) ∙ assembled-last (map row was) (row entry) (more was some))
  where
    more : (es : List Entry) → 0 < length es → 0 < length (map row es)
    more [] h = absurd (omega arith)
    more (e ∷ es) h = omega arith

-- what they add up to, by the new child
pub held-child : (was now : List Entry) (p : ℕ) (name : Bytes) (entry : Entry) → 0 < length was → IsFresh was p name entry → IsAdded was now p name entry → held now ≡ with_node (held was) (place_of (held was) p) name []
held-child was now p name entry some fresh added =
    held-added was now p name entry some added ∙ (ap (λ n. with_node (held was) (place_of (held was) n) entry.name entry.properties) fresh.below ∙ (ap (λ n. with_node (held was) (place_of (held was) p) n entry.properties) fresh.name_is ∙ ap (with_node (held was) (place_of (held was) p) name) fresh.properties))

module _ (d : Document) (was now : List Entry) (p : ℕ) (name : Bytes) (entry : Entry) (is : IsHeld d was) (live : p < length d.places) (room : depth (place_of d p) ≢ depth_limit) (good : IsTrue (is_node_name name)) (fresh : IsFresh was p name entry) (added : IsAdded was now p name entry) where
  abbrev P : Place
  P = place_of d p

  abbrev d' : Document
  d' = with_node d P name []

  abbrev N : ℕ
  N = length was

  newest : N ≡ length d.places
  newest = sym is.numbered

  long : length now ≡ suc N
  long = ap length added.entries ∙ (length-last (modified (λ _. added.mother) p was) entry ∙ ap suc (length-modified (λ _. added.mother) was p))

  abbrev u : (u : Tree) × (at d.tree P ≡ Some u)
  u = above d p name is.numbering live

  -- which entry stands at a number
  which : (i : ℕ) (e : Entry) → slice_get now i ≡ Some e → ((i ≡ N) × (e ≡ entry)) ⊎ (((i ≡ p) × (e ≡ added.mother)) ⊎ ((i < N) × (i ≢ p) × (slice_get was i ≡ Some e)))
  which i e at = by (cases_eq i N) (cases_eq i p)
    where
      there : slice_get (modified (λ _. added.mother) p was ++ entry ∷ []) i ≡ Some e
      there = ap (λ es. slice_get es i) (sym added.entries) ∙ at

      size : length (modified (λ _. added.mother) p was) ≡ N
      size = length-modified (λ _. added.mother) was p

      by : (i ≡ N) ⊎ (i ≡ N → ⊥) → (i ≡ p) ⊎ (i ≡ p → ⊥) → ((i ≡ N) × (e ≡ entry)) ⊎ (((i ≡ p) × (e ≡ added.mother)) ⊎ ((i < N) × (i ≢ p) × (slice_get was i ≡ Some e)))
      by (inl x) q = inl (x, one-item _ e entry there (ap (slice_get (modified (λ _. added.mother) p was ++ entry ∷ [])) (x ∙ sym size) ∙ get-append_new (modified (λ _. added.mother) p was) entry))
      by (inr x) (inl q) =
          let within : i < length (modified (λ _. added.mother) p was) = omega (arith, get-within _ i e at, long, size, x) in
          let here = sym (get-append_old (modified (λ _. added.mother) p was) entry i within) ∙ there in
          inr (inl (q, one-item _ e added.mother (ap (slice_get (modified (λ _. added.mother) p was)) (sym q) ∙ here) (get-modified_same (λ _. added.mother) was p ∙ ap (option_map (λ _. added.mother)) added.here)))
      by (inr x) (inr q) =
          let within : i < length (modified (λ _. added.mother) p was) = omega (arith, get-within _ i e at, long, size, x) in
          let here = sym (get-append_old (modified (λ _. added.mother) p was) entry i within) ∙ there in
          inr (inr (omega (arith, within, size), q, sym (get-modified_other (λ _. added.mother) was p i q) ∙ here))

  parent : IsEntryOf d p added.above
  parent = is.entries_of p added.above added.here

  above-same : fresh.above ≡ added.above
  above-same = one-item (slice_get was p) fresh.above added.above fresh.here added.here

  entry-new : IsEntryOf d' N entry
  entry-new = record {
    says = face-new d p name is.numbering live N newest ∙ (ap (λ n. Some (n, [])) (sym fresh.name_is) ∙ ap (λ ps. Some (entry.name, ps)) (sym fresh.properties));
    stands = fresh.place ∙ (ap (λ (e : Entry). e.place.items ++ e.count ∷ []) above-same ∙ (ap (λ q. q ++ added.above.count ∷ []) parent.stands ∙ (ap (λ k. P ++ k ∷ []) parent.counted ∙ sym (new d p name is.numbering live N newest))));
    counted = fresh.alone ∙ sym (ap (children_at d'.tree) (new d p name is.numbering live N newest) ∙ children_at-there d'.tree _ (P ++ children_at d.tree P ∷ []) (new_at d p name is.numbering live));
    earlier = λ _. omega (arith, fresh.below, live, newest);
    children = subst (λ i. IsChildMap d' i entry.children) (sym newest) (child-map-new d p name is.numbering live entry.children fresh.childless);
  }

  entry-mother : IsEntryOf d' p added.mother
  entry-mother = record {
    says = face-old d p name is.numbering live p live ∙ (parent.says ∙ ap (λ (e : Entry). Some (e.name, e.properties)) (sym added.is_mother.entry));
    stands = ap (λ (e : Entry). e.place.items) added.is_mother.entry ∙ (parent.stands ∙ sym (old d p name is.numbering live p live));
    counted = ap (λ (e : Entry). e.count) added.is_mother.entry ∙ (ap (λ k. k + 1) (parent.counted ∙ count-above d p name is.numbering live) ∙ (more ∙ sym (ap (children_at d'.tree) (old d p name is.numbering live p live) ∙ children_at-there d'.tree (add_child name [] u.0) P (at-edit_same (add_child name []) d.tree P ∙ ap (option_map (add_child name [])) u.1))));
    earlier = λ ne. subst (λ (e : Entry). e.parent < p) (sym added.is_mother.entry) (parent.earlier ne);
    children = child-map-mother d p name is.numbering live added.above.children added.mother.children parent.children (λ w. added.is_mother.children w ∙ ap (λ n. entered name n w (named added.above.children w)) newest);
  }
    where
      more : count u.0.children + 1 ≡ count (add_child name [] u.0).children
      more = let next : count u.0.children + 1 ≡ suc (count u.0.children) = omega arith in next ∙ sym (count-with_last u.0.children name [] none)

  entry-other : (i : ℕ) (e : Entry) → i < N → i ≢ p → IsEntryOf d i e → IsEntryOf d' i e
  entry-other i e b ne was_so = record {
    says = face-old d p name is.numbering live i within ∙ was_so.says;
    stands = was_so.stands ∙ sym (old d p name is.numbering live i within);
    counted = was_so.counted ∙ sym (ap (children_at d'.tree) (old d p name is.numbering live i within) ∙ (ap (λ o. unwrap_or o 0) (mapped summary (λ z. z.1.1) _ _ (at-edit_other (add_child name []) (add_child-Extends _ _) d.tree P (place_of d i) v.0 (λ z. ne (is.numbering.differ i p within live (sym z))) v.1)) ∙ sym (children_at-there d.tree v.0 (place_of d i) v.1)));
    earlier = was_so.earlier;
    children = child-map-other d p name is.numbering live i e.children within ne was_so.children;
  }
    where
      within : i < length d.places
      within = omega (arith, b, newest)

      v : (v : Tree) × (node_at d i ≡ Some v)
      v = stands d i is.numbering within

  pub IsHeld-grown : IsHeld d' now
  IsHeld-grown = record {
    some = omega (arith, long);
    root = old d p name is.numbering live 0 (omega (arith, is.some, newest)) ∙ is.root;
    unnamed = name-edit (add_child name []) (λ t. refl) d.tree P ∙ is.unnamed;
    numbered = longer d p name is.numbering live ∙ (ap suc is.numbered ∙ sym long);
    numbering = IsNumbering-grown d p name is.numbering live;
    kept = IsNamed-grown d p name is.numbering live is.kept good room;
    few = λ i e at. few_by i e (which i e at);
    entries_of = λ i e at. entry_by i e (which i e at);
  }
    where
      few_by : (i : ℕ) (e : Entry) → ((i ≡ N) × (e ≡ entry)) ⊎ (((i ≡ p) × (e ≡ added.mother)) ⊎ ((i < N) × (i ≢ p) × (slice_get was i ≡ Some e))) → e.count < length now
      few_by i e (inl w) = let none_there : e.count ≡ 0 = ap (λ (z : Entry). z.count) w.1 ∙ fresh.alone in omega (arith, none_there, long)
      few_by i e (inr (inl w)) =
          let one_more : e.count ≡ added.above.count + 1 = ap (λ (z : Entry). z.count) (w.1 ∙ added.is_mother.entry) in omega (arith, one_more, long, is.few p added.above added.here)
      few_by i e (inr (inr w)) = omega (arith, is.few i e w.2, long)

      entry_by : (i : ℕ) (e : Entry) → ((i ≡ N) × (e ≡ entry)) ⊎ (((i ≡ p) × (e ≡ added.mother)) ⊎ ((i < N) × (i ≢ p) × (slice_get was i ≡ Some e))) → IsEntryOf d' i e
      entry_by i e (inl w) = subst (λ (z : Entry). IsEntryOf d' i z) (sym w.1) (subst (λ j. IsEntryOf d' j entry) (sym w.0) entry-new)
      entry_by i e (inr (inl w)) = subst (λ (z : Entry). IsEntryOf d' i z) (sym w.1) (subst (λ j. IsEntryOf d' j added.mother) (sym w.0) entry-mother)
      entry_by i e (inr (inr w)) = entry-other i e w.0 w.1 (is.entries_of i e w.2)

-- the children of one entry are held in another way
module _ (d : Document) (was now : List Entry) (p : ℕ) (is : IsHeld d was) (kept : IsKept was now p) where
  pub held-kept : held now ≡ held was
  held-kept = ap held kept.entries ∙ ap assembled (map-kept row was p kept.above kept.same kept.here (ap row kept.is_same.entry))

  as_long : length now ≡ length was
  as_long = ap length kept.entries ∙ length-modified (λ _. kept.same) was p

  before : (i : ℕ) (e : Entry) → slice_get now i ≡ Some e → ((i ≡ p) × (e ≡ kept.same)) ⊎ (slice_get was i ≡ Some e)
  before i e at = by (cases_eq i p)
    where
      there : slice_get (modified (λ _. kept.same) p was) i ≡ Some e
      there = ap (λ es. slice_get es i) (sym kept.entries) ∙ at

      by : (i ≡ p) ⊎ (i ≡ p → ⊥) → ((i ≡ p) × (e ≡ kept.same)) ⊎ (slice_get was i ≡ Some e)
      by (inl q) = inl (q, one-item _ e kept.same (ap (slice_get (modified (λ _. kept.same) p was)) (sym q) ∙ there) (get-modified_same (λ _. kept.same) was p ∙ ap (option_map (λ _. kept.same)) kept.here))
      by (inr q) = inr (sym (get-modified_other (λ _. kept.same) was p i q) ∙ there)

  same-entry : IsEntryOf d p kept.above → IsEntryOf d p kept.same
  same-entry o = record {
    says = o.says ∙ ap (λ (e : Entry). Some (e.name, e.properties)) (sym kept.is_same.entry);
    stands = ap (λ (e : Entry). e.place.items) kept.is_same.entry ∙ o.stands;
    counted = ap (λ (e : Entry). e.count) kept.is_same.entry ∙ o.counted;
    earlier = λ ne. subst (λ (e : Entry). e.parent < p) (sym kept.is_same.entry) (o.earlier ne);
    children = child-map-same d p kept.above.children kept.same.children o.children kept.is_same.children;
  }

  pub IsHeld-kept : IsHeld d now
  IsHeld-kept = record {
    some = omega (arith, is.some, as_long);
    root = is.root;
    unnamed = is.unnamed;
    numbered = is.numbered ∙ sym as_long;
    numbering = is.numbering;
    kept = is.kept;
    few = λ i e at. few_by i e (before i e at);
    entries_of = λ i e at. entry_by i e (before i e at);
  }
    where
      few_by : (i : ℕ) (e : Entry) → ((i ≡ p) × (e ≡ kept.same)) ⊎ (slice_get was i ≡ Some e) → e.count < length now
      few_by i e (inl w) =
          let same_count : e.count ≡ kept.above.count = ap (λ (z : Entry). z.count) (w.1 ∙ kept.is_same.entry) in omega (arith, same_count, as_long, is.few p kept.above kept.here)
      few_by i e (inr w) = omega (arith, is.few i e w, as_long)

      entry_by : (i : ℕ) (e : Entry) → ((i ≡ p) × (e ≡ kept.same)) ⊎ (slice_get was i ≡ Some e) → IsEntryOf d i e
      entry_by i e (inl w) = subst (λ (z : Entry). IsEntryOf d i z) (sym w.1) (subst (λ j. IsEntryOf d j kept.same) (sym w.0) (same-entry (is.entries_of p kept.above kept.here)))
      entry_by i e (inr w) = is.entries_of i e w
