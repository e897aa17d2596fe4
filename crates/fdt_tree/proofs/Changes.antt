-- A change of the properties of one node, in the arena and in the document.
use Rattle.std.proofs.Common.{◌≡◌, ◌≢◌, ◌⊎◌, inl, inr, ℕ, zero, suc, ◌+◌, ◌<◌, List, [], ◌∷◌, ◌++◌, Some, option_map, length, fold, slice_get, unwrap_or, refl, sym, ap, ◌∙◌, arith, length-append}
use Rattle.std.proofs.lemmas.Bool.{cases_eq}
use Rattle.fdt_tree.specs.Tree.{Property, Trees, none, tree, Tree, Place, at_in, at, count, edit_in, edit, add_child, change_properties}
use Rattle.fdt_tree.specs.Document.{Document, place_of, children_at, with_properties}
use Rattle.fdt_tree.specs.Assembled.{Added, grown, rooted, assembled}
use Rattle.fdt_tree.specs.PrivateLinks.{modified}
use Rattle.fdt_tree.proofs.Edits.{add_child-Extends, at-new, count-edit_in, edits, edit-new}
use Rattle.fdt_tree.proofs.Standing.{still_there}
use Rattle.fdt_tree.proofs.Links.{children_at-there, place-old, place-new}

-- A row with a change of its properties.
abbrev pub altered : (List Property → List Property) → Added → Added
altered g row = record row { properties = g row.properties }

-- A change of properties keeps the number of children of every node.
pub children_kept_in : (g : List Property → List Property) (ts : Trees) (k : ℕ) (q : Place) (j : ℕ) (p : Place) → option_map (λ n. count n.children) (at_in (edit_in (change_properties g) ts k q) j p) ≡ option_map (λ n. count n.children) (at_in ts j p)
children_kept_in g none k q j p = refl
children_kept_in g (tree n ps cs rest) zero [] zero [] = refl
children_kept_in g (tree n ps cs rest) zero [] zero (i ∷ p) = refl
children_kept_in g (tree n ps cs rest) zero [] (suc j) p = refl
children_kept_in g (tree n ps cs rest) zero (i ∷ q) zero [] = ap Some (count-edit_in (change_properties g) cs i q)
children_kept_in g (tree n ps cs rest) zero (i ∷ q) zero (l ∷ p) = children_kept_in g cs i q l p
children_kept_in g (tree n ps cs rest) zero (i ∷ q) (suc j) p = refl
children_kept_in g (tree n ps cs rest) (suc k) q zero [] = refl
children_kept_in g (tree n ps cs rest) (suc k) q zero (l ∷ p) = refl
children_kept_in g (tree n ps cs rest) (suc k) q (suc j) p = children_kept_in g rest k q j p

-- A change of properties keeps the number of children of whatever stands at a place.
pub children_kept : (g : List Property → List Property) (t : Tree) (q p : Place) → option_map (λ n. count n.children) (at (edit (change_properties g) t q) p) ≡ option_map (λ n. count n.children) (at t p)
children_kept g t [] [] = refl
children_kept g t [] (j ∷ p) = refl
children_kept g t (k ∷ q) [] = ap Some (count-edit_in (change_properties g) t.children k q)
children_kept g t (k ∷ q) (j ∷ p) = children_kept_in g t.children k q j p

pub children_at-change : (g : List Property → List Property) (t : Tree) (q p : Place) → children_at (edit (change_properties g) t q) p ≡ children_at t p
children_at-change g t [] [] = refl
children_at-change g t [] (j ∷ p) = refl
children_at-change g t (k ∷ q) [] = count-edit_in (change_properties g) t.children k q
children_at-change g t (k ∷ q) (j ∷ p) = ap (λ o. unwrap_or o 0) (children_kept_in g t.children k q j p)

-- A node stands at every place of a document.
pub record AllStand (d : Document) : Type 0 where
  pub node : (i : ℕ) → i < length d.places → (u : Tree) × (at d.tree (place_of d i) ≡ Some u)

-- Each node's parent stands before it, where the first has this number.
pub record IsOrdered (first : ℕ) (rows : List Added) : Type 0 where
  pub earlier : (i : ℕ) (r : Added) → slice_get rows i ≡ Some r → r.parent < first + i

grown_places : (d : Document) (r : Added) → length (grown d r).places ≡ suc (length d.places)
grown_places d r = length-append d.places _ ∙ omega arith

new_there : (d : Document) (r : Added) (u : Tree) → at d.tree (place_of d r.parent) ≡ Some u → at (grown d r).tree (place_of d r.parent ++ children_at d.tree (place_of d r.parent) ∷ []) ≡ Some (record { name = r.name; properties = r.properties; children = none })
new_there d r u e =
    ap (λ k. at (grown d r).tree (place_of d r.parent ++ k ∷ [])) (children_at-there d.tree u (place_of d r.parent) e) ∙ at-new r.name r.properties d.tree (place_of d r.parent) u e

grown_stands : (d : Document) (r : Added) → AllStand d → r.parent < length d.places → (i : ℕ) → (i ≡ length d.places) ⊎ (i ≡ length d.places → ⊥) → i < suc (length d.places) → (u : Tree) × (at (grown d r).tree (place_of (grown d r) i) ≡ Some u)
grown_stands d r s h i (inl q) b =
    let u = s.node r.parent h in (_, ap (at (grown d r).tree) (place-new d (place_of d r.parent) r.name r.properties i q) ∙ new_there d r u.0 u.1)
grown_stands d r s h i (inr q) b =
    let within : i < length d.places = omega arith in let u = s.node i within in let w = still_there (add_child r.name r.properties) (add_child-Extends _ _) d.tree (place_of d r.parent) (place_of d i) u.0 u.1 in (w.0, ap (at (grown d r).tree) (place-old d (place_of d r.parent) r.name r.properties i within) ∙ w.1)

AllStand-grown : (d : Document) (r : Added) → AllStand d → r.parent < length d.places → AllStand (grown d r)
AllStand-grown d r s h =
    record { node = λ i b. grown_stands d r s h i (cases_eq i (length d.places)) (omega (arith, grown_places d r)) }

-- A change of properties, and a node that is added, in either order.
change-grown : (g : List Property → List Property) (d : Document) (r : Added) (q : Place) (u : Tree) → at d.tree q ≡ Some u → grown (with_properties d q g) r ≡ with_properties (grown d r) q g
change-grown g d r q u e =
    ap (λ (t : Tree). record { tree = t; places = d.places ++ (place_of d r.parent ++ children_at (edit (change_properties g) d.tree q) (place_of d r.parent) ∷ []) ∷ [] }) (sym (edits g r.name r.properties d.tree (place_of d r.parent) q u e)) ∙ ap (λ k. record { tree = edit (change_properties g) (grown d r).tree q; places = d.places ++ (place_of d r.parent ++ k ∷ []) ∷ [] }) (children_at-change g d.tree q (place_of d r.parent))

-- A change of properties, and all nodes that are added later, in either order.
later : (g : List Property → List Property) (rows : List Added) (d : Document) (q : Place) (u : Tree) → at d.tree q ≡ Some u → fold grown (with_properties d q g) rows ≡ with_properties (fold grown d rows) q g
later g [] d q u e = refl
later g (r ∷ rows) d q u e =
    let w = still_there (add_child r.name r.properties) (add_child-Extends _ _) d.tree (place_of d r.parent) q u e in ap (λ z. fold grown z rows) (change-grown g d r q u e) ∙ later g rows (grown d r) q w.0 w.1

place-kept : (rows : List Added) (d : Document) (i : ℕ) → i < length d.places → place_of (fold grown d rows) i ≡ place_of d i
place-kept [] d i h = refl
place-kept (r ∷ rows) d i h =
    place-kept rows (grown d r) i (omega (arith, grown_places d r)) ∙ place-old d (place_of d r.parent) r.name r.properties i h

-- Adding a node with other properties is adding it and changing them.
added_changed : (g : List Property → List Property) (d : Document) (r : Added) (u : Tree) → at d.tree (place_of d r.parent) ≡ Some u → grown d (record r { properties = g r.properties }) ≡ with_properties (grown d r) (place_of d r.parent ++ children_at d.tree (place_of d r.parent) ∷ []) g
added_changed g d r u e =
    ap (λ (t : Tree). record { tree = t; places = (grown d r).places }) (sym (edit-new g r.name r.properties d.tree (place_of d r.parent) u e) ∙ ap (λ k. edit (change_properties g) (grown d r).tree (place_of d r.parent ++ k ∷ [])) (sym (children_at-there d.tree u (place_of d r.parent) e)))

-- The replay with one node changed is the replay, and then the change.
replayed : (g : List Property → List Property) (rows : List Added) (k : ℕ) (d : Document) → AllStand d → k < length rows → IsOrdered (length d.places) rows → fold grown d (modified (altered g) k rows) ≡ with_properties (fold grown d rows) (place_of (fold grown d rows) (length d.places + k)) g
replayed g [] k d s h o = absurd (omega arith)
replayed g (n ∷ rows) zero d s h o =
    let within : n.parent < length d.places = omega (arith, o.earlier 0 n refl) in let u = s.node n.parent within in let q : Place = place_of d n.parent ++ children_at d.tree (place_of d n.parent) ∷ [] in let kept : place_of (fold grown (grown d n) rows) (length d.places + 0) ≡ q = place-kept rows (grown d n) (length d.places + 0) (omega (arith, grown_places d n)) ∙ place-new d (place_of d n.parent) n.name n.properties (length d.places + 0) (omega arith) in ap (λ z. fold grown z rows) (added_changed g d n u.0 u.1) ∙ (later g rows (grown d n) q _ (new_there d n u.0 u.1) ∙ ap (λ z. with_properties (fold grown (grown d n) rows) z g) (sym kept))
replayed g (n ∷ rows) (suc k) d s h o =
    let within : n.parent < length d.places = omega (arith, o.earlier 0 n refl) in let number : length (grown d n).places + k ≡ length d.places + suc k = omega (arith, grown_places d n) in replayed g rows k (grown d n) (AllStand-grown d n s within) (omega arith) (record { earlier = λ i m e. omega (arith, o.earlier (suc i) m e, grown_places d n) }) ∙ ap (λ z. with_properties (fold grown (grown d n) rows) (place_of (fold grown (grown d n) rows) z) g) number

rooted_stands : (ps : List Property) (i : ℕ) → i < 1 → (u : Tree) × (at (rooted ps).tree (place_of (rooted ps) i) ≡ Some u)
rooted_stands ps zero h = ((rooted ps).tree, refl)
rooted_stands ps (suc i) h = absurd (omega arith)

-- What rows with one changed are assembled to.
pub document-changed : (g : List Property → List Property) (rows : List Added) (p : ℕ) → p < length rows → ((i : ℕ) (r : Added) → slice_get rows i ≡ Some r → i ≢ 0 → r.parent < i) → assembled (modified (altered g) p rows) ≡ with_properties (assembled rows) (place_of (assembled rows) p) g
document-changed g [] p h o = absurd (omega arith)
document-changed g (m ∷ rows) zero h o =
    later g rows (rooted m.properties) [] (rooted m.properties).tree refl ∙ ap (λ z. with_properties (assembled (m ∷ rows)) z g) (sym (place-kept rows (rooted m.properties) 0 (omega arith)))
document-changed g (m ∷ rows) (suc p) h o =
    let number : 1 + p ≡ suc p = omega arith in replayed g rows p (rooted m.properties) (record { node = rooted_stands m.properties }) (omega arith) (record { earlier = λ i n e. omega (arith, o (suc i) n e (omega arith)) }) ∙ ap (λ z. with_properties (assembled (m ∷ rows)) (place_of (assembled (m ∷ rows)) z) g) number
