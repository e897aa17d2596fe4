-- Maps of children by their names, where a child is added or properties are changed.
use Rattle.std.proofs.Common.{◌≡◌, ◌≢◌, ◌⊎◌, inl, inr, ◌∙◌, ap, sym, subst, refl, ℕ, ◌<◌, [], ◌∷◌, ◌++◌, Option, Some, None, option_map, IfSome, Bool, true, false, cond, length, arith, List}
use Rattle.std.specs.Prelude.{bytes_eq}
use Rattle.std.specs.Option.{option_map_or}
use Rattle.std.proofs.lemmas.Bool.{cases_eq}
use Rattle.fdt_tree.specs.Tree.{Bytes, Property, none, Tree, Place, at, count, add_child, change_properties}
use Rattle.fdt_tree.specs.Document.{Document, place_of, node_at, children_of, with_node, with_properties, IsNumbering}
use Rattle.fdt_tree.proofs.Edits.{add_child-Extends, change_properties-Extends, at-edit_same}
use Rattle.fdt_tree.proofs.Links.{map-same}
use Rattle.fdt_nodes.specs.ChildMaps.{Named, named, child_place, IsChildMap}
use Rattle.tree_parts.proofs.Growing.{stands}
use Rattle.indexed_tree.specs.PrivateIndex.{entered}
use Rattle.indexed_tree.proofs.ChildNumbers.{first_number, number_below, place-number, number-last, numbers-other}
use Rattle.indexed_tree.proofs.Numberings.{above, count-above, longer, old, new, new_at}

number-of : (w : Bytes) (o : Option Tree) (x : Option ℕ) → option_map (number_below w) o ≡ Some x → first_number w (option_map_or (λ (u : Tree). u.children) o none) ≡ x
number-of w None x is = absurd (cc)
number-of w (Some u) x is = let same : number_below w u ≡ x = cc in same

-- another map of the same
pub child-map-same : (d : Document) (i : ℕ) (c c' : Named) → IsChildMap d i c → ((other : Bytes) → named c' other ≡ named c other) → IsChildMap d i c'
child-map-same d i c c' has same = record {
  live = λ w. subst (λ (o : Option ℕ). IfSome o (λ child. child < length d.places)) (sym (same w)) (has.live w);
  places = λ w. ap (option_map (place_of d)) (same w) ∙ has.places w;
}

module _ (d : Document) (p : ℕ) (name : Bytes) (numbering : IsNumbering d) (live : p < length d.places) where
  abbrev P : Place
  P = place_of d p

  abbrev d' : Document
  d' = with_node d P name []

  abbrev N : ℕ
  N = length d.places

  still : (w : Bytes) (c : Named) (i : ℕ) → IsChildMap d i c → IfSome (named c w) (λ child. child < length d'.places)
  still w c i has = by (named c w) (has.live w)
    where
      by : (o : Option ℕ) → IfSome o (λ child. child < N) → IfSome o (λ child. child < length d'.places)
      by None h = tt
      by (Some child) h = omega (arith, h, longer d p name numbering live)

  moved : (w : Bytes) (c : Named) (i : ℕ) → IsChildMap d i c → option_map (place_of d') (named c w) ≡ option_map (place_of d) (named c w)
  moved w c i has = map-same (place_of d') (place_of d) (named c w) (has.live w) (λ child b. old d p name numbering live child b)

  -- the children of another node than the parent
  pub child-map-other : (i : ℕ) (c : Named) → i < N → i ≢ p → IsChildMap d i c → IsChildMap d' i c
  child-map-other i c b ne has = record { live = λ w. still w c i has; places = λ w. moved w c i has ∙ (has.places w ∙ kept w) }
    where
      same : (w : Bytes) → first_number w (children_of d' i) ≡ first_number w (children_of d i)
      same w =
          let v = stands d i numbering b in
          number-of w (node_at d' i) (number_below w v.0) (ap (λ (q : Place). option_map (number_below w) (at d'.tree q)) (old d p name numbering live i b) ∙ numbers-other (add_child name []) (λ t. refl) w (add_child-Extends name []) d.tree P (place_of d i) v.0 (λ e. ne (numbering.differ i p b live (sym e))) v.1)
          ∙ sym (number-of w (node_at d i) (number_below w v.0) (ap (option_map (number_below w)) v.1))

      kept : (w : Bytes) → child_place d i w ≡ child_place d' i w
      kept w =
          place-number d i w ∙ (ap (λ (q : Place). option_map (λ k. q ++ k ∷ []) (first_number w (children_of d i))) (sym (old d p name numbering live i b))
          ∙ (ap (option_map (λ k. place_of d' i ++ k ∷ [])) (sym (same w)) ∙ sym (place-number d' i w)))

  -- the children of the parent
  pub child-map-mother : (c c' : Named) → IsChildMap d p c → ((other : Bytes) → named c' other ≡ entered name N other (named c other)) → IsChildMap d' p c'
  child-map-mother c c' has entered-so = record { live = λ w. live_by w; places = λ w. ap (option_map (place_of d')) (entered-so w) ∙ (places_by w ∙ sym (place_now w)) }
    where
      live_by : (w : Bytes) → IfSome (named c' w) (λ child. child < length d'.places)
      live_by w = subst (λ (o : Option ℕ). IfSome o (λ child. child < length d'.places)) (sym (entered-so w)) (by (named c w) (bytes_eq name w) (still w c p has))
        where
          by : (o : Option ℕ) (b : Bool) → IfSome o (λ child. child < length d'.places) → IfSome (elim o as (λ _. Option ℕ) [ Some k ↦ Some k | None ↦ cond b (Some N) None ]) (λ child. child < length d'.places)
          by (Some k) b h = h
          by None true h = omega (arith, longer d p name numbering live)
          by None false h = tt

      u : (u : Tree) × (at d.tree P ≡ Some u)
      u = above d p name numbering live

      number_now : (w : Bytes) → first_number w (children_of d' p) ≡ entered name (count u.0.children) w (first_number w u.0.children)
      number_now w =
          number-of w (node_at d' p) _ (ap (λ (q : Place). option_map (number_below w) (at d'.tree q)) (old d p name numbering live p live) ∙ (ap (option_map (number_below w)) (at-edit_same (add_child name []) d.tree P ∙ ap (option_map (add_child name [])) u.1)))
          ∙ number-last w u.0.children name [] none

      number_then : (w : Bytes) → first_number w (children_of d p) ≡ first_number w u.0.children
      number_then w = number-of w (node_at d p) (number_below w u.0) (ap (option_map (number_below w)) u.1)

      place_now : (w : Bytes) → child_place d' p w ≡ option_map (λ k. P ++ k ∷ []) (entered name (count u.0.children) w (first_number w u.0.children))
      place_now w =
          place-number d' p w ∙ (ap (λ (q : Place). option_map (λ k. q ++ k ∷ []) (first_number w (children_of d' p))) (old d p name numbering live p live) ∙ ap (option_map (λ k. P ++ k ∷ [])) (number_now w))

      place_then : (w : Bytes) → option_map (place_of d) (named c w) ≡ option_map (λ k. P ++ k ∷ []) (first_number w u.0.children)
      place_then w = has.places w ∙ (place-number d p w ∙ ap (option_map (λ k. P ++ k ∷ [])) (number_then w))

      newest : place_of d' N ≡ P ++ count u.0.children ∷ []
      newest = new d p name numbering live N refl ∙ ap (λ k. P ++ k ∷ []) (count-above d p name numbering live)

      places_by : (w : Bytes) → option_map (place_of d') (entered name N w (named c w)) ≡ option_map (λ k. P ++ k ∷ []) (entered name (count u.0.children) w (first_number w u.0.children))
      places_by w = by (named c w) (first_number w u.0.children) (bytes_eq name w) (moved w c p has ∙ place_then w)
        where
          by : (x y : Option ℕ) (b : Bool) → option_map (place_of d') x ≡ option_map (λ k. P ++ k ∷ []) y → option_map (place_of d') (elim x as (λ _. Option ℕ) [ Some k ↦ Some k | None ↦ cond b (Some N) None ]) ≡ option_map (λ k. P ++ k ∷ []) (elim y as (λ _. Option ℕ) [ Some k ↦ Some k | None ↦ cond b (Some (count u.0.children)) None ])
          by None None true is = ap Some newest
          by None None false is = refl
          by None (Some k) b is = absurd (cc)
          by (Some k) None b is = absurd (cc)
          by (Some k) (Some j) b is = is

  -- the new node has none
  pub child-map-new : (c : Named) → ((other : Bytes) → named c other ≡ None) → IsChildMap d' N c
  child-map-new c empty = record {
    live = λ w. subst (λ (o : Option ℕ). IfSome o (λ child. child < length d'.places)) (sym (empty w)) tt;
    places = λ w. ap (option_map (place_of d')) (empty w) ∙ sym (place-number d' N w ∙ ap (option_map (λ k. place_of d' N ++ k ∷ [])) (nothing w));
  }
    where
      nothing : (w : Bytes) → first_number w (children_of d' N) ≡ None
      nothing w = number-of w (node_at d' N) None (ap (λ (q : Place). option_map (number_below w) (at d'.tree q)) (new d p name numbering live N refl) ∙ ap (option_map (number_below w)) (new_at d p name numbering live))

-- a change of properties changes no children's names
pub child-map-changed : (d : Document) (p : ℕ) (g : List Property → List Property) → IsNumbering d → p < length d.places → (i : ℕ) (c : Named) → i < length d.places → IsChildMap d i c → IsChildMap (with_properties d (place_of d p) g) i c
child-map-changed d p g numbering live i c b has = record { live = has.live; places = λ w. has.places w ∙ (place-number d i w ∙ (ap (option_map (λ k. place_of d i ++ k ∷ [])) (sym (same w (cases_eq i p))) ∙ sym (place-number (with_properties d (place_of d p) g) i w))) }
  where
    v : (v : Tree) × (node_at d i ≡ Some v)
    v = stands d i numbering b

    now : (w : Bytes) → (i ≡ p) ⊎ (i ≡ p → ⊥) → option_map (number_below w) (node_at (with_properties d (place_of d p) g) i) ≡ Some (number_below w v.0)
    now w (inl q) =
        ap (λ (z : Place). option_map (number_below w) (at (with_properties d (place_of d p) g).tree z)) (ap (place_of d) q) ∙ (ap (option_map (number_below w)) (at-edit_same (change_properties g) d.tree (place_of d p) ∙ ap (option_map (change_properties g)) (ap (λ z. node_at d z) (sym q) ∙ v.1)))
    now w (inr ne) = numbers-other (change_properties g) (λ t. refl) w (change_properties-Extends g) d.tree (place_of d p) (place_of d i) v.0 (λ e. ne (numbering.differ i p b live (sym e))) v.1

    same : (w : Bytes) → (i ≡ p) ⊎ (i ≡ p → ⊥) → first_number w (children_of (with_properties d (place_of d p) g) i) ≡ first_number w (children_of d i)
    same w at_p = number-of w (node_at (with_properties d (place_of d p) g) i) (number_below w v.0) (now w at_p) ∙ sym (number-of w (node_at d i) (number_below w v.0) (ap (option_map (number_below w)) v.1))
