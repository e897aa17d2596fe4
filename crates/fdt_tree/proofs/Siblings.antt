-- A walk along the children of a node, by the links that callers see.
use Rattle.std.proofs.Common.{IsSome, ◌≡◌, ℕ, ◌+◌, ◌<◌, [], ◌∷◌, ◌++◌, Option, Some, None, option_map, option_and_then, length, true, false, refl, sym, ap, ◌∙◌}
use Rattle.std.specs.Prelude.{bytes_eq}
use Rattle.std.specs.Option.{option_map_or}
use Rattle.fdt_tree.specs.Tree.{Bytes, none, Tree, Place, at_in, at, descend}
use Rattle.fdt_tree.specs.Document.{Document, IsNumbering, place_of, name_of, children_of, if_there, next_place}
use Rattle.fdt_tree.proofs.Edits.{at-below}
use Rattle.fdt_tree.proofs.Order.{next_place-child}
use Rattle.fdt_tree.proofs.Names.{Misses, Misses-none, Misses-more, first_is, none_left, leads_to, leads_nowhere}

-- The next node is the child at a number, if there is one, and no child before it has the name.
pub record Comes (d : Document) (node : ℕ) (name : Bytes) (next : Option ℕ) : Type 0 where
  pub number : ℕ
  pub child : option_map (place_of d) next ≡ if_there d (place_of d node ++ number ∷ [])
  pub others : Misses (children_of d node) name number

-- What stands at the number of a live node.
pub standing : (d : Document) (node : ℕ) → IsNumbering d → node < length d.places → (u : Tree) × (at d.tree (place_of d node) ≡ Some u)
standing d node i h = some (at d.tree (place_of d node)) (i.stand node h)
  where
    some : (o : Option Tree) → IsSome o → (u : Tree) × (o ≡ Some u)
    some None e = absurd (cc)
    some (Some u) e = (u, refl)

module _ (d : Document) (node : ℕ) (name : Bytes) (u : Tree) (e : at d.tree (place_of d node) ≡ Some u) where
  below : (k : ℕ) → at d.tree (place_of d node ++ k ∷ []) ≡ at_in (children_of d node) k []
  below k = at-below d.tree (place_of d node) (k ∷ []) u e ∙ ap (λ (o : Option Tree). at_in (option_map_or (λ (w : Tree). w.children) o none) k []) (sym e)

  there : (c : ℕ) (q : Place) (o : Option Tree) → at d.tree q ≡ o → Some (place_of d c) ≡ option_map (λ _. q) o → (place_of d c ≡ q) × ((w : Tree) × (at d.tree q ≡ Some w))
  there c q None f g = absurd (cc)
  there c q (Some w) f g = (cc, (w, f))

  pub starts : (next : Option ℕ) → option_map (place_of d) next ≡ if_there d (place_of d node ++ 0 ∷ []) → Comes d node name next
  starts next f = record { number = 0; child = f; others = Misses-none _ _ }

  -- What stands where the next node is.
  pub stands_there : (next : Option ℕ) (c : ℕ) → next ≡ Some c → (i : Comes d node name next) → (place_of d c ≡ place_of d node ++ i.number ∷ []) × ((w : Tree) × (at_in (children_of d node) i.number [] ≡ Some w) × (name_of d c ≡ w.name))
  stands_there next c g i =
      let q : Place = place_of d node ++ i.number ∷ [] in let t = there c q (at d.tree q) refl (ap (option_map (place_of d)) (sym g) ∙ i.child) in (t.0, (t.1.0, sym (below i.number) ∙ t.1.1, ap (λ p. option_map_or (λ (n : Tree). n.name) (at d.tree p) []) t.0 ∙ ap (λ (o : Option Tree). option_map_or (λ (n : Tree). n.name) o []) t.1.1))

  pub goes_on : (next after : Option ℕ) (c : ℕ) → next ≡ Some c → Comes d node name next → option_map (place_of d) after ≡ option_and_then (λ p. if_there d p) (next_place (place_of d c)) → bytes_eq (name_of d c) name ≡ false → Comes d node name after
  goes_on next after c g i f ne =
      let t = stands_there next c g i in record {
        number = i.number + 1;
        child = f ∙ ap (option_and_then (λ p. if_there d p)) (ap next_place t.0 ∙ next_place-child (place_of d node) i.number);
        others = Misses-more _ _ _ t.1.0 i.others t.1.1 (ap (λ z. bytes_eq z name) (sym t.1.2) ∙ ne);
      }

  pub found : (next : Option ℕ) (c : ℕ) → next ≡ Some c → Comes d node name next → bytes_eq name [] ≡ false → bytes_eq (name_of d c) name ≡ true → Some (place_of d c) ≡ option_map (λ p. place_of d node ++ p) (descend (name ∷ []) (children_of d node))
  found next c g i ne same =
      let t = stands_there next c g i in ap Some t.0 ∙ sym (ap (option_map (λ p. place_of d node ++ p)) (leads_to _ _ _ _ ne (first_is _ _ _ t.1.0 i.others t.1.1 (ap (λ z. bytes_eq z name) (sym t.1.2) ∙ same))))

  pub nowhere : (next : Option ℕ) → next ≡ None → Comes d node name next → bytes_eq name [] ≡ false → None ≡ option_map (λ p. place_of d node ++ p) (descend (name ∷ []) (children_of d node))
  nowhere next g i ne =
      let q : Place = place_of d node ++ i.number ∷ [] in sym (ap (option_map (λ p. place_of d node ++ p)) (leads_nowhere _ _ ne (none_left _ _ i.number (sym (below i.number) ∙ gone q (at d.tree q) (sym i.child ∙ ap (option_map (place_of d)) g)) i.others)))
    where
      gone : (p : Place) (o : Option Tree) → option_map (λ _. p) o ≡ None → o ≡ None
      gone p None z = refl
      gone p (Some w) z = absurd (cc)
