-- The first child of a name, on a walk along the children of a node.
use Rattle.std.proofs.Common.{◌≡◌, ◌∙◌, sym, ap, refl, ℕ, [], ◌∷◌, ◌++◌, Option, Some, None, option_map, true}
use Rattle.std.specs.Prelude.{bytes_eq}
use Rattle.std.specs.Option.{option_map_or}
use Rattle.fdt_tree.specs.Tree.{Bytes, Trees, none, Tree, Place, at_in, at}
use Rattle.fdt_tree.specs.Document.{Document, place_of, name_of, children_of}
use Rattle.fdt_tree.proofs.Edits.{at-below}
use Rattle.fdt_tree.proofs.Names.{first_is, none_left}
use Rattle.fdt_tree.proofs.Siblings.{Comes, stands_there}
use Rattle.indexed_tree.specs.Lookups.{child_place}

module _ (d : Document) (node : ℕ) (name : Bytes) (u : Tree) (e : at d.tree (place_of d node) ≡ Some u) where
  below : (k : ℕ) → at d.tree (place_of d node ++ k ∷ []) ≡ at_in (children_of d node) k []
  below k = at-below d.tree (place_of d node) (k ∷ []) u e ∙ ap (λ (o : Option Tree). at_in (option_map_or (λ (w : Tree). w.children) o none) k []) (sym e)

  -- it is the one before which none has the name
  pub child-found : (next : Option ℕ) (c : ℕ) → next ≡ Some c → Comes d node name next → bytes_eq (name_of d c) name ≡ true → Some (place_of d c) ≡ child_place d node name
  child-found next c g i same =
      let t = stands_there d node name u e next c g i in
      ap Some t.0 ∙ sym (ap (option_map (λ (found : ℕ × Trees). place_of d node ++ found.0 ∷ [])) (first_is _ _ _ t.1.0 i.others t.1.1 (ap (λ z. bytes_eq z name) (sym t.1.2) ∙ same)))

  -- where no child is left, there is none
  pub no-child : (next : Option ℕ) → next ≡ None → Comes d node name next → None ≡ child_place d node name
  no-child next g i =
      let q : Place = place_of d node ++ i.number ∷ [] in
      sym (ap (option_map (λ (found : ℕ × Trees). place_of d node ++ found.0 ∷ [])) (none_left _ _ i.number (sym (below i.number) ∙ gone q (at d.tree q) (sym i.child ∙ ap (option_map (place_of d)) g)) i.others))
    where
      gone : (p : Place) (o : Option Tree) → option_map (λ _. p) o ≡ None → o ≡ None
      gone p None z = refl
      gone p (Some w) z = absurd (cc)
