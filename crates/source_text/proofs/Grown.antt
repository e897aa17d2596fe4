-- How each token changes the tree that is read.
use Rattle.std.proofs.Common.{◌≡◌, ◌≢◌, ◌⊎◌, inl, inr, ℕ, suc, zero, ◌<◌, List, [], ◌∷◌, ◌++◌, Option, Some, None, option_map, length, length-append, refl, sym, ap, subst, ◌∙◌, append_assoc, arith, Ok}
use Rattle.fdt_tree.specs.Tree.{Bytes, Trees, none, tree, Tree, Place, at_in, at, count, edit, add_child, change_properties}
use Rattle.fdt_tree.specs.Document.{Document, empty, place_of, if_there, parent_place, children_at, with_child, with_child_of, with_property}
use Rattle.fdt_tree.proofs.Edits.{add_child-Extends, change_properties-Extends, at-edit_same, at-new}
use Rattle.fdt_tree.proofs.Links.{children_at-there, count-with_last, place-new}
use Rattle.fdt_read.specs.Tokens.{Token, begin_node, end_node, property}
use Rattle.fdt_read.proofs.Opened.{opened-begin, opened-property, opened-end}
use Rattle.fdt_read.proofs.Formed.{put}
use Rattle.fdt_read.proofs.Kept.{added, added_live}
use Rattle.source_text.specs.declared.growing.Growing.{Growing}
use Rattle.source_text.specs.PrivateTurns.{above}
use Rattle.source_text.specs.PrivateReadings.{InTree, IsGrown}
use Rattle.fdt_read.proofs.Progress.{counted, same_some, split_last, count_kept}
use Rattle.fdt_read.proofs.Steps.{no_split}

longer : (p q : Place) (k : ℕ) (r : Place) → p ≡ q ++ k ∷ r → p ≢ q
longer p q k r e f = absurd (omega (arith, ap length e, ap length f, length-append q (k ∷ r)))

module _ (tokens : List Token) (t : Tree) (p : Place) (i : InTree tokens t p) where
  -- A node begins.
  pub step_begin : (m : Bytes) → InTree (tokens ++ begin_node m ∷ []) (edit (add_child m []) t p) (p ++ children_at t p ∷ [])
  step_begin m =
      let u : Tree = i.here.0 in
      subst (λ (z : ℕ). InTree (tokens ++ begin_node m ∷ []) (edit (add_child m []) t p) (p ++ z ∷ [])) (sym (children_at-there t u p i.here.1)) (record {
        read = ap (λ (z : List Token). z ++ begin_node m ∷ []) i.read ∙ sym (opened-begin m t p u i.here.1);
        here = (_, at-new m [] t p u i.here.1);
        last = λ q k r g. begun_last_at q k r (split_last p q (count u.children) k r g);
      })
    where
      begun_last_at : (q : Place) (k : ℕ) (r : Place) → (p ≡ q) × (count i.here.0.children ≡ k) ⊎ (s : Place) × (p ≡ q ++ k ∷ s) → children_at (edit (add_child m []) t p) q ≡ suc k
      begun_last_at q k r (inl g) =
          ap (children_at (edit (add_child m []) t p)) (sym g.0)
          ∙ (children_at-there (edit (add_child m []) t p) (add_child m [] i.here.0) p (at-edit_same (add_child m []) t p ∙ ap (option_map (add_child m [])) i.here.1)
          ∙ (count-with_last i.here.0.children m [] none ∙ ap suc g.1))
      begun_last_at q k r (inr g) = count_kept (add_child m []) (add_child-Extends m []) t p q k (longer p q k g.0 g.1) (i.last q k g.0 g.1)

  -- A property, while no child has come.
  pub step_property : (m v : Bytes) → i.here.0.children ≡ none → InTree (tokens ++ property (Some m) v ∷ []) (edit (change_properties (put m v)) t p) p
  step_property m v fresh = record {
    read = ap (λ (z : List Token). z ++ property (Some m) v ∷ []) i.read ∙ sym (opened-property m v t p i.here.0 i.here.1 fresh);
    here = (_, at-edit_same (change_properties (put m v)) t p ∙ ap (option_map (change_properties (put m v))) i.here.1);
    last = λ q k r g. count_kept (change_properties (put m v)) (change_properties-Extends (put m v)) t p q k (longer p q k r g) (i.last q k r g);
  }

-- A node ends.
pub step_end : (tokens : List Token) (t : Tree) (q : Place) (k : ℕ) → InTree tokens t (q ++ k ∷ []) → InTree (tokens ++ end_node ∷ []) t q
step_end tokens t q k i =
    let w = counted (at t q) k (i.last q k [] refl) in record {
      read = ap (λ (z : List Token). z ++ end_node ∷ []) i.read ∙ opened-end t q w.0 k w.1 w.2;
      here = (w.0, w.1);
      last = λ p j r g. i.last p j (r ++ k ∷ []) (ap (λ z. z ++ k ∷ []) g ∙ append_assoc p (j ∷ r) (k ∷ []));
    }

bare_root : InTree (begin_node [] ∷ []) empty.tree []
bare_root = record { read = refl; here = (empty.tree, refl); last = λ q k r g. absurd (no_split q k r g) }

pub started : (g : Growing) → g.tree ≡ empty → place_of g.tree g.current ≡ [] → g.current < length g.tree.places → IsGrown (begin_node [] ∷ []) 0 g
started g e f lt = record {
  live = lt;
  inside = subst (λ (z : Document). InTree (begin_node [] ∷ []) z.tree (place_of g.tree g.current)) (sym e) (subst (InTree (begin_node [] ∷ []) empty.tree) (sym f) bare_root);
  level = ap length f;
}

-- No child stands in a node that has no first one.
no_first : (ts : Trees) → at_in ts 0 [] ≡ None → ts ≡ none
no_first none e = refl
no_first (tree n ps cs rest) e = absurd (cc)

childless_in : (ts : Trees) (k : ℕ) (p : Place) (u : Tree) → at_in ts k p ≡ Some u → at_in ts k (p ++ 0 ∷ []) ≡ None → u.children ≡ none
childless_in none k p u e f = absurd (cc)
childless_in (tree n ps cs rest) zero [] u e f =
    let h : record { name = n; properties = ps; children = cs } ≡ u = cc in ap (λ (z : Tree). z.children) (sym h) ∙ no_first cs f
childless_in (tree n ps cs rest) zero (j ∷ p) u e f = childless_in cs j p u e f
childless_in (tree n ps cs rest) (suc k) p u e f = childless_in rest k p u e f

childless : (t : Tree) (p : Place) (u : Tree) → at t p ≡ Some u → at t (p ++ 0 ∷ []) ≡ None → u.children ≡ none
childless t [] u e f = let h : t ≡ u = cc in ap (λ (z : Tree). z.children) (sym h) ∙ no_first t.children f
childless t (k ∷ p) u e f = childless_in t.children k p u e f

nothing_there : (o : Option Tree) (q : Place) → None ≡ option_map (λ _. q) o → o ≡ None
nothing_there None q e = refl
nothing_there (Some u) q e = absurd (cc)

one_longer : (p : Place) (k : ℕ) → length (p ++ k ∷ []) ≡ suc (length p)
one_longer [] k = refl
one_longer (j ∷ p) k = ap suc (one_longer p k)

-- The place above is that without its last number.
parent_split : (p q : Place) → parent_place p ≡ Some q → (k : ℕ) × (p ≡ q ++ k ∷ [])
parent_split [] q e = absurd (cc)
parent_split (j ∷ []) q e = (j, ap (λ (z : Place). z ++ j ∷ []) (same_some [] q e))
parent_split (j ∷ i ∷ p) q e = by (parent_place (i ∷ p)) (parent_split (i ∷ p)) e
  where
    by : (o : Option Place) → ((r : Place) → o ≡ Some r → (k : ℕ) × (i ∷ p ≡ r ++ k ∷ [])) → option_map (λ above. j ∷ above) o ≡ Some q → (k : ℕ) × (j ∷ i ∷ p ≡ q ++ k ∷ [])
    by None on e = absurd (cc)
    by (Some r) on e = let s = on r refl in (s.0, ap (λ (z : Place). j ∷ z) s.1 ∙ ap (λ (z : Place). z ++ s.0 ∷ []) (same_some (j ∷ r) q e))

-- The same of what the code keeps.
module _ (tokens : List Token) (depth : ℕ) (g : Growing) (i : IsGrown tokens depth g) where
  pub grown_open : (m : Bytes) (after : Growing) → with_child_of g.tree g.current m ≡ Ok after.tree → after.current ≡ length g.tree.places → IsGrown (tokens ++ begin_node m ∷ []) (suc depth) after
  grown_open m after e q =
      let new : with_child g.tree (place_of g.tree g.current) m ≡ after.tree = added g.tree after.tree g.current m e in record {
        live = added_live g.tree after.tree g.current after.current m e q;
        inside = subst (λ (z : Document). InTree (tokens ++ begin_node m ∷ []) z.tree (place_of z after.current)) new
            (subst (InTree (tokens ++ begin_node m ∷ []) (with_child g.tree (place_of g.tree g.current) m).tree) (sym (place-new g.tree (place_of g.tree g.current) m [] after.current q))
            (step_begin tokens g.tree.tree (place_of g.tree g.current) i.inside m));
        level = ap (λ (z : Document). length (place_of z after.current)) (sym new) ∙ (ap length (place-new g.tree (place_of g.tree g.current) m [] after.current q) ∙ (one_longer (place_of g.tree g.current) (children_at g.tree.tree (place_of g.tree g.current)) ∙ ap suc i.level));
      }

  pub grown_give : (m v : Bytes) (after : Growing) → after.tree ≡ with_property g.tree (place_of g.tree g.current) m v → after.current ≡ g.current → None ≡ if_there g.tree (place_of g.tree g.current ++ 0 ∷ []) → IsGrown (tokens ++ property (Some m) v ∷ []) depth after
  grown_give m v after e same fresh =
      let here = i.inside.here in
      let bare = childless g.tree.tree (place_of g.tree g.current) here.0 here.1 (nothing_there (at g.tree.tree (place_of g.tree g.current ++ 0 ∷ [])) (place_of g.tree g.current ++ 0 ∷ []) fresh) in
      let places : after.tree.places ≡ g.tree.places = ap (λ (z : Document). z.places) e in record {
        live = subst (λ (n : ℕ). n < length after.tree.places) (sym same) (subst (λ (z : List Place). g.current < length z) (sym places) i.live);
        inside = subst (λ (z : Document). InTree (tokens ++ property (Some m) v ∷ []) z.tree (place_of z after.current)) (sym e)
            (subst (λ (n : ℕ). InTree (tokens ++ property (Some m) v ∷ []) (with_property g.tree (place_of g.tree g.current) m v).tree (place_of g.tree n)) (sym same)
            (step_property tokens g.tree.tree (place_of g.tree g.current) i.inside m v bare));
        level = ap (λ (z : Document). length (place_of z after.current)) e ∙ (ap (λ (n : ℕ). length (place_of g.tree n)) same ∙ i.level);
      }

  pub grown_close : (after : Growing) → after.tree ≡ g.tree → after.current < length g.tree.places → Some (place_of g.tree after.current) ≡ parent_place (place_of g.tree g.current) → IsGrown (tokens ++ end_node ∷ []) (above depth) after
  grown_close after e lt higher =
      let s = parent_split (place_of g.tree g.current) (place_of g.tree after.current) (sym higher) in record {
        live = subst (λ (z : Document). after.current < length z.places) (sym e) lt;
        inside = subst (λ (z : Document). InTree (tokens ++ end_node ∷ []) z.tree (place_of z after.current)) (sym e)
            (step_end tokens g.tree.tree (place_of g.tree after.current) s.0 (subst (InTree tokens g.tree.tree) s.1 i.inside));
        level = ap (λ (z : Document). length (place_of z after.current)) e ∙ ap above (sym (one_longer (place_of g.tree after.current) s.0) ∙ (ap length (sym s.1) ∙ i.level));
      }
