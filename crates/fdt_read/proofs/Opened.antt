-- The tokens of a tree up to the inside of a node, which are those that a reader has read while the node is open.
use Rattle.std.proofs.Common.{◌≡◌, ℕ, zero, suc, List, [], ◌∷◌, ◌++◌, Some, refl, sym, ap, ◌∙◌, append_assoc}
use Rattle.std.proofs.lemmas.List.{map-append}
use Rattle.fdt_tree.specs.Tree.{Bytes, Property, Trees, none, tree, Tree, Place, at_in, at, count, with_last, edit_in, edit, add_child, change_properties}
use Rattle.fdt_read.specs.Tokens.{begin_node, end_node, property}
use Rattle.fdt_read.specs.Spelling.{spelled_properties, spelled}
use Rattle.fdt_read.specs.Built.{opened_in, opened}
use Rattle.fdt_read.proofs.Formed.{put}

-- One more item at the end of the second of two lists.
pub onto : {A : Type 0} (xs ys zs : List A) (x : A) → ys ≡ zs ++ x ∷ [] → xs ++ ys ≡ (xs ++ zs) ++ x ∷ []
onto xs ys zs x e = ap (λ ws. xs ++ ws) e ∙ sym (append_assoc xs zs (x ∷ []))

module _ (m : Bytes) where
  begun_last : (ts : Trees) → opened_in (with_last ts m [] none) (count ts) [] ≡ spelled ts ++ begin_node m ∷ []
  begun_last none = refl
  begun_last (tree n ps cs rest) =
      ap (λ z. begin_node n ∷ z) (onto (spelled_properties ps) _ (spelled cs ++ end_node ∷ spelled rest) (begin_node m) (onto (spelled cs) _ (end_node ∷ spelled rest) (begin_node m) (ap (λ z. end_node ∷ z) (begun_last rest))))

  begun_in : (ts : Trees) (k : ℕ) (p : Place) (u : Tree) → at_in ts k p ≡ Some u → opened_in (edit_in (add_child m []) ts k p) k (p ++ count u.children ∷ []) ≡ opened_in ts k p ++ begin_node m ∷ []
  begun_in none k p u e = absurd (cc)
  begun_in (tree n ps cs rest) zero [] u e =
      let h : record { name = n; properties = ps; children = cs } ≡ u = cc in ap (λ (v : Tree). begin_node n ∷ (spelled_properties ps ++ opened_in (with_last cs m [] none) (count v.children) [])) (sym h) ∙ ap (λ z. begin_node n ∷ z) (onto (spelled_properties ps) _ (spelled cs) (begin_node m) (begun_last cs))
  begun_in (tree n ps cs rest) zero (j ∷ p) u e =
      ap (λ z. begin_node n ∷ z) (onto (spelled_properties ps) _ (opened_in cs j p) (begin_node m) (begun_in cs j p u e))
  begun_in (tree n ps cs rest) (suc k) p u e =
      ap (λ z. begin_node n ∷ z) (onto (spelled_properties ps) _ (spelled cs ++ end_node ∷ opened_in rest k p) (begin_node m) (onto (spelled cs) _ (end_node ∷ opened_in rest k p) (begin_node m) (ap (λ z. end_node ∷ z) (begun_in rest k p u e))))

  -- BEGIN_NODE opens a new last child.
  pub opened-begin : (t : Tree) (p : Place) (u : Tree) → at t p ≡ Some u → opened (edit (add_child m []) t p) (p ++ count u.children ∷ []) ≡ opened t p ++ begin_node m ∷ []
  opened-begin t [] u e =
      let h : t ≡ u = cc in ap (λ (v : Tree). begin_node t.name ∷ (spelled_properties t.properties ++ opened_in (with_last t.children m [] none) (count v.children) [])) (sym h) ∙ ap (λ z. begin_node t.name ∷ z) (onto (spelled_properties t.properties) _ (spelled t.children) (begin_node m) (begun_last t.children))
  opened-begin t (k ∷ p) u e =
      ap (λ z. begin_node t.name ∷ z) (onto (spelled_properties t.properties) _ (opened_in t.children k p) (begin_node m) (begun_in t.children k p u e))

module _ (m v : Bytes) where
  put_last : (ps : List Property) (cs : Trees) → cs ≡ none → spelled_properties (put m v ps) ++ spelled cs ≡ (spelled_properties ps ++ spelled cs) ++ property (Some m) v ∷ []
  put_last ps cs e =
      ap (λ z. z ++ spelled cs) (map-append _ ps ((m, v) ∷ [])) ∙ (append_assoc (spelled_properties ps) _ (spelled cs) ∙ onto (spelled_properties ps) _ (spelled cs) (property (Some m) v) (ap (λ (z : Trees). property (Some m) v ∷ spelled z) e ∙ sym (ap (λ (z : Trees). spelled z ++ property (Some m) v ∷ []) e)))

  given_in : (ts : Trees) (k : ℕ) (p : Place) (u : Tree) → at_in ts k p ≡ Some u → u.children ≡ none → opened_in (edit_in (change_properties (put m v)) ts k p) k p ≡ opened_in ts k p ++ property (Some m) v ∷ []
  given_in none k p u e c = absurd (cc)
  given_in (tree n ps cs rest) zero [] u e c =
      let h : cs ≡ none = cc in ap (λ z. begin_node n ∷ z) (put_last ps cs h)
  given_in (tree n ps cs rest) zero (j ∷ p) u e c =
      ap (λ z. begin_node n ∷ z) (onto (spelled_properties ps) _ (opened_in cs j p) _ (given_in cs j p u e c))
  given_in (tree n ps cs rest) (suc k) p u e c =
      ap (λ z. begin_node n ∷ z) (onto (spelled_properties ps) _ (spelled cs ++ end_node ∷ opened_in rest k p) _ (onto (spelled cs) _ (end_node ∷ opened_in rest k p) _ (ap (λ z. end_node ∷ z) (given_in rest k p u e c))))

  -- PROP adds a last property to a node without children.
  pub opened-property : (t : Tree) (p : Place) (u : Tree) → at t p ≡ Some u → u.children ≡ none → opened (edit (change_properties (put m v)) t p) p ≡ opened t p ++ property (Some m) v ∷ []
  opened-property t [] u e c =
      let h : t ≡ u = cc in ap (λ z. begin_node t.name ∷ z) (put_last t.properties t.children (ap (λ (z : Tree). z.children) h ∙ c))
  opened-property t (k ∷ p) u e c =
      ap (λ z. begin_node t.name ∷ z) (onto (spelled_properties t.properties) _ (opened_in t.children k p) _ (given_in t.children k p u e c))

closed_last : (ts : Trees) (k : ℕ) → count ts ≡ suc k → opened_in ts k [] ++ end_node ∷ [] ≡ spelled ts
closed_last none k e = absurd (cc)
closed_last (tree n ps cs none) zero e =
    ap (λ z. begin_node n ∷ z) (append_assoc (spelled_properties ps) (spelled cs) (end_node ∷ []))
closed_last (tree n ps cs (tree o qs ds rest)) zero e = absurd (cc)
closed_last (tree n ps cs rest) (suc k) e =
    ap (λ z. begin_node n ∷ z) (sym (onto (spelled_properties ps) _ (spelled cs ++ end_node ∷ opened_in rest k []) end_node (onto (spelled cs) _ (end_node ∷ opened_in rest k []) end_node (ap (λ z. end_node ∷ z) (sym (closed_last rest k (cc)))))))

closed_in : (ts : Trees) (j : ℕ) (q : Place) (u : Tree) (k : ℕ) → at_in ts j q ≡ Some u → count u.children ≡ suc k → opened_in ts j (q ++ k ∷ []) ++ end_node ∷ [] ≡ opened_in ts j q
closed_in none j q u k e c = absurd (cc)
closed_in (tree n ps cs rest) zero [] u k e c =
    let h : record { name = n; properties = ps; children = cs } ≡ u = cc in ap (λ z. begin_node n ∷ z) (sym (onto (spelled_properties ps) _ (opened_in cs k []) end_node (sym (closed_last cs k (ap (λ (v : Tree). count v.children) h ∙ c)))))
closed_in (tree n ps cs rest) zero (i ∷ q) u k e c =
    ap (λ z. begin_node n ∷ z) (sym (onto (spelled_properties ps) _ (opened_in cs i (q ++ k ∷ [])) end_node (sym (closed_in cs i q u k e c))))
closed_in (tree n ps cs rest) (suc j) q u k e c =
    ap (λ z. begin_node n ∷ z) (sym (onto (spelled_properties ps) _ (spelled cs ++ end_node ∷ opened_in rest j (q ++ k ∷ [])) end_node (onto (spelled cs) _ (end_node ∷ opened_in rest j (q ++ k ∷ [])) end_node (ap (λ z. end_node ∷ z) (sym (closed_in rest j q u k e c))))))

-- END_NODE closes the last child.
pub opened-end : (t : Tree) (q : Place) (u : Tree) (k : ℕ) → at t q ≡ Some u → count u.children ≡ suc k → opened t (q ++ k ∷ []) ++ end_node ∷ [] ≡ opened t q
opened-end t [] u k e c =
    let h : t ≡ u = cc in ap (λ z. begin_node t.name ∷ z) (sym (onto (spelled_properties t.properties) _ (opened_in t.children k []) end_node (sym (closed_last t.children k (ap (λ (v : Tree). count v.children) h ∙ c)))))
opened-end t (j ∷ q) u k e c =
    ap (λ z. begin_node t.name ∷ z) (sym (onto (spelled_properties t.properties) _ (opened_in t.children j (q ++ k ∷ [])) end_node (sym (closed_in t.children j q u k e c))))
