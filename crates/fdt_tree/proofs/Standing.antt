-- Where a node stands after an edit, and where none does.
use Rattle.std.proofs.Common.{◌≡◌, ◌≢◌, ℕ, zero, suc, List, [], ◌∷◌, ◌++◌, Some, None, refl, ap, ◌∙◌}
use Rattle.fdt_tree.specs.Tree.{Bytes, Property, Trees, none, tree, Tree, Place, at_in, at, count, with_last, edit_in, edit, add_child}
use Rattle.fdt_tree.proofs.Edits.{Extends}

pub there_in : (f : Tree → Tree) → Extends f → (ts : Trees) (k : ℕ) (p : Place) (j : ℕ) (q : Place) (u : Tree) → at_in ts j q ≡ Some u → (w : Tree) × (at_in (edit_in f ts k p) j q ≡ Some w)
there_in f x none k p j q u e = absurd (cc)
there_in f x (tree n ps cs rest) zero [] zero [] u e = (f (record { name = n; properties = ps; children = cs }), refl)
there_in f x (tree n ps cs rest) zero [] zero (i ∷ q) u e =
    (u, x.children (record { name = n; properties = ps; children = cs }) u i q e)
there_in f x (tree n ps cs rest) zero [] (suc j) q u e = (u, e)
there_in f x (tree n ps cs rest) zero (i ∷ p) zero [] u e =
    (record { name = n; properties = ps; children = edit_in f cs i p }, refl)
there_in f x (tree n ps cs rest) zero (i ∷ p) zero (l ∷ q) u e = there_in f x cs i p l q u e
there_in f x (tree n ps cs rest) zero (i ∷ p) (suc j) q u e = (u, e)
there_in f x (tree n ps cs rest) (suc k) p zero [] u e = (u, e)
there_in f x (tree n ps cs rest) (suc k) p zero (l ∷ q) u e = (u, e)
there_in f x (tree n ps cs rest) (suc k) p (suc j) q u e = there_in f x rest k p j q u e

-- A place where a node stands is one also after an edit.
pub still_there : (f : Tree → Tree) → Extends f → (t : Tree) (p q : Place) (u : Tree) → at t q ≡ Some u → (w : Tree) × (at (edit f t p) q ≡ Some w)
still_there f x t [] [] u e = (f t, refl)
still_there f x t [] (j ∷ q) u e = (u, x.children t u j q e)
still_there f x t (k ∷ p) [] u e = (record t { children = edit_in f t.children k p }, refl)
still_there f x t (k ∷ p) (j ∷ q) u e = there_in f x t.children k p j q u e

last_missing : (ts : Trees) (m : Bytes) (qs : List Property) (i : ℕ) (q : Place) → (i ∷ q) ≢ (count ts ∷ []) → at_in ts i q ≡ None → at_in (with_last ts m qs none) i q ≡ None
last_missing none m qs zero [] ne e = absurd (ne refl)
last_missing none m qs zero (l ∷ q) ne e = refl
last_missing none m qs (suc i) q ne e = refl
last_missing (tree n ps cs rest) m qs zero [] ne e = absurd (cc)
last_missing (tree n ps cs rest) m qs zero (l ∷ q) ne e = e
last_missing (tree n ps cs rest) m qs (suc i) q ne e = last_missing rest m qs i q (λ h. ne (cc)) e

missing_in : (m : Bytes) (qs : List Property) (ts : Trees) (k : ℕ) (p : Place) (u : Tree) → at_in ts k p ≡ Some u → (j : ℕ) (q : Place) → (j ∷ q) ≢ (k ∷ (p ++ count u.children ∷ [])) → at_in ts j q ≡ None → at_in (edit_in (add_child m qs) ts k p) j q ≡ None
missing_in m qs none k p u h j q ne e = absurd (cc)
missing_in m qs (tree n ps cs rest) zero [] u h zero [] ne e = absurd (cc)
missing_in m qs (tree n ps cs rest) zero [] u h zero (i ∷ q) ne e =
    let s : record { name = n; properties = ps; children = cs } ≡ u = cc in last_missing cs m qs i q (λ z. ne (ap (λ (w : Place). zero ∷ w) z ∙ ap (λ (v : Tree). zero ∷ count v.children ∷ []) s)) e
missing_in m qs (tree n ps cs rest) zero [] u h (suc j) q ne e = e
missing_in m qs (tree n ps cs rest) zero (i ∷ p) u h zero [] ne e = absurd (cc)
missing_in m qs (tree n ps cs rest) zero (i ∷ p) u h zero (l ∷ q) ne e = missing_in m qs cs i p u h l q (λ z. ne (ap (λ (w : Place). zero ∷ w) z)) e
missing_in m qs (tree n ps cs rest) zero (i ∷ p) u h (suc j) q ne e = e
missing_in m qs (tree n ps cs rest) (suc k) p u h zero [] ne e = absurd (cc)
missing_in m qs (tree n ps cs rest) (suc k) p u h zero (l ∷ q) ne e = e
missing_in m qs (tree n ps cs rest) (suc k) p u h (suc j) q ne e = missing_in m qs rest k p u h j q (λ z. ne (cc)) e

-- With a new last child, a place where no node stood is still one, but for the new child's.
pub still_missing : (m : Bytes) (qs : List Property) (t : Tree) (p : Place) (u : Tree) → at t p ≡ Some u → (q : Place) → q ≢ p ++ count u.children ∷ [] → at t q ≡ None → at (edit (add_child m qs) t p) q ≡ None
still_missing m qs t p u h [] ne e = absurd (cc)
still_missing m qs t [] u h (j ∷ q) ne e =
    let s : t ≡ u = cc in last_missing t.children m qs j q (λ z. ne (z ∙ ap (λ (v : Tree). count v.children ∷ []) s)) e
still_missing m qs t (k ∷ p) u h (j ∷ q) ne e = missing_in m qs t.children k p u h j q ne e

-- Two places end in the same number below the same place.
pub same_end : (a b : Place) (x y : ℕ) → a ++ x ∷ [] ≡ b ++ y ∷ [] → (a ≡ b) × (x ≡ y)
same_end [] [] x y e = (refl, cc)
same_end [] (z ∷ []) x y e = absurd (cc)
same_end [] (z ∷ w ∷ b) x y e = absurd (cc)
same_end (z ∷ []) [] x y e = absurd (cc)
same_end (z ∷ w ∷ a) [] x y e = absurd (cc)
same_end (z ∷ a) (w ∷ b) x y e =
    let f : a ++ x ∷ [] ≡ b ++ y ∷ [] = cc in let g : z ≡ w = cc in let r = same_end a b x y f in (ap (λ i. i ∷ a) g ∙ ap (λ c. w ∷ c) r.0, r.1)
