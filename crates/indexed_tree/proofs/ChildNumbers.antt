-- The first child of a name, by its number, where a tree is edited.
use Rattle.std.proofs.Common.{◌≡◌, ◌≢◌, ◌∙◌, ap, refl, ℕ, zero, suc, List, [], ◌∷◌, ◌++◌, Option, Some, None, option_map, Bool, true, false, cond}
use Rattle.std.specs.Prelude.{bytes_eq}
use Rattle.fdt_tree.specs.Tree.{Bytes, Property, Trees, none, tree, Tree, Place, at_in, at, count, with_last, edit_in, edit, first_named}
use Rattle.fdt_tree.specs.Document.{Document, place_of, children_of}
use Rattle.fdt_tree.proofs.Edits.{Extends}
use Rattle.fdt_nodes.specs.ChildMaps.{child_place}
use Rattle.indexed_tree.specs.PrivateIndex.{entered}

-- the number of the first of the trees that has a name
abbrev pub first_number : Bytes → Trees → Option ℕ
first_number wanted none = None
first_number wanted (tree name properties children rest) = cond (bytes_eq name wanted) (Some 0) (option_map suc (first_number wanted rest))

number-named : (P : ℕ → Place) (w : Bytes) (ts : Trees) → option_map (λ (found : ℕ × Trees). P found.0) (first_named w ts) ≡ option_map P (first_number w ts)
number-named P w none = refl
number-named P w (tree n ps cs rest) = by (bytes_eq n w) (first_named w rest) (first_number w rest) (number-named (λ k. P (suc k)) w rest)
  where
    by : (b : Bool) (o : Option (ℕ × Trees)) (r : Option ℕ) → option_map (λ (found : ℕ × Trees). P (suc found.0)) o ≡ option_map (λ k. P (suc k)) r → option_map (λ (found : ℕ × Trees). P found.0) (cond b (Some (0, cs)) (option_map (λ (found : ℕ × Trees). (suc found.0, found.1)) o)) ≡ option_map P (cond b (Some 0) (option_map suc r))
    by true o r is = refl
    by false None None is = refl
    by false None (Some k) is = absurd (cc)
    by false (Some found) None is = absurd (cc)
    by false (Some found) (Some k) is = is

pub place-number : (d : Document) (i : ℕ) (w : Bytes) → child_place d i w ≡ option_map (λ k. place_of d i ++ k ∷ []) (first_number w (children_of d i))
place-number d i w = number-named (λ k. place_of d i ++ k ∷ []) w (children_of d i)

-- a last tree is the first of its name where none has it
pub number-last : (w : Bytes) (ts : Trees) (m : Bytes) (qs : List Property) (ds : Trees) → first_number w (with_last ts m qs ds) ≡ entered m (count ts) w (first_number w ts)
number-last w none m qs ds = refl
number-last w (tree n ps cs rest) m qs ds =
    ap (λ o. cond (bytes_eq n w) (Some 0) (option_map suc o)) (number-last w rest m qs ds) ∙ by (bytes_eq n w) (bytes_eq m w) (first_number w rest)
  where
    by : (t u : Bool) (o : Option ℕ) → cond t (Some 0) (option_map suc (elim o as (λ _. Option ℕ) [ Some k ↦ Some k | None ↦ cond u (Some (count rest)) None ])) ≡ elim (cond t (Some 0) (option_map suc o)) as (λ _. Option ℕ) [ Some k ↦ Some k | None ↦ cond u (Some (suc (count rest))) None ]
    by true u o = refl
    by false true None = refl
    by false false None = refl
    by false u (Some k) = refl

-- the first child of a name of a tree
abbrev pub number_below : Bytes → Tree → Option ℕ
number_below w u = first_number w u.children

module _ (f : Tree → Tree) (named : (t : Tree) → (f t).name ≡ t.name) (w : Bytes) where
  -- an edit that keeps names keeps the first of a name
  number-edit_in : (ts : Trees) (k : ℕ) (p : Place) → first_number w (edit_in f ts k p) ≡ first_number w ts
  number-edit_in none k p = refl
  number-edit_in (tree n ps cs rest) zero [] = ap (λ m. cond (bytes_eq m w) (Some 0) (option_map suc (first_number w rest))) (named (record { name = n; properties = ps; children = cs }))
  number-edit_in (tree n ps cs rest) zero (j ∷ p) = refl
  number-edit_in (tree n ps cs rest) (suc k) p = ap (λ o. cond (bytes_eq n w) (Some 0) (option_map suc o)) (number-edit_in rest k p)

  numbers_in : Extends f → (ts : Trees) (k : ℕ) (p : Place) (j : ℕ) (q : Place) (u : Tree) → (k ∷ p) ≢ (j ∷ q) → at_in ts j q ≡ Some u → option_map (number_below w) (at_in (edit_in f ts k p) j q) ≡ Some (number_below w u)
  numbers_in x none k p j q u ne e = absurd (cc)
  numbers_in x (tree n ps cs rest) zero [] zero [] u ne e = absurd (ne refl)
  numbers_in x (tree n ps cs rest) zero [] zero (i ∷ q) u ne e =
      ap (option_map (number_below w)) (x.children (record { name = n; properties = ps; children = cs }) u i q e)
  numbers_in x (tree n ps cs rest) zero [] (suc j) q u ne e = ap (option_map (number_below w)) e
  numbers_in x (tree n ps cs rest) zero (i ∷ p) zero [] u ne e = ap Some (number-edit_in cs i p) ∙ ap (option_map (number_below w)) e
  numbers_in x (tree n ps cs rest) zero (i ∷ p) zero (l ∷ q) u ne e = numbers_in x cs i p l q u (λ h. ne (ap (λ z. zero ∷ z) h)) e
  numbers_in x (tree n ps cs rest) zero (i ∷ p) (suc j) q u ne e = ap (option_map (number_below w)) e
  numbers_in x (tree n ps cs rest) (suc k) p zero [] u ne e = ap (option_map (number_below w)) e
  numbers_in x (tree n ps cs rest) (suc k) p zero (l ∷ q) u ne e = ap (option_map (number_below w)) e
  numbers_in x (tree n ps cs rest) (suc k) p (suc j) q u ne e = numbers_in x rest k p j q u (λ h. ne (cc)) e

  -- the first child of a name of every other node
  pub numbers-other : Extends f → (t : Tree) (p q : Place) (u : Tree) → p ≢ q → at t q ≡ Some u → option_map (number_below w) (at (edit f t p) q) ≡ Some (number_below w u)
  numbers-other x t [] [] u ne e = absurd (ne refl)
  numbers-other x t [] (j ∷ q) u ne e = ap (option_map (number_below w)) (x.children t u j q e)
  numbers-other x t (k ∷ p) [] u ne e = ap Some (number-edit_in t.children k p) ∙ ap (option_map (number_below w)) e
  numbers-other x t (k ∷ p) (j ∷ q) u ne e = numbers_in x t.children k p j q u ne e
