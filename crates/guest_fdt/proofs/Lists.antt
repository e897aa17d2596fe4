-- Lists that are put together from parts, and trees as lists.
use Rattle.std.proofs.Common.{◌≡◌, ℕ, suc, Bool, true, false, cond, if◌then◌else◌, List, [], ◌∷◌, ◌++◌, Option, Some, None, map, filter, option_map, refl, sym, ap, ◌∙◌, arith}
use Rattle.std.specs.Prelude.{All, bytes_eq, option_and_then}
use Rattle.std.proofs.lemmas.List.Elements.{filter-append}
use Rattle.std.proofs.lemmas.Slice.Eq.{bytes_eq-Decides}
use Rattle.fdt_tree.specs.Tree.{Bytes, Trees, none, tree, Tree, at, at_in, first_named, descend, components}
use Rattle.tree_parts.specs.Nodes.{trees_of}
use Rattle.guest_fdt.specs.Found.{list_of, node_found}
use Rattle.tree_parts.proofs.Growing.{append-nothing}

pub all-first : {A : Type 0} (P : A → Type 0) (x : A) (xs : List A) → All P (x ∷ xs) → P x
all-first P x xs all = all 0 x (omega arith)

pub all-rest : {A : Type 0} (P : A → Type 0) (x : A) (xs : List A) → All P (x ∷ xs) → All P xs
all-rest P x xs all = λ k d h. all (suc k) d (omega arith)

-- a filter of two parts
pub filter-parts : {A : Type 0} (p : A → Bool) (xs ys zs ws : List A) → filter p xs ≡ zs → filter p ys ≡ ws → filter p (xs ++ ys) ≡ zs ++ ws
filter-parts p xs ys zs ws first next =
    filter-append p xs ys ∙ (ap (λ z. z ++ filter p ys) first ∙ ap (λ z. zs ++ z) next)

-- a filter of two parts, of which nothing in the second passes
pub filter-before : {A : Type 0} (p : A → Bool) (xs ys zs : List A) → filter p xs ≡ zs → filter p ys ≡ [] → filter p (xs ++ ys) ≡ zs
filter-before p xs ys zs first next = filter-parts p xs ys zs [] first next ∙ append-nothing zs

pub list-of-trees : (ts : List Tree) → list_of (trees_of ts) ≡ ts
list-of-trees [] = refl
list-of-trees (t ∷ ts) = ap (λ z. t ∷ z) (list-of-trees ts)

-- the first of the trees that has this name
abbrev pub first_with : Bytes → List Tree → Option Tree
first_with name [] = None
first_with name (t ∷ ts) = if bytes_eq t.name name then Some t else first_with name ts

pub first_with-before : (name : Bytes) (xs ys : List Tree) → first_with name xs ≡ None → first_with name (xs ++ ys) ≡ first_with name ys
first_with-before name [] ys h = refl
first_with-before name (x ∷ xs) ys h = by (bytes_eq x.name name) (first_with-before name xs ys) h
  where
    by : (b : Bool) → (first_with name xs ≡ None → first_with name (xs ++ ys) ≡ first_with name ys) → cond b (Some x) (first_with name xs) ≡ None → cond b (Some x) (first_with name (xs ++ ys)) ≡ first_with name ys
    by true rest h = absurd (cc)
    by false rest h = rest h

pub first_with-after : (name : Bytes) (xs ys : List Tree) → first_with name ys ≡ None → first_with name (xs ++ ys) ≡ first_with name xs
first_with-after name [] ys h = h
first_with-after name (x ∷ xs) ys h = ap (cond (bytes_eq x.name name) (Some x)) (first_with-after name xs ys h)

pub first_with-map : {A : Type 0} (name : Bytes) (f : A → Tree) (xs : List A) → ((x : A) → bytes_eq (f x).name name ≡ false) → first_with name (map f xs) ≡ None
first_with-map name f [] other = refl
first_with-map name f (x ∷ xs) other = rw (other x) (first_with-map name f xs other)

-- the first child of a name, by its number, is the first of the list
found_in_trees : (name : Bytes) (ts : Trees) → option_and_then (λ (found : ℕ × Trees). at_in ts found.0 []) (first_named name ts) ≡ first_with name (list_of ts)
found_in_trees name none = refl
found_in_trees name (tree n ps cs rest) = by (bytes_eq n name) (found_in_trees name rest)
  where
    later : (o : Option (ℕ × Trees)) → option_and_then (λ (found : ℕ × Trees). at_in (tree n ps cs rest) found.0 []) (option_map (λ (found : ℕ × Trees). (suc found.0, found.1)) o) ≡ option_and_then (λ (found : ℕ × Trees). at_in rest found.0 []) o
    later None = refl
    later (Some found) = refl

    by : (b : Bool) → option_and_then (λ (found : ℕ × Trees). at_in rest found.0 []) (first_named name rest) ≡ first_with name (list_of rest) → option_and_then (λ (found : ℕ × Trees). at_in (tree n ps cs rest) found.0 []) (cond b (Some (0, cs)) (option_map (λ (found : ℕ × Trees). (suc found.0, found.1)) (first_named name rest))) ≡ cond b (Some (record { name = n; properties = ps; children = cs })) (first_with name (list_of rest))
    by true onward = refl
    by false onward = later (first_named name rest) ∙ onward

-- a path of one component finds the first child of its name
pub node_found-child : (t : Tree) (path name : Bytes) → components path ≡ Some (name ∷ []) → bytes_eq name [] ≡ false → node_found t path ≡ first_with name (list_of t.children)
node_found-child t path name one some =
    ap (λ (o : Option (List Bytes)). option_and_then (at t) (option_and_then (λ names. descend names t.children) o)) one ∙ (ap (λ b. option_and_then (at t) (cond b None (option_and_then (λ (found : ℕ × Trees). Some (found.0 ∷ [])) (first_named name t.children)))) some ∙ (into (first_named name t.children) ∙ found_in_trees name t.children))
  where
    into : (o : Option (ℕ × Trees)) → option_and_then (at t) (option_and_then (λ (found : ℕ × Trees). Some (found.0 ∷ [])) o) ≡ option_and_then (λ (found : ℕ × Trees). at_in t.children found.0 []) o
    into None = refl
    into (Some found) = refl

-- what is found has the name
pub first_with-name : (name : Bytes) (ts : List Tree) (t : Tree) → first_with name ts ≡ Some t → t.name ≡ name
first_with-name name [] t h = absurd (cc)
first_with-name name (x ∷ xs) t h = by (bytes_eq x.name name) ((bytes_eq-Decides x.name name).0) (first_with-name name xs t) h
  where
    by : (b : Bool) → (b ≡ true → x.name ≡ name) → (first_with name xs ≡ Some t → t.name ≡ name) → cond b (Some x) (first_with name xs) ≡ Some t → t.name ≡ name
    by true is rest h = let same : x ≡ t = cc in ap (λ (u : Tree). u.name) (sym same) ∙ is refl
    by false is rest h = rest h
