-- A tree keeps the format's names and depth, while nodes and properties are added.
use Rattle.std.proofs.Common.{◌≡◌, ℕ, zero, suc, ◌+◌, ◌<◌, ◌≤◌, max, true, not, ◌&&◌, ◌==◌, List, [], ◌∷◌, ◌++◌, length, refl, ap, ◌∙◌, arith, zero-le}
use Rattle.std.proofs.lemmas.Bool.{and_parts, and_from}
use Rattle.std.proofs.lemmas.List.Folds.{list_all-append}
use Rattle.fdt_tree.specs.Tree.{Bytes, Property, Trees, none, tree, Tree, Place, depth, depth_limit, with_last, edit_in, edit, add_child, change_properties}
use Rattle.fdt_tree.specs.Whole.{height}
use Rattle.fdt_read.specs.Spelling.{is_name, are_named, are_names}
use Rattle.fdt_read.specs.Built.{IsFormed}

pub record HaveNames (n : Bytes) (ps : List Property) (cs rest : Trees) : Type 0 where
  pub name : is_name n ≡ true
  pub properties : are_named ps ≡ true
  pub children : are_names cs ≡ true
  pub others : are_names rest ≡ true

pub names_of : (n : Bytes) (ps : List Property) (cs rest : Trees) → are_names (tree n ps cs rest) ≡ true → HaveNames n ps cs rest
names_of n ps cs rest e =
    let a = and_parts (is_name n) (are_named ps && (are_names cs && are_names rest)) e in let b = and_parts (are_named ps) (are_names cs && are_names rest) a.1 in let c = and_parts (are_names cs) (are_names rest) b.1 in record {
      name = a.0;
      properties = b.0;
      children = c.0;
      others = c.1;
    }

pub names_from : (n : Bytes) (ps : List Property) (cs rest : Trees) → HaveNames n ps cs rest → are_names (tree n ps cs rest) ≡ true
names_from n ps cs rest h =
    and_from (is_name n) (are_named ps && (are_names cs && are_names rest)) h.name (and_from (are_named ps) (are_names cs && are_names rest) h.properties (and_from (are_names cs) (are_names rest) h.children h.others))

module _ (m : Bytes) where
  names_last : is_name m ≡ true → (ts : Trees) → are_names ts ≡ true → are_names (with_last ts m [] none) ≡ true
  names_last h none e = names_from m [] none none (record { name = h; properties = refl; children = refl; others = refl })
  names_last h (tree n ps cs rest) e =
      let a = names_of n ps cs rest e in names_from n ps cs (with_last rest m [] none) (record {
        name = a.name;
        properties = a.properties;
        children = a.children;
        others = names_last h rest a.others;
      })

  names_in : is_name m ≡ true → (ts : Trees) (k : ℕ) (p : Place) → are_names ts ≡ true → are_names (edit_in (add_child m []) ts k p) ≡ true
  names_in h none k p e = refl
  names_in h (tree n ps cs rest) zero [] e =
      let a = names_of n ps cs rest e in names_from n ps (with_last cs m [] none) rest (record {
        name = a.name;
        properties = a.properties;
        children = names_last h cs a.children;
        others = a.others;
      })
  names_in h (tree n ps cs rest) zero (j ∷ p) e =
      let a = names_of n ps cs rest e in names_from n ps (edit_in (add_child m []) cs j p) rest (record {
        name = a.name;
        properties = a.properties;
        children = names_in h cs j p a.children;
        others = a.others;
      })
  names_in h (tree n ps cs rest) (suc k) p e =
      let a = names_of n ps cs rest e in names_from n ps cs (edit_in (add_child m []) rest k p) (record {
        name = a.name;
        properties = a.properties;
        children = a.children;
        others = names_in h rest k p a.others;
      })

  height_last : (ts : Trees) → height (with_last ts m [] none) ≤ max (height ts) 1
  height_last none = omega arith
  height_last (tree n ps cs rest) = omega (arith, height_last rest)

  height_in : (ts : Trees) (k : ℕ) (p : Place) → height (edit_in (add_child m []) ts k p) ≤ max (height ts) (length p + 2)
  height_in none k p = zero-le
  height_in (tree n ps cs rest) zero [] = omega (arith, height_last cs)
  height_in (tree n ps cs rest) zero (j ∷ p) = omega (arith, height_in cs j p)
  height_in (tree n ps cs rest) (suc k) p = omega (arith, height_in rest k p)

  -- A new child with a name, below a node that is not at the greatest depth.
  pub formed-begin : is_name m ≡ true → (t : Tree) (p : Place) → depth p < depth_limit → IsFormed t → IsFormed (edit (add_child m []) t p)
  formed-begin h t [] d i =
      let a = and_parts (are_named t.properties) (are_names t.children) i.names in record {
        unnamed = i.unnamed;
        names = and_from (are_named t.properties) (are_names (with_last t.children m [] none)) a.0 (names_last h t.children a.1);
        depth = omega (arith, i.depth, height_last t.children);
      }
  formed-begin h t (k ∷ p) d i =
      let a = and_parts (are_named t.properties) (are_names t.children) i.names in record {
        unnamed = i.unnamed;
        names = and_from (are_named t.properties) (are_names (edit_in (add_child m []) t.children k p)) a.0 (names_in h t.children k p a.1);
        depth = omega (arith, i.depth, height_in t.children k p);
      }

module _ (m v : Bytes) where
  abbrev pub put : List Property → List Property
  put ps = ps ++ (m, v) ∷ []

  named_last : not (length m == 0) ≡ true → (ps : List Property) → are_named ps ≡ true → are_named (put ps) ≡ true
  named_last h ps e =
      list_all-append (λ p. not (length p.0 == 0)) ps ((m, v) ∷ []) ∙ and_from (are_named ps) (are_named ((m, v) ∷ [])) e (and_from (not (length m == 0)) true h refl)

  named_in : not (length m == 0) ≡ true → (ts : Trees) (k : ℕ) (p : Place) → are_names ts ≡ true → are_names (edit_in (change_properties put) ts k p) ≡ true
  named_in h none k p e = refl
  named_in h (tree n ps cs rest) zero [] e =
      let a = names_of n ps cs rest e in names_from n (put ps) cs rest (record {
        name = a.name;
        properties = named_last h ps a.properties;
        children = a.children;
        others = a.others;
      })
  named_in h (tree n ps cs rest) zero (j ∷ p) e =
      let a = names_of n ps cs rest e in names_from n ps (edit_in (change_properties put) cs j p) rest (record {
        name = a.name;
        properties = a.properties;
        children = named_in h cs j p a.children;
        others = a.others;
      })
  named_in h (tree n ps cs rest) (suc k) p e =
      let a = names_of n ps cs rest e in names_from n ps cs (edit_in (change_properties put) rest k p) (record {
        name = a.name;
        properties = a.properties;
        children = a.children;
        others = named_in h rest k p a.others;
      })

  height_kept : (ts : Trees) (k : ℕ) (p : Place) → height (edit_in (change_properties put) ts k p) ≡ height ts
  height_kept none k p = refl
  height_kept (tree n ps cs rest) zero [] = refl
  height_kept (tree n ps cs rest) zero (j ∷ p) = ap (λ h. max (suc h) (height rest)) (height_kept cs j p)
  height_kept (tree n ps cs rest) (suc k) p = ap (λ h. max (suc (height cs)) h) (height_kept rest k p)

  -- A new property with a name.
  pub formed-property : not (length m == 0) ≡ true → (t : Tree) (p : Place) → IsFormed t → IsFormed (edit (change_properties put) t p)
  formed-property h t [] i =
      let a = and_parts (are_named t.properties) (are_names t.children) i.names in record {
        unnamed = i.unnamed;
        names = and_from (are_named (put t.properties)) (are_names t.children) (named_last h t.properties a.0) a.1;
        depth = i.depth;
      }
  formed-property h t (k ∷ p) i =
      let a = and_parts (are_named t.properties) (are_names t.children) i.names in record {
        unnamed = i.unnamed;
        names = and_from (are_named t.properties) (are_names (edit_in (change_properties put) t.children k p)) a.0 (named_in h t.children k p a.1);
        depth = omega (arith, i.depth, height_kept t.children k p);
      }
