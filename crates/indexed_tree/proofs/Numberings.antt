-- Every node has its number, its name and its properties, where a child is added or properties are changed.
use Rattle.std.proofs.Common.{IsTrue, ◌≡◌, ◌≢◌, ◌⊎◌, inl, inr, ◌∙◌, ap, sym, subst, refl, ℕ, suc, ◌<◌, ◌≤◌, List, [], ◌∷◌, ◌++◌, Option, Some, None, option_map, IsSome, Bool, true, false, length, arith}
use Rattle.std.specs.Prelude.{bytes_eq}
use Rattle.std.specs.Option.{option_map_or}
use Rattle.std.proofs.lemmas.Bool.{cases_eq}
use Rattle.std.proofs.lemmas.Slice.Eq.{bytes_eq-Decides}
use Rattle.fdt_tree.specs.Tree.{Bytes, Property, none, Tree, Place, at, count, add_child, change_properties, depth, depth_limit, is_node_name}
use Rattle.fdt_tree.specs.Document.{Document, place_of, node_at, name_of, properties_of, children_at, with_node, with_properties, have_names, IsNumbering, IsNamed}
use Rattle.fdt_tree.specs.Assembled.{face}
use Rattle.fdt_tree.specs.PrivateLinks.{summary}
use Rattle.fdt_tree.proofs.Edits.{add_child-Extends, change_properties-Extends, at-edit_same, at-edit_other, at-past, at-new}
use Rattle.fdt_tree.proofs.Standing.{still_there, still_missing}
use Rattle.fdt_tree.proofs.Links.{mapped, or_of, place-old, place-new, children_at-there, length-last}
use Rattle.fdt_tree.proofs.Changes.{children_kept}
use Rattle.tree_parts.proofs.Growing.{stands}

-- what has a value in one way has one in the other
some-map : {A B C : Type 0} (f : A → C) (g : B → C) (o : Option A) (r : Option B) → option_map f o ≡ option_map g r → IsSome o → IsSome r
some-map f g None r is some = absurd (cc)
some-map f g (Some x) None is some = absurd (cc)
some-map f g (Some x) (Some y) is some = refl

some-of : {A : Type 0} (o : Option A) (x : A) → o ≡ Some x → IsSome o
some-of None x is = absurd (cc)
some-of (Some y) x is = refl

never-both : {A : Type 0} (o : Option A) (x : A) → o ≡ Some x → o ≡ None → ⊥
never-both o x e f = cc

-- what a node is, by its name and its properties
pub name-face : (d : Document) (i : ℕ) (n : Bytes) (ps : List Property) → option_map face (node_at d i) ≡ Some (n, ps) → name_of d i ≡ n
name-face d i n ps is = or_of face (λ (z : Bytes × List Property). z.0) (node_at d i) [] (n, ps) is

pub properties-face : (d : Document) (i : ℕ) (n : Bytes) (ps : List Property) → option_map face (node_at d i) ≡ Some (n, ps) → properties_of d i ≡ ps
properties-face d i n ps is = or_of face (λ (z : Bytes × List Property). z.1) (node_at d i) [] (n, ps) is

pub face-of : (d : Document) (i : ℕ) (u : Tree) → node_at d i ≡ Some u → option_map face (node_at d i) ≡ Some (name_of d i, properties_of d i)
face-of d i u is =
    ap (option_map face) is ∙ (ap (λ (o : Option Tree). Some (option_map_or (λ (v : Tree). v.name) o [], option_map_or (λ (v : Tree). v.properties) o [])) (sym is))

module _ (d : Document) (p : ℕ) (name : Bytes) (numbering : IsNumbering d) (live : p < length d.places) where
  abbrev P : Place
  P = place_of d p

  abbrev c : ℕ
  c = children_at d.tree P

  abbrev d' : Document
  d' = with_node d P name []

  abbrev N : ℕ
  N = length d.places

  pub above : (u : Tree) × (at d.tree P ≡ Some u)
  above = stands d p numbering live

  pub count-above : c ≡ count above.0.children
  count-above = children_at-there d.tree above.0 P above.1

  pub longer : length d'.places ≡ suc N
  longer = length-last d.places (P ++ c ∷ [])

  pub old : (i : ℕ) → i < N → place_of d' i ≡ place_of d i
  old i b = place-old d P name [] i b

  pub new : (i : ℕ) → i ≡ N → place_of d' i ≡ P ++ c ∷ []
  new i e = place-new d P name [] i e

  pub new_at : at d'.tree (P ++ c ∷ []) ≡ Some (record { name = name; properties = []; children = none })
  new_at = ap (λ k. at d'.tree (P ++ k ∷ [])) count-above ∙ at-new name [] d.tree P above.0 above.1

  nothing_there : at d.tree (P ++ c ∷ []) ≡ None
  nothing_there = ap (λ k. at d.tree (P ++ k ∷ [])) count-above ∙ at-past d.tree P above.0 above.1

  -- what stood at another place than the parent's
  apart : (i : ℕ) → i < N → i ≢ p → P ≢ place_of d i
  apart i b ne = λ e. ne (numbering.differ i p b live (sym e))

  -- the names and properties are kept
  pub face-old : (i : ℕ) → i < N → option_map face (node_at d' i) ≡ option_map face (node_at d i)
  face-old i b = ap (λ z. option_map face (at d'.tree z)) (old i b) ∙ by (cases_eq i p)
    where
      by : (i ≡ p) ⊎ (i ≡ p → ⊥) → option_map face (at d'.tree (place_of d i)) ≡ option_map face (node_at d i)
      by (inl q) =
          ap (λ z. option_map face (at d'.tree (place_of d z))) q ∙ (ap (option_map face) (at-edit_same (add_child name []) d.tree P ∙ ap (option_map (add_child name [])) above.1) ∙ (sym (ap (option_map face) above.1) ∙ ap (λ z. option_map face (node_at d z)) (sym q)))
      by (inr ne) =
          let v = stands d i numbering b in
          mapped summary (λ z. (z.0, z.1.0)) _ _ (at-edit_other (add_child name []) (add_child-Extends _ _) d.tree P (place_of d i) v.0 (apart i b ne) v.1) ∙ sym (ap (option_map face) v.1)

  pub face-new : (i : ℕ) → i ≡ N → option_map face (node_at d' i) ≡ Some (name, [])
  face-new i e = ap (λ z. option_map face (at d'.tree z)) (new i e) ∙ ap (option_map face) new_at

  -- every node has its number
  pub IsNumbering-grown : IsNumbering d'
  IsNumbering-grown = record {
    stand = λ i b. stand_by i b (cases_eq i N);
    differ = λ i j b e same. differ_by i j b e same (cases_eq i N) (cases_eq j N);
    each = λ q some. each_by q some (at d.tree q) refl (bytes_eq q (P ++ c ∷ [])) refl;
  }
    where
      stand_by : (i : ℕ) → i < length d'.places → (i ≡ N) ⊎ (i ≡ N → ⊥) → IsSome (node_at d' i)
      stand_by i b (inl e) = some-of (node_at d' i) _ (ap (at d'.tree) (new i e) ∙ new_at)
      stand_by i b (inr ne) =
          let within : i < N = omega (arith, longer) in
          let v = stands d i numbering within in
          let w = still_there (add_child name []) (add_child-Extends _ _) d.tree P (place_of d i) v.0 v.1 in
          some-of (node_at d' i) w.0 (ap (at d'.tree) (old i within) ∙ w.1)

      fresh : (j : ℕ) → j < N → P ++ c ∷ [] ≡ place_of d j → ⊥
      fresh j b e = let v = stands d j numbering b in never-both (node_at d j) v.0 v.1 (ap (at d.tree) (sym e) ∙ nothing_there)

      differ_by : (i j : ℕ) → i < length d'.places → j < length d'.places → place_of d' i ≡ place_of d' j → (i ≡ N) ⊎ (i ≡ N → ⊥) → (j ≡ N) ⊎ (j ≡ N → ⊥) → i ≡ j
      differ_by i j b e same (inl x) (inl y) = x ∙ sym y
      differ_by i j b e same (inl x) (inr y) =
          let within : j < N = omega (arith, longer) in absurd (fresh j within (sym (new i x) ∙ (same ∙ old j within)))
      differ_by i j b e same (inr x) (inl y) =
          let within : i < N = omega (arith, longer) in absurd (fresh i within (sym (new j y) ∙ (sym same ∙ old i within)))
      differ_by i j b e same (inr x) (inr y) =
          let one : i < N = omega (arith, longer) in
          let two : j < N = omega (arith, longer) in numbering.differ i j one two (sym (old i one) ∙ (same ∙ old j two))

      each_by : (q : Place) → IsSome (at d'.tree q) → (o : Option Tree) → at d.tree q ≡ o → (b : Bool) → bytes_eq q (P ++ c ∷ []) ≡ b → (node : ℕ) × (node < length d'.places) × (place_of d' node ≡ q)
      each_by q some (Some u) is b e =
          let w = numbering.each q (some-of (at d.tree q) u is) in (w.0, omega (arith, longer, w.1), old w.0 w.1 ∙ w.2)
      each_by q some None is true e = (N, omega (arith, longer), new N refl ∙ sym ((bytes_eq-Decides q (P ++ c ∷ [])).0 e))
      each_by q some None is false e =
          absurd (missing (at d'.tree q) some (still_missing name [] d.tree P above.0 above.1 q (λ z. let yes : bytes_eq q (P ++ c ∷ []) ≡ true = (bytes_eq-Decides q (P ++ c ∷ [])).1 (z ∙ ap (λ k. P ++ k ∷ []) (sym count-above)) in let wrong : true ≡ false = sym yes ∙ e in absurd (cc)) is))
        where
          missing : (o : Option Tree) → IsSome o → o ≡ None → ⊥
          missing None some none_is = absurd (cc)
          missing (Some u) some none_is = absurd (cc)

  -- every node has a name that it may have
  pub IsNamed-grown : IsNamed d → IsTrue (is_node_name name) → depth P ≢ depth_limit → IsNamed d'
  IsNamed-grown named good room = record {
    nodes = λ i b ne. node_by i b ne (cases_eq i N);
    properties = λ i b. properties_by i b (cases_eq i N);
    shallow = λ i b. shallow_by i b (cases_eq i N);
  }
    where
      name-kept : (i : ℕ) → i < N → name_of d i ≡ name_of d' i
      name-kept i b = let v = stands d i numbering b in sym (name-face d' i (name_of d i) (properties_of d i) (face-old i b ∙ face-of d i v.0 v.1))

      properties-kept : (i : ℕ) → i < N → properties_of d i ≡ properties_of d' i
      properties-kept i b = let v = stands d i numbering b in sym (properties-face d' i (name_of d i) (properties_of d i) (face-old i b ∙ face-of d i v.0 v.1))

      node_by : (i : ℕ) → i < length d'.places → place_of d' i ≢ [] → (i ≡ N) ⊎ (i ≡ N → ⊥) → IsTrue (is_node_name (name_of d' i))
      node_by i b ne (inl e) = subst (λ (m : Bytes). IsTrue (is_node_name m)) (sym (name-face d' i name [] (face-new i e))) good
      node_by i b ne (inr x) =
          let within : i < N = omega (arith, longer) in
          subst (λ (m : Bytes). IsTrue (is_node_name m)) (name-kept i within) (named.nodes i within (λ z. ne (old i within ∙ z)))

      properties_by : (i : ℕ) → i < length d'.places → (i ≡ N) ⊎ (i ≡ N → ⊥) → IsTrue (have_names (properties_of d' i))
      properties_by i b (inl e) = subst (λ (ps : List Property). IsTrue (have_names ps)) (sym (properties-face d' i name [] (face-new i e))) refl
      properties_by i b (inr x) =
          let within : i < N = omega (arith, longer) in subst (λ (ps : List Property). IsTrue (have_names ps)) (properties-kept i within) (named.properties i within)

      shallow_by : (i : ℕ) → i < length d'.places → (i ≡ N) ⊎ (i ≡ N → ⊥) → depth (place_of d' i) ≤ depth_limit
      shallow_by i b (inl e) = omega (arith, ap (λ (z : Place). length z) (new i e), length-last P c, named.shallow p live, room)
      shallow_by i b (inr x) =
          let within : i < N = omega (arith, longer) in subst (λ (z : Place). depth z ≤ depth_limit) (sym (old i within)) (named.shallow i within)

module _ (d : Document) (p : ℕ) (g : List Property → List Property) (numbering : IsNumbering d) (live : p < length d.places) where
  abbrev Q : Place
  Q = place_of d p

  abbrev e' : Document
  e' = with_properties d Q g

  -- the names are kept, and the properties of other nodes
  pub face-other : (i : ℕ) → i < length d.places → i ≢ p → option_map face (node_at e' i) ≡ option_map face (node_at d i)
  face-other i b ne =
      let v = stands d i numbering b in
      mapped summary (λ z. (z.0, z.1.0)) _ _ (at-edit_other (change_properties g) (change_properties-Extends g) d.tree Q (place_of d i) v.0 (λ z. ne (numbering.differ i p b live (sym z))) v.1) ∙ sym (ap (option_map face) v.1)

  pub face-same : (n : Bytes) (ps : List Property) → option_map face (node_at d p) ≡ Some (n, ps) → option_map face (node_at e' p) ≡ Some (n, g ps)
  face-same n ps is = ap (option_map face) (at-edit_same (change_properties g) d.tree Q) ∙ by (at d.tree Q) is
    where
      by : (o : Option Tree) → option_map face o ≡ Some (n, ps) → option_map face (option_map (change_properties g) o) ≡ Some (n, g ps)
      by None is = absurd (cc)
      by (Some u) is = let pair : face u ≡ (n, ps) = cc in ap (λ (z : Bytes × List Property). Some (z.0, g z.1)) pair

  pub IsNumbering-changed : IsNumbering e'
  IsNumbering-changed = record {
    stand = λ i b. some-map (λ (n : Tree). count n.children) (λ (n : Tree). count n.children) (node_at d i) (node_at e' i) (sym (children_kept g d.tree Q (place_of d i))) (numbering.stand i b);
    differ = numbering.differ;
    each = λ q some. numbering.each q (some-map (λ (n : Tree). count n.children) (λ (n : Tree). count n.children) (at e'.tree q) (at d.tree q) (children_kept g d.tree Q q) some);
  }

  pub IsNamed-changed : IsNamed d → IsTrue (have_names (g (properties_of d p))) → IsNamed e'
  IsNamed-changed named good = record {
    nodes = λ i b ne. subst (λ (m : Bytes). IsTrue (is_node_name m)) (name-kept i b (cases_eq i p)) (named.nodes i b ne);
    properties = λ i b. properties_by i b (cases_eq i p);
    shallow = named.shallow;
  }
    where
      face-here : (i : ℕ) → i < length d.places → option_map face (node_at d i) ≡ Some (name_of d i, properties_of d i)
      face-here i b = let v = stands d i numbering b in face-of d i v.0 v.1

      name-kept : (i : ℕ) → i < length d.places → (i ≡ p) ⊎ (i ≡ p → ⊥) → name_of d i ≡ name_of e' i
      name-kept i b (inl q) = ap (name_of d) q ∙ (sym (name-face e' p (name_of d p) (g (properties_of d p)) (face-same (name_of d p) (properties_of d p) (face-here p live))) ∙ ap (name_of e') (sym q))
      name-kept i b (inr ne) = sym (name-face e' i (name_of d i) (properties_of d i) (face-other i b ne ∙ face-here i b))

      properties_by : (i : ℕ) → i < length d.places → (i ≡ p) ⊎ (i ≡ p → ⊥) → IsTrue (have_names (properties_of e' i))
      properties_by i b (inl q) =
          subst (λ (ps : List Property). IsTrue (have_names ps)) (sym (properties-face e' p (name_of d p) (g (properties_of d p)) (face-same (name_of d p) (properties_of d p) (face-here p live))) ∙ ap (properties_of e') (sym q)) good
      properties_by i b (inr ne) =
          subst (λ (ps : List Property). IsTrue (have_names ps)) (sym (properties-face e' i (name_of d i) (properties_of d i) (face-other i b ne ∙ face-here i b))) (named.properties i b)
