-- The first of a node's children that has a name, searched for by their numbers.
use Rattle.std.proofs.Common.{◌≡◌, ◌∙◌, ap, refl, ℕ, suc, ◌+◌, ◌<◌, Bool, true, false, cond, List, [], ◌∷◌, ◌++◌, Some, None, length, map, All, arith}
use Rattle.std.specs.Prelude.{bytes_eq, find, Option, option_map, IsSome, IfSome}
use Rattle.std.specs.Option.{option_map_or}
use Rattle.std.proofs.lemmas.List.Elements.{All-head, All-tail}
use Rattle.fdt_tree.specs.Tree.{Bytes, Trees, none, tree, Tree, Place, at, at_in, first_named}
use Rattle.fdt_tree.specs.Document.{Document, IsNumbering, place_of, name_of, node_at, children_of}
use Rattle.fdt_tree.proofs.Edits.{at-below}
use Rattle.fdt_nodes.specs.Nodes.{Node, child, children, children_from}
use Rattle.fdt_nodes.specs.Held.{node_of, Are}
use Rattle.fdt_nodes.specs.ChildMaps.{child_place}

-- the first of some nodes that has a name
abbrev pub first_of : Document → List ℕ → Bytes → Option ℕ
first_of document numbers name = find (λ number. bytes_eq (name_of document number) name) numbers

-- trees stand below a place, from a number on
abbrev StandFrom : Tree → Place → ℕ → Trees → Type 0
StandFrom whole place number trees = (k : ℕ) → at whole (place ++ (number + k) ∷ []) ≡ at_in trees k []

same_head : {A : Type 0} (x y : A) (xs ys : List A) → x ∷ xs ≡ y ∷ ys → x ≡ y
same_head x y xs ys e = cc

same_tail : {A : Type 0} (x y : A) (xs ys : List A) → x ∷ xs ≡ y ∷ ys → xs ≡ ys
same_tail x y xs ys e = cc

module _ (document : Document) (above : Node) (name : Bytes) where
  -- the place of what `first_named` answers, where the first of the trees has a number
  abbrev place_from : ℕ → Option (ℕ × Trees) → Option Place
  place_from number found = option_map (λ (first : ℕ × Trees). above.place ++ (number + first.0) ∷ []) found

  place_from-later : (number : ℕ) (found : Option (ℕ × Trees)) → place_from (number + 1) found ≡ place_from number (option_map (λ (first : ℕ × Trees). (suc first.0, first.1)) found)
  place_from-later number None = refl
  place_from-later number (Some first) = ap (λ (m : ℕ). Some (above.place ++ m ∷ [])) (omega arith)

  by_name : (b : Bool) (number c : ℕ) (cs : Trees) (rest : Option ℕ) (found : Option (ℕ × Trees)) → place_of document c ≡ above.place ++ number ∷ []
      → option_map (place_of document) rest ≡ place_from (number + 1) found
      → option_map (place_of document) (cond b (Some c) rest) ≡ place_from number (cond b (Some (0, cs)) (option_map (λ (first : ℕ × Trees). (suc first.0, first.1)) found))
  by_name true number c cs rest found here later = ap Some (here ∙ ap (λ (m : ℕ). above.place ++ m ∷ []) (omega arith))
  by_name false number c cs rest found here later = later ∙ place_from-later number found

  searched : (number : ℕ) (trees : Trees) (numbers : List ℕ) → StandFrom document.tree above.place number trees → map (node_of document) numbers ≡ children_from above number trees
      → option_map (place_of document) (first_of document numbers name) ≡ place_from number (first_named name trees)
  searched number none [] stand are = refl
  searched number none (c ∷ numbers) stand are = absurd (cc)
  searched number (tree n ps cs rest) [] stand are = absurd (cc)
  searched number (tree n ps cs rest) (c ∷ numbers) stand are =
      let here : place_of document c ≡ above.place ++ number ∷ [] = ap (λ (node : Node). node.place) (same_head (node_of document c) (child above number n ps cs) _ _ are) in
      let first : at document.tree (above.place ++ number ∷ []) ≡ at_in (tree n ps cs rest) 0 [] = ap (λ (m : ℕ). at document.tree (above.place ++ m ∷ [])) (plus_zero number) ∙ stand 0 in
      let named : name_of document c ≡ n = ap (λ (found : Option Tree). option_map_or (λ (t : Tree). t.name) found []) (ap (at document.tree) here ∙ first) in
      let later = searched (number + 1) rest numbers (λ k. ap (λ (m : ℕ). at document.tree (above.place ++ m ∷ [])) (next number k) ∙ stand (suc k)) (same_tail (node_of document c) (child above number n ps cs) _ _ are) in
      ap (λ (m : Bytes). option_map (place_of document) (cond (bytes_eq m name) (Some c) (first_of document numbers name))) named
      ∙ by_name (bytes_eq n name) number c cs (first_of document numbers name) (first_named name rest) here later
    where
      plus_zero : (m : ℕ) → m ≡ m + 0
      plus_zero m = omega arith

      next : (m k : ℕ) → (m + 1) + k ≡ m + suc k
      next m k = omega arith

-- the first of a node's children that has a name stands where `first_named` says
pub first_child_place : (document : Document) (above : ℕ) (numbers : List ℕ) (name : Bytes) → IsNumbering document → above < length document.places
    → Are document (children (node_of document above)) numbers → option_map (place_of document) (first_of document numbers name) ≡ child_place document above name
first_child_place document above numbers name numbered live are =
    searched document (node_of document above) name 0 (children_of document above) numbers (stand (node_at document above) refl (numbered.stand above live)) are.are
    ∙ from_zero (first_named name (children_of document above))
  where
    zero_plus : (m : ℕ) → 0 + m ≡ m
    zero_plus m = omega arith

    stand : (found : Option Tree) → at document.tree (place_of document above) ≡ found → IsSome found
        → (k : ℕ) → at document.tree (place_of document above ++ (0 + k) ∷ []) ≡ at_in (option_map_or (λ (t : Tree). t.children) found none) k []
    stand None is there = absurd (cc)
    stand (Some u) is there = λ k. ap (λ (m : ℕ). at document.tree (place_of document above ++ m ∷ [])) (zero_plus k) ∙ at-below document.tree (place_of document above) (k ∷ []) u is

    from_zero : (found : Option (ℕ × Trees)) → option_map (λ (first : ℕ × Trees). place_of document above ++ (0 + first.0) ∷ []) found ≡ option_map (λ (first : ℕ × Trees). place_of document above ++ first.0 ∷ []) found
    from_zero None = refl
    from_zero (Some first) = ap (λ (m : ℕ). Some (place_of document above ++ m ∷ [])) (zero_plus first.0)

pub first_of-live : (document : Document) (numbers : List ℕ) (name : Bytes) → All (λ number. number < length document.places) numbers → IfSome (first_of document numbers name) (λ number. number < length document.places)
first_of-live document [] name live = tt
first_of-live document (c ∷ numbers) name live =
    by (bytes_eq (name_of document c) name) (All-head (λ (number : ℕ). number < length document.places) c numbers live) (first_of-live document numbers name (All-tail (λ (number : ℕ). number < length document.places) c numbers live))
  where
    by : (b : Bool) → c < length document.places → IfSome (first_of document numbers name) (λ number. number < length document.places) → IfSome (cond b (Some c) (first_of document numbers name)) (λ number. number < length document.places)
    by true here later = here
    by false here later = later
