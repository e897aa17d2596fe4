-- Maps of children, as they are filled.
use Rattle.std.proofs.Common.{◌≡◌, ◌∙◌, ap, sym, subst, refl, ℕ, zero, suc, ◌<◌, ◌≤◌, ◌==◌, ◌||◌, ◌⊎◌, inl, inr, Bool, true, false, cond, List, [], ◌∷◌, ◌++◌, Some, None, length, take, append_assoc, arith}
use Rattle.std.specs.Prelude.{bytes_eq, Option, option_map, IfSome, Vec}
use Rattle.std.specs.declared.alloc.Global.{Global}
use Rattle.std.specs.List.{list_any}
use Rattle.std.specs.Ordering.{nat_cmp, is_eq}
use Rattle.std.specs.Cmp.{eq_by_cmp_equiv}
use Rattle.std.specs.Cmp.Lexicographic.{slice_cmp, bytes_decides, nat_list_cmp_total, nat_list_eq_equiv}
use Rattle.std.specs.BTreeMap.{BTreeMap, get, is_at, UpdatesBy}
use Rattle.std.specs.Map.{lookup, IsKeyTest, AreApart, KeepsOthers}
use Rattle.std.proofs.lemmas.Bool.{cases_Bool, cond-true, cond-false}
use Rattle.std.proofs.lemmas.Bool.Decides.{nat_tests}
use Rattle.std.proofs.lemmas.List.{append-nil}
use Rattle.std.proofs.lemmas.List.Folds.{list_any-append}
use Rattle.std.proofs.lemmas.Map.Text.{is_eq-slice_cmp}
use Rattle.fdt_tree.specs.Tree.{Bytes}
use Rattle.fdt_tree.specs.Document.{Document, IsNumbering, place_of, name_of}
use Rattle.fdt_nodes.specs.Nodes.{children, nodes_of}
use Rattle.fdt_nodes.specs.Held.{node_of, Are}
use Rattle.fdt_nodes.specs.ChildMaps.{Named, named, IsChildMap, HasAllChildren}
use Rattle.fdt_nodes.proofs.ChildLists.{first_of, first_child_place, first_of-live}
use Rattle.fdt_nodes.proofs.Members.{listed_live}

pub apart : (bs cs ks : List ℕ) → bytes_eq bs cs ≡ false → is_eq (slice_cmp nat_cmp bs ks) ≡ true → is_eq (slice_cmp nat_cmp cs ks) ≡ false
apart bs cs ks n y =
    is_eq-slice_cmp cs ks ∙ (nat_list_eq_equiv.symm cs ks ∙ (sym (nat_list_eq_equiv.congr bs ks cs (sym (is_eq-slice_cmp bs ks) ∙ y)) ∙ n))

pub kept : {K X : Type 0} (eq : K → K → Bool) (test : K → Bool) (old new : List (K × X)) → KeepsOthers eq test old new → (other : K → Bool) → IsKeyTest eq other → AreApart test other → lookup other new ≡ lookup other old
unfolding KeepsOthers
kept eq test old new keeps = keeps

-- an insertion changes what a map has at one name
inserted : (old new : Named) (key : Vec ℕ Global) (node : ℕ) → UpdatesBy (λ x y. slice_cmp nat_cmp x.items y.items) (λ k. slice_cmp nat_cmp key.items k.items) old new (Some node)
    → (name : Bytes) → named new name ≡ cond (bytes_eq key.items name) (Some node) (named old name)
inserted old new key node updates name = by_test (cases_Bool (bytes_eq key.items name))
  where
    by_test : (bytes_eq key.items name ≡ true) ⊎ (bytes_eq key.items name ≡ false) → named new name ≡ cond (bytes_eq key.items name) (Some node) (named old name)
    by_test (inl y) = subst (λ (n : List ℕ). named new n ≡ Some node) ((bytes_decides key.items name).0 y) updates.1 ∙ sym (cond-true (bytes_eq key.items name) (Some node) (named old name) y)
    by_test (inr n) =
        kept _ _ _ _ updates.3 _ (λ x y. (eq_by_cmp_equiv nat_list_cmp_total).congr name x.items y.items) (λ k. apart key.items name k.items n)
        ∙ sym (cond-false (bytes_eq key.items name) (Some node) (named old name) n)

-- some last children of a node were added, and the others are left
pub record Adding (document : Document) (all rest : List ℕ) (held : Named) : Type 0 where
  pub added : List ℕ
  pub whole : rest ++ added ≡ all
  pub has : (name : Bytes) → named held name ≡ first_of document added name

pub adding_none : (document : Document) (all : List ℕ) (held : Named) → ((name : Bytes) → named held name ≡ None) → Adding document all all held
adding_none document all held empty = record { added = []; whole = append-nil all; has = empty }

pub adding_more : (document : Document) (all rest less : List ℕ) (old new : Named) (child : ℕ) (key : Vec ℕ Global) → Adding document all rest old
    → rest ≡ less ++ child ∷ [] → key.items ≡ name_of document child
    → UpdatesBy (λ x y. slice_cmp nat_cmp x.items y.items) (λ k. slice_cmp nat_cmp key.items k.items) old new (Some child) → Adding document all less new
adding_more document all rest less old new child key adding is name updates = record {
  added = child ∷ adding.added;
  whole = sym (append_assoc less (child ∷ []) adding.added) ∙ (ap (λ (r : List ℕ). r ++ adding.added) (sym is) ∙ adding.whole);
  has = λ n. inserted old new key child updates n ∙ (ap (λ (k : List ℕ). cond (bytes_eq k n) (Some child) (named old n)) name ∙ ap (cond (bytes_eq (name_of document child) n) (Some child)) (adding.has n));
}

-- all children were added
pub adding_all : (document : Document) (node : ℕ) (all rest : List ℕ) (held : Named) → IsNumbering document → node < length document.places → Are document (children (node_of document node)) all
    → rest ≡ [] → Adding document all rest held → IsChildMap document node held
adding_all document node all rest held numbered live are empty adding = record {
  live = λ name. subst (λ (o : Option ℕ). IfSome o (λ child. child < length document.places)) (sym (has name)) (first_of-live document all name are.live);
  places = λ name. ap (option_map (place_of document)) (has name) ∙ first_child_place document node all name numbered live are;
}
  where
    same : adding.added ≡ all
    same = ap (λ (r : List ℕ). r ++ adding.added) (sym empty) ∙ adding.whole

    has : (name : Bytes) → named held name ≡ first_of document all name
    has name = adding.has name ∙ ap (λ (ns : List ℕ). first_of document ns name) same

-- the maps of some nodes
abbrev pub HasChildrenOf : Document → List ℕ → BTreeMap ℕ Named → Type 0
HasChildrenOf document done maps =
    (above : ℕ) → list_any (λ number. number == above) done ≡ true → (children : Named) × (get nat_cmp maps above ≡ Some children) × IsChildMap document above children

pub maps_none : (document : Document) (maps : BTreeMap ℕ Named) → HasChildrenOf document [] maps
maps_none document maps = λ above is. absurd (cc)

-- the map of one more node
pub maps_more : (document : Document) (done : List ℕ) (node : ℕ) (old new : BTreeMap ℕ Named) (children : Named) → HasChildrenOf document done old → IsChildMap document node children
    → ((key : ℕ) → get nat_cmp new key ≡ cond (is_at (nat_cmp node) key) (Some children) (get nat_cmp old key)) → HasChildrenOf document (done ++ node ∷ []) new
maps_more document done node old new children before here updates = λ above is. by_node above (cases_Bool (node == above)) is
  where
    at_node : (a b : ℕ) → is_eq (nat_cmp a b) ≡ (a == b)
    at_node a b = grind (arith, nat_tests)

    numbers : (a b : ℕ) → (a == b) ≡ true → a ≡ b
    numbers a b e = grind (arith, nat_tests)

    or_false : (b c : Bool) → (b || (c || false)) ≡ true → c ≡ false → b ≡ true
    or_false true c e f = refl
    or_false false c e f = absurd (cc)

    updated : (key : ℕ) (b : Bool) → (node == key) ≡ b → get nat_cmp new key ≡ cond b (Some children) (get nat_cmp old key)
    updated key b e = updates key ∙ ap (λ c. cond c (Some children) (get nat_cmp old key)) (at_node node key ∙ e)

    by_node : (above : ℕ) → ((node == above) ≡ true) ⊎ ((node == above) ≡ false) → list_any (λ number. number == above) (done ++ node ∷ []) ≡ true
        → (c : Named) × (get nat_cmp new above ≡ Some c) × IsChildMap document above c
    by_node above (inl y) is = (children, updated above true y, subst (λ (n : ℕ). IsChildMap document n children) (numbers node above y) here)
    by_node above (inr n) is =
        let old_one = before above (or_false (list_any (λ number. number == above) done) (node == above) (sym (list_any-append (λ number. number == above) done (node ∷ [])) ∙ is) n) in
        (old_one.0, updated above false n ∙ old_one.1, old_one.2)

pub take_all : {A : Type 0} (count : ℕ) (xs : List A) → length xs ≤ count → take count xs ≡ xs
take_all zero [] long = refl
take_all (suc count) [] long = refl
take_all zero (x ∷ xs) long = absurd (omega arith)
take_all (suc count) (x ∷ xs) long = ap (λ rest. x ∷ rest) (take_all count xs (omega arith))

-- the maps of all nodes
pub maps_all : (document : Document) (all : List ℕ) (maps : BTreeMap ℕ Named) → IsNumbering document → Are document (nodes_of document.tree) all → HasChildrenOf document all maps → HasAllChildren document maps
maps_all document all maps numbered are has = λ above live. has above (listed_live document all above numbered are live)
