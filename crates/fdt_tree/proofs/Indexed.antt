-- The tree of an arena, read along its links by recursion on the index: it is the tree that the arena holds.
use Rattle.std.proofs.Common.{◌≡◌, ℕ, zero, suc, ◌+◌, ◌-◌, ◌<◌, ◌≤◌, List, [], ◌∷◌, ◌++◌, Option, Some, None, option_map, option_and_then, length, get_or, slice_get, refl, sym, ap, ◌∙◌, arith}
use Rattle.std.specs.Prelude.{drop}
use Rattle.fdt_tree.specs.Tree.{Trees, none, tree, Tree, Place, at_in, at}
use Rattle.fdt_tree.specs.Document.{Document, place_of, node_at, if_there, next_place}
use Rattle.fdt_tree.specs.Assembled.{face, owned, LeadsOn, IsLinked}
use Rattle.fdt_tree.specs.PrivateLinks.{from}
use Rattle.fdt_tree.specs.declared.node.Node.{Node}
use Rattle.fdt_tree.specs.declared.node.Slot.{Slot}
use Rattle.fdt_tree.proofs.Edits.{at-below}
use Rattle.fdt_tree.proofs.Order.{next_place-child, skip}
use Rattle.fdt_tree.proofs.Links.{some_of}
use Rattle.fdt_tree.proofs.Lists.{there}
use Rattle.fdt_tree.proofs.Chains.{from-first}

-- The trees that a link leads to, among those from each node on after the node of this number.
abbrev pub led_to : ℕ → List Trees → Option ℕ → Trees
led_to number later None = none
led_to number later (Some other) = get_or later (other - suc number) none

-- From each node on, where the first has this number: the node with its children, and its later siblings.
abbrev pub forests : List Slot → ℕ → List Node → List Trees
forests slots number [] = []
forests slots number (node ∷ nodes) =
    let later = forests slots (suc number) nodes in tree node.name (from slots node.first_property) (led_to number later node.first_child) (led_to number later node.next_sibling) ∷ later

-- The trees from a node on, which is the first, and their siblings after it.
abbrev pub read_from : List Slot → List Node → ℕ → Trees
read_from slots nodes number = get_or (forests slots 0 nodes) number none

get-forests : (slots : List Slot) (f k : ℕ) (nodes : List Node) (n : Node) → slice_get nodes k ≡ Some n → get_or (forests slots f nodes) k none ≡ tree n.name (from slots n.first_property) (led_to (f + k) (drop (suc k) (forests slots f nodes)) n.first_child) (led_to (f + k) (drop (suc k) (forests slots f nodes)) n.next_sibling)
get-forests slots f k [] n e = absurd (cc)
get-forests slots f zero (m ∷ nodes) n e =
    let q : m ≡ n = cc in let z : f ≡ f + 0 = omega arith in ap (λ (w : Node). tree w.name (from slots w.first_property) (led_to f (forests slots (suc f) nodes) w.first_child) (led_to f (forests slots (suc f) nodes) w.next_sibling)) q ∙ ap (λ k. tree n.name (from slots n.first_property) (led_to k (forests slots (suc f) nodes) n.first_child) (led_to k (forests slots (suc f) nodes) n.next_sibling)) z
get-forests slots f (suc k) (m ∷ nodes) n e =
    let z : suc f + k ≡ f + suc k = omega arith in get-forests slots (suc f) k nodes n e ∙ ap (λ j. tree n.name (from slots n.first_property) (led_to j (drop (suc k) (forests slots (suc f) nodes)) n.first_child) (led_to j (drop (suc k) (forests slots (suc f) nodes)) n.next_sibling)) z

get-drop : (xs : List Trees) (k j : ℕ) → get_or (drop k xs) j none ≡ get_or xs (k + j) none
get-drop xs zero j = let z : j ≡ 0 + j = omega arith in ap (λ i. get_or xs i none) z
get-drop [] (suc k) j = refl
get-drop (x ∷ xs) (suc k) j = let z : suc (k + j) ≡ suc k + j = omega arith in get-drop xs k j ∙ ap (λ i. get_or (x ∷ xs) i none) z

-- Reading on along a link that goes to a higher number.
led-some : (slots : List Slot) (nodes : List Node) (number other : ℕ) → number < other → led_to (0 + number) (drop (suc number) (forests slots 0 nodes)) (Some other) ≡ read_from slots nodes other
led-some slots nodes number other h =
    let z : suc number + (other - suc (0 + number)) ≡ other = omega (arith, h) in get-drop (forests slots 0 nodes) (suc number) (other - suc (0 + number)) ∙ ap (λ i. get_or (forests slots 0 nodes) i none) z

skip-some : (ts : Trees) (k : ℕ) (u : Tree) → at_in ts k [] ≡ Some u → skip k ts ≡ tree u.name u.properties u.children (skip (suc k) ts)
skip-some none k u e = absurd (cc)
skip-some (tree n ps cs rest) zero u e = let q : record { name = n; properties = ps; children = cs } ≡ u = cc in ap (λ (v : Tree). tree v.name v.properties v.children rest) q
skip-some (tree n ps cs rest) (suc k) u e = skip-some rest k u e

skip-none : (ts : Trees) (k : ℕ) → at_in ts k [] ≡ None → skip k ts ≡ none
skip-none none zero e = refl
skip-none none (suc k) e = refl
skip-none (tree n ps cs rest) zero e = absurd (cc)
skip-none (tree n ps cs rest) (suc k) e = skip-none rest k e

nothing : (q : Place) (o : Option Tree) → None ≡ option_map (λ _. q) o → o ≡ None
nothing q None e = refl
nothing q (Some u) e = absurd (cc)

something : (d : Document) (c : ℕ) (q : Place) (o : Option Tree) → Some (place_of d c) ≡ option_map (λ _. q) o → place_of d c ≡ q
something d c q None e = absurd (cc)
something d c q (Some u) e = cc

no_link : (d : Document) (link : Option ℕ) → option_map (place_of d) link ≡ None → link ≡ None
no_link d None e = refl
no_link d (Some c) e = absurd (cc)

module _ (d : Document) (nodes : List Node) (slots : List Slot) (l : IsLinked d nodes slots) where
  -- What is read from each node after this one is its tree and those after it below the same parent.
  abbrev ReadAfter : ℕ → Type 0
  ReadAfter i = (c : ℕ) → i < c → c < length nodes → (r : Place) (k : ℕ) (v : Tree) → place_of d c ≡ r ++ k ∷ [] → at d.tree r ≡ Some v → read_from slots nodes c ≡ skip k v.children

  -- A link to the child at a number leads to the later children of its parent.
  linked_trees : (i : ℕ) → ReadAfter i → (p : Place) (k : ℕ) (u : Tree) → at d.tree p ≡ Some u → (link : Option ℕ) → LeadsOn d i link → option_map (place_of d) link ≡ if_there d (p ++ k ∷ []) → led_to (0 + i) (drop (suc i) (forests slots 0 nodes)) link ≡ skip k u.children
  linked_trees i after p k u e None on f =
      sym (skip-none u.children k (sym (at-below d.tree p (k ∷ []) u e) ∙ nothing (p ++ k ∷ []) (at d.tree (p ++ k ∷ [])) f))
  linked_trees i after p k u e (Some c) on f =
      led-some slots nodes i c on.0 ∙ after c on.0 (omega (arith, on.1, l.numbered)) p k u (something d c (p ++ k ∷ []) (at d.tree (p ++ k ∷ [])) f) e

  read : (fuel i : ℕ) → length nodes ≤ i + fuel → i < length nodes → (r : Place) (k : ℕ) (v : Tree) → place_of d i ≡ r ++ k ∷ [] → at d.tree r ≡ Some v → read_from slots nodes i ≡ skip k v.children
  read zero i b h r k v p e = absurd (omega (arith, b, h))
  read (suc fuel) i b h r k v p e =
      let t = there nodes i h in let f = l.nodes_of i t.0 t.1 in let s = some_of face (node_at d i) _ f.says in let after : ReadAfter i = λ c more w. read fuel c (omega (arith, b, more)) w in let here : at_in v.children k [] ≡ Some s.0 = sym (at-below d.tree r (k ∷ []) v e) ∙ (ap (at d.tree) (sym p) ∙ s.1) in get-forests slots 0 i nodes t.0 t.1 ∙ (ap (λ z. tree t.0.name z (led_to (0 + i) (drop (suc i) (forests slots 0 nodes)) t.0.first_child) (led_to (0 + i) (drop (suc i) (forests slots 0 nodes)) t.0.next_sibling)) (ap (from slots) f.first_slot ∙ from-first i 0 slots slots refl) ∙ (ap (λ z. tree t.0.name (owned i slots) z (led_to (0 + i) (drop (suc i) (forests slots 0 nodes)) t.0.next_sibling)) (linked_trees i after (place_of d i) 0 s.0 s.1 t.0.first_child f.first_on f.first) ∙ (ap (tree t.0.name (owned i slots) s.0.children) (linked_trees i after r (k + 1) v e t.0.next_sibling f.next_on (f.next ∙ ap (option_and_then (if_there d)) (ap next_place p ∙ next_place-child r k)) ∙ (let z : k + 1 ≡ suc k = omega arith in ap (λ j. skip j v.children) z)) ∙ (ap (λ w. tree w.0 w.1 s.0.children (skip (suc k) v.children)) (sym s.2) ∙ sym (skip-some v.children k s.0 here)))))

  -- Read along its links from the root on, an arena is the tree that it holds.
  pub read-root : read_from slots nodes 0 ≡ tree d.tree.name d.tree.properties d.tree.children none
  read-root =
      let t = there nodes 0 l.some in let f = l.nodes_of 0 t.0 t.1 in let says : Some (d.tree.name, d.tree.properties) ≡ Some (t.0.name, owned 0 slots) = ap (λ p. option_map face (at d.tree p)) (sym l.root) ∙ f.says in let after : ReadAfter 0 = λ c more w. read (length nodes) c (omega (arith, more)) w in let last : t.0.next_sibling ≡ None = no_link d t.0.next_sibling (f.next ∙ ap (λ p. option_and_then (if_there d) (next_place p)) l.root) in get-forests slots 0 0 nodes t.0 t.1 ∙ (ap (λ z. tree t.0.name z (led_to (0 + 0) (drop 1 (forests slots 0 nodes)) t.0.first_child) (led_to (0 + 0) (drop 1 (forests slots 0 nodes)) t.0.next_sibling)) (ap (from slots) f.first_slot ∙ from-first 0 0 slots slots refl) ∙ (ap (λ z. tree t.0.name (owned 0 slots) z (led_to (0 + 0) (drop 1 (forests slots 0 nodes)) t.0.next_sibling)) (linked_trees 0 after [] 0 d.tree refl t.0.first_child f.first_on (f.first ∙ ap (λ p. if_there d (p ++ 0 ∷ [])) l.root)) ∙ (ap (λ o. tree t.0.name (owned 0 slots) d.tree.children (led_to (0 + 0) (drop 1 (forests slots 0 nodes)) o)) last ∙ (let w : (d.tree.name, d.tree.properties) ≡ (t.0.name, owned 0 slots) = same says in ap (λ z. tree z.0 z.1 d.tree.children none) (sym w)))))
    where
      same : {A : Type 0} {x y : A} → Some x ≡ Some y → x ≡ y
      same e = cc
