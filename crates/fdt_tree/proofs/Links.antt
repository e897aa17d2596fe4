-- A node that is added below another, in the arena and in the document.
use Rattle.std.proofs.Common.{IsSome, IsTrue, ◌≡◌, ◌≢◌, ◌⊎◌, inl, inr, ℕ, zero, suc, ◌+◌, ◌<◌, ◌≤◌, List, [], ◌∷◌, ◌++◌, Option, Some, None, option_map, option_and_then, IfSome, Bool, true, false, length, get_or, slice_get, ne_eqb, Ok, Err, cond, refl, sym, ap, ◌∙◌, subst, arith, append_assoc, length-append, unwrap_or}
use Rattle.std.proofs.Math.ListN.{get_or-append}
use Rattle.std.proofs.Math.Seq.{get_or-append_seam}
use Rattle.std.proofs.lemmas.Bool.{cases_eq}
use Rattle.std.specs.Prelude.{◌&&◌, ◌==◌}
use Rattle.std.specs.Option.{option_map_or}
use Rattle.fdt_tree.specs.Tree.{Bytes, Property, Trees, none, tree, Tree, Place, at_in, at, count, with_last, add_child, depth, depth_limit, is_node_name, is_property_name}
use Rattle.fdt_tree.specs.Document.{IsNumbering, IsNamed, have_names, if_there, Document, place_of, node_at, name_of, parent_place, next_place, children_at, with_node, with_child, with_child_of}
use Rattle.fdt_tree.specs.Assembled.{face, added, grown, assembled, owned, rows, document, last_place, LeadsOn, IsNodeOf, IsLinked}
use Rattle.fdt_tree.specs.PrivateLinks.{fresh, summary, linked, with_first_child, with_next_sibling, with_last_child}
use Rattle.fdt_tree.specs.declared.node.Node.{Node}
use Rattle.fdt_tree.specs.declared.node.Slot.{Slot}
use Rattle.fdt_tree.specs.declared.edit_fault.EditFault.TheVariants.{Deep}
use Rattle.fdt_tree.proofs.Edits.{add_child-Extends, at-edit_same, at-edit_other, at-past, at-new, at-below, at_in-beyond, at_in-within, name-edit}
use Rattle.fdt_tree.proofs.Order.{ends_in, next_place-child, parent_place-child}
use Rattle.fdt_tree.proofs.Standing.{still_there, still_missing, same_end}
pub use Rattle.fdt_tree.proofs.Lists.{length-last}
use Rattle.fdt_tree.proofs.Lists.{get-modified_same, get-modified_other, length-linked, get-append_old, get-append_new, get-within, there, read-there, rows-linked, length-rows, assembled-last, owned-none, first_owned-none, last_owned-none}

pub document-linked : (nodes : List Node) (p : ℕ) (last : Option ℕ) (node : Node) (slots : List Slot) → 0 < length nodes → document (linked nodes p last node) slots ≡ grown (document nodes slots) (added (length nodes) node slots)
document-linked nodes p last node slots h =
    ap assembled (rows-linked nodes p last node slots) ∙ assembled-last (rows 0 nodes slots) (added (length nodes) node slots) (omega (arith, h, length-rows nodes 0 slots))

pub some_of : {A B : Type 0} (f : A → B) (o : Option A) (v : B) → option_map f o ≡ Some v → (u : A) × (o ≡ Some u) × (f u ≡ v)
some_of f None v e = absurd (cc)
some_of f (Some u) v e = (u, refl, cc)

none_of : {A B : Type 0} (f : A → B) (o : Option A) → option_map f o ≡ None → o ≡ None
none_of f None e = refl
none_of f (Some u) e = absurd (cc)

pub mapped : {A B C : Type 0} (f : A → B) (g : B → C) (o : Option A) (v : B) → option_map f o ≡ Some v → option_map (λ t. g (f t)) o ≡ Some (g v)
mapped f g None v e = absurd (cc)
mapped f g (Some u) v e = let h : f u ≡ v = cc in ap (λ z. Some (g z)) h

pub or_of : {A B C : Type 0} (f : A → B) (g : B → C) (o : Option A) (d : C) (v : B) → option_map f o ≡ Some v → option_map_or (λ t. g (f t)) o d ≡ g v
or_of f g None d v e = absurd (cc)
or_of f g (Some u) d v e = let h : f u ≡ v = cc in ap g h

pub children_at-there : (t u : Tree) (p : Place) → at t p ≡ Some u → children_at t p ≡ count u.children
children_at-there t u p e = ap (λ o. unwrap_or (option_map (λ n. count n.children) o) 0) e

pub place-old : (d : Document) (q : Place) (name : Bytes) (ps : List Property) (i : ℕ) → i < length d.places → place_of (with_node d q name ps) i ≡ place_of d i
place-old d q name ps i h = get_or-append d.places _ [] i h

pub place-new : (d : Document) (q : Place) (name : Bytes) (ps : List Property) (i : ℕ) → i ≡ length d.places → place_of (with_node d q name ps) i ≡ q ++ children_at d.tree q ∷ []
place-new d q name ps i e = ap (place_of (with_node d q name ps)) e ∙ get_or-append_seam d.places _ [] []

pub count-with_last : (ts : Trees) (m : Bytes) (qs : List Property) (ds : Trees) → count (with_last ts m qs ds) ≡ suc (count ts)
count-with_last none m qs ds = refl
count-with_last (tree n ps cs rest) m qs ds = ap suc (count-with_last rest m qs ds)

-- What stands where a node of the arena stands.
pub stands : (d : Document) (nodes : List Node) (slots : List Slot) → IsLinked d nodes slots → (i : ℕ) → i < length nodes → (u : Tree) × (node_at d i ≡ Some u)
stands d nodes slots l i h =
    let n = there nodes i h in let s = some_of face (node_at d i) _ (l.nodes_of i n.0 n.1).says in (s.0, s.1)

not_both : {A : Type 0} (o : Option A) (x : A) → o ≡ Some x → o ≡ None → ⊥
not_both o x e f = cc

pub leads_on : {A : Type 0} {P Q : A → Type 0} (o : Option A) → IfSome o P → ((x : A) → P x → Q x) → IfSome o Q
leads_on None a f = tt
leads_on (Some x) a f = f x a

pub map-same : {A B : Type 0} {P : A → Type 0} (f g : A → B) (o : Option A) → IfSome o P → ((x : A) → P x → f x ≡ g x) → option_map f o ≡ option_map g o
map-same f g None a h = refl
map-same f g (Some x) a h = ap Some (h x a)

if_there-same : (t s : Tree) (q : Place) (o : Option Tree) → at t q ≡ o → ((w : Tree) → o ≡ Some w → (v : Tree) × (at s q ≡ Some v)) → (o ≡ None → at s q ≡ None) → option_map (λ _. q) (at s q) ≡ option_map (λ _. q) (at t q)
if_there-same t s q None e f g = ap (option_map (λ _. q)) (g refl) ∙ sym (ap (option_map (λ _. q)) e)
if_there-same t s q (Some w) e f g = let v = f w refl in ap (option_map (λ _. q)) v.1 ∙ sym (ap (option_map (λ _. q)) e)

pub parent_place-last : (p : Place) (k : ℕ) → parent_place (p ++ k ∷ []) ≡ Some p
parent_place-last p k = parent_place-child p k

-- The last child's place, and how many children there are.
last_some : (P q : Place) (c : ℕ) → Some q ≡ last_place P c → (b : ℕ) × (c ≡ suc b) × (q ≡ P ++ b ∷ [])
last_some P q zero e = absurd (cc)
last_some P q (suc b) e = (b, refl, cc)

last_none : (P : Place) (c : ℕ) → None ≡ last_place P c → c ≡ 0
last_none P zero e = refl
last_none P (suc b) e = absurd (cc)

module _ (d : Document) (nodes : List Node) (slots : List Slot) (p : ℕ) (name : Bytes) (m : Node) (l : IsLinked d nodes slots) (e : slice_get nodes p ≡ Some m) (sh : depth (place_of d p) ≢ depth_limit) (nm : IsTrue (is_node_name name)) where
  abbrev P : Place
  P = place_of d p

  abbrev N : ℕ
  N = length nodes

  abbrev c : ℕ
  c = children_at d.tree P

  abbrev d' : Document
  d' = with_node d P name []

  h : p < N
  h = get-within nodes p m e

  within : {i : ℕ} → i < N → i < length d.places
  within q = omega (arith, l.numbered)

  grown_places : length d'.places ≡ suc (length d.places)
  grown_places = length-append d.places _ ∙ omega arith

  old : (i : ℕ) → i < length d.places → place_of d' i ≡ place_of d i
  old i b = place-old d P name [] i b

  new : place_of d' N ≡ P ++ c ∷ []
  new = place-new d P name [] N (sym l.numbered)

  u : (u : Tree) × (at d.tree P ≡ Some u)
  u = stands d nodes slots l p h

  c_is : c ≡ count u.0.children
  c_is = children_at-there d.tree u.0 P u.1

  -- What is there now, and what was there.
  same_there : (q : Place) → q ≢ P ++ c ∷ [] → if_there d' q ≡ if_there d q
  same_there q ne =
      if_there-same d.tree d'.tree q (at d.tree q) refl (λ w f. still_there (add_child name []) (add_child-Extends _ _) d.tree P q w f) (λ f. still_missing name [] d.tree P u.0 u.1 q (λ z. ne (z ∙ ap (λ k. P ++ k ∷ []) (sym c_is))) f)

  new_at : at d'.tree (P ++ c ∷ []) ≡ Some (record { name = name; properties = []; children = none })
  new_at = ap (λ k. at d'.tree (P ++ k ∷ [])) c_is ∙ at-new name [] d.tree P u.0 u.1

  new_there : if_there d' (P ++ c ∷ []) ≡ Some (P ++ c ∷ [])
  new_there = ap (option_map (λ _. P ++ c ∷ [])) new_at

  on : (i : ℕ) (o : Option ℕ) → LeadsOn d i o → LeadsOn d' i o
  on i o a = leads_on o a (λ x f. (f.0, omega (arith, f.1, grown_places)))

  on_new : (i : ℕ) → i < N → LeadsOn d' i (Some N)
  on_new i b = (b, omega (arith, grown_places, l.numbered))

  kept_link : (i : ℕ) (o : Option ℕ) → LeadsOn d i o → option_map (place_of d') o ≡ option_map (place_of d) o
  kept_link i o a = map-same (place_of d') (place_of d) o a (λ x f. old x f.1)

  -- The name and the properties of every node are kept.
  kept_face : (i : ℕ) (n : Node) → slice_get nodes i ≡ Some n → (i ≡ p) ⊎ (i ≡ p → ⊥) → option_map face (node_at d' i) ≡ option_map face (node_at d i)
  kept_face i n f (inl q) =
      ap (λ z. option_map face (at d'.tree z)) (old i (within (get-within nodes i n f))) ∙ (ap (λ z. option_map face (at d'.tree (place_of d z))) q ∙ (ap (option_map face) (at-edit_same (add_child name []) d.tree P ∙ ap (option_map (add_child name [])) u.1) ∙ (sym (ap (option_map face) u.1) ∙ ap (λ z. option_map face (at d.tree (place_of d z))) (sym q))))
  kept_face i n f (inr ne) =
      let b = get-within nodes i n f in let v = stands d nodes slots l i b in ap (λ z. option_map face (at d'.tree z)) (old i (within b)) ∙ (mapped summary (λ z. (z.0, z.1.0)) _ _ (at-edit_other (add_child name []) (add_child-Extends _ _) d.tree P (place_of d i) v.0 (λ z. ne (l.distinct i p b h (sym z))) v.1) ∙ sym (ap (option_map face) v.1))

  -- A node's links are the only things that the new node changes.
  relinked : (i : ℕ) (n : Node) → slice_get nodes i ≡ Some n → (first next last : Option ℕ) → LeadsOn d' i first → LeadsOn d' i next → LeadsOn d' i last → option_map (place_of d') first ≡ if_there d' (place_of d i ++ 0 ∷ []) → option_map (place_of d') next ≡ option_and_then (if_there d') (next_place (place_of d i)) → option_map (place_of d') last ≡ last_place (place_of d i) (children_at d'.tree (place_of d i)) → IsNodeOf d' i (record n { first_child = first; next_sibling = next; last_child = last }) slots
  relinked i n f first next last a1 a2 a3 b1 b2 b3 =
      let g = l.nodes_of i n f in let b = within (get-within nodes i n f) in let o = old i b in record {
        says = kept_face i n f (cases_eq i p) ∙ g.says;
        named = g.named;
        shallow = subst (λ (z : Place). depth z ≤ depth_limit) (sym o) g.shallow;
        earlier = g.earlier;
        above = λ z. ap parent_place o ∙ (g.above z ∙ ap Some (sym (old n.parent (omega (arith, g.earlier z, b)))));
        first_on = a1;
        next_on = a2;
        last_on = a3;
        first = b1 ∙ ap (λ z. if_there d' (z ++ 0 ∷ [])) (sym o);
        next = b2 ∙ ap (λ z. option_and_then (if_there d') (next_place z)) (sym o);
        last = b3 ∙ ap (λ z. last_place z (children_at d'.tree z)) (sym o);
        counted = g.counted;
        beside = g.beside;
        first_slot = g.first_slot;
        last_slot = g.last_slot;
      }

  kept_first : (i : ℕ) (n : Node) → slice_get nodes i ≡ Some n → (i ≡ p → c ≢ 0) → option_map (place_of d') n.first_child ≡ if_there d' (place_of d i ++ 0 ∷ [])
  kept_first i n f ne =
      let g = l.nodes_of i n f in kept_link i n.first_child g.first_on ∙ (g.first ∙ sym (same_there (place_of d i ++ 0 ∷ []) (λ z. let s = same_end (place_of d i) P 0 c z in ne (l.distinct i p (get-within nodes i n f) h s.0) (sym s.1))))

  after_end : (i : ℕ) (r : (place_of d i ≡ []) ⊎ ((r : Place) × (k : ℕ) × (place_of d i ≡ r ++ k ∷ []))) → ((b : ℕ) → c ≡ suc b → place_of d i ≡ P ++ b ∷ [] → ⊥) → option_and_then (if_there d) (next_place (place_of d i)) ≡ option_and_then (if_there d') (next_place (place_of d i))
  after_end i (inl r) ne = ap (λ z. option_and_then (if_there d) (next_place z)) r ∙ sym (ap (λ z. option_and_then (if_there d') (next_place z)) r)
  after_end i (inr r) ne =
      let q = ap next_place r.2 ∙ next_place-child r.0 r.1 in ap (option_and_then (if_there d)) q ∙ (sym (same_there (r.0 ++ (r.1 + 1) ∷ []) (λ z. let s = same_end r.0 P (r.1 + 1) c z in ne r.1 (omega (arith, s.1)) (r.2 ∙ ap (λ w. w ++ r.1 ∷ []) s.0))) ∙ sym (ap (option_and_then (if_there d')) q))

  kept_next : (i : ℕ) (n : Node) → slice_get nodes i ≡ Some n → ((b : ℕ) → c ≡ suc b → place_of d i ≡ P ++ b ∷ [] → ⊥) → option_map (place_of d') n.next_sibling ≡ option_and_then (if_there d') (next_place (place_of d i))
  kept_next i n f ne = let g = l.nodes_of i n f in kept_link i n.next_sibling g.next_on ∙ (g.next ∙ after_end i (ends_in (place_of d i)) ne)

  kept_last : (i : ℕ) (n : Node) → slice_get nodes i ≡ Some n → i ≢ p → option_map (place_of d') n.last_child ≡ last_place (place_of d i) (children_at d'.tree (place_of d i))
  kept_last i n f ne =
      let g = l.nodes_of i n f in let b = get-within nodes i n f in let v = stands d nodes slots l i b in kept_link i n.last_child g.last_on ∙ (g.last ∙ ap (last_place (place_of d i)) (children_at-there d.tree v.0 (place_of d i) v.1 ∙ sym (ap (λ o. unwrap_or o 0) (mapped summary (λ z. z.1.1) _ _ (at-edit_other (add_child name []) (add_child-Extends _ _) d.tree P (place_of d i) v.0 (λ z. ne (l.distinct i p b h (sym z))) v.1)))))

  new_last : Some (place_of d' N) ≡ last_place P (children_at d'.tree P)
  new_last =
      ap Some new ∙ ap (last_place P) (ap suc c_is ∙ sym (ap (λ o. unwrap_or (option_map (λ (n : Tree). count n.children) o) 0) (at-edit_same (add_child name []) d.tree P ∙ ap (option_map (add_child name [])) u.1) ∙ count-with_last u.0.children name [] none))

  new_first : c ≡ 0 → Some (place_of d' N) ≡ if_there d' (P ++ 0 ∷ [])
  new_first z = ap Some new ∙ (sym new_there ∙ ap (λ k. if_there d' (P ++ k ∷ [])) z)

  new_next : (i b : ℕ) → c ≡ suc b → place_of d i ≡ P ++ b ∷ [] → Some (place_of d' N) ≡ option_and_then (if_there d') (next_place (place_of d i))
  new_next i b z r =
      let k : c ≡ b + 1 = omega (arith, z) in ap Some new ∙ (sym new_there ∙ (ap (λ k. if_there d' (P ++ k ∷ [])) k ∙ sym (ap (option_and_then (if_there d')) (ap next_place r ∙ next_place-child P b))))

  -- The nodes that are not next to the new one.
  far : (i : ℕ) (n : Node) → slice_get nodes i ≡ Some n → i ≢ p → ((b : ℕ) → c ≡ suc b → place_of d i ≡ P ++ b ∷ [] → ⊥) → IsNodeOf d' i n slots
  far i n f ne nl =
      let g = l.nodes_of i n f in relinked i n f n.first_child n.next_sibling n.last_child (on i _ g.first_on) (on i _ g.next_on) (on i _ g.last_on) (kept_first i n f (λ z. absurd (ne z))) (kept_next i n f nl) (kept_last i n f ne)

  -- A child's place is not its parent's.
  not_below : (b : ℕ) → c ≡ suc b → P ≡ P ++ b ∷ [] → ⊥
  not_below b z r = omega (arith, ap length r, length-last P b)

  -- The parent, where the new node is its first child, and where it is a later one.
  parent_first : c ≡ 0 → IsNodeOf d' p (record m { first_child = Some N; last_child = Some N }) slots
  parent_first z =
      let g = l.nodes_of p m e in relinked p m e (Some N) m.next_sibling (Some N) (on_new p h) (on p _ g.next_on) (on_new p h) (new_first z) (kept_next p m e (λ b q r. not_below b q r)) new_last

  parent_later : c ≢ 0 → IsNodeOf d' p (record m { last_child = Some N }) slots
  parent_later ne =
      let g = l.nodes_of p m e in relinked p m e m.first_child m.next_sibling (Some N) (on p _ g.first_on) (on p _ g.next_on) (on_new p h) (kept_first p m e (λ _. ne)) (kept_next p m e (λ b q r. not_below b q r)) new_last

  -- The child that was the last.
  before : (i b : ℕ) (n : Node) → slice_get nodes i ≡ Some n → i ≢ p → c ≡ suc b → place_of d i ≡ P ++ b ∷ [] → IsNodeOf d' i (record n { next_sibling = Some N }) slots
  before i b n f ne z r =
      let g = l.nodes_of i n f in relinked i n f n.first_child (Some N) n.last_child (on i _ g.first_on) (on_new i (get-within nodes i n f)) (on i _ g.last_on) (kept_first i n f (λ q. absurd (ne q))) (new_next i b z r) (kept_last i n f ne)

  -- The new node.
  fresh_node : IsNodeOf d' N (fresh p name) slots
  fresh_node =
      let g = l.nodes_of p m e in let place : place_of d' N ≡ P ++ c ∷ [] = new in let beyond : at d.tree (P ++ (c + 1) ∷ []) ≡ None = at-below d.tree P ((c + 1) ∷ []) u.0 u.1 ∙ at_in-beyond u.0.children (c + 1) [] (omega (arith, c_is)) in let apart : P ++ (c + 1) ∷ [] ≢ P ++ c ∷ [] = λ z. let s = same_end P P (c + 1) c z in omega (arith, s.1) in record {
        says = ap (λ z. option_map face (at d'.tree z)) place ∙ (ap (option_map face) new_at ∙ ap (λ z. Some (name, z)) (sym (owned-none N slots l.owners)));
        named = λ z. nm;
        shallow = omega (arith, ap length place, length-last P c, g.shallow, sh);
        earlier = λ z. h;
        above = λ z. ap parent_place place ∙ (parent_place-child P c ∙ ap Some (sym (old p (within h))));
        first_on = tt;
        next_on = tt;
        last_on = tt;
        first = sym (ap (λ z. if_there d' (z ++ 0 ∷ [])) place ∙ ap (option_map (λ _. (P ++ c ∷ []) ++ 0 ∷ [])) (at-below d'.tree (P ++ c ∷ []) (0 ∷ []) _ new_at));
        next = sym (ap (λ z. option_and_then (if_there d') (next_place z)) place ∙ (ap (option_and_then (if_there d')) (next_place-child P c) ∙ (same_there (P ++ (c + 1) ∷ []) apart ∙ ap (option_map (λ _. P ++ (c + 1) ∷ [])) beyond)));
        last = sym (ap (λ z. last_place z (children_at d'.tree z)) place ∙ ap (last_place (P ++ c ∷ [])) (children_at-there d'.tree _ (P ++ c ∷ []) new_at));
        counted = sym (ap length (owned-none N slots l.owners));
        beside = λ start index z b. absurd (cc);
        first_slot = sym (first_owned-none N 0 slots l.owners);
        last_slot = sym (last_owned-none None N 0 slots l.owners);
      }

  -- What the linked nodes are.
  base : List Node
  base = nodes ++ fresh p name ∷ []

  told : (i : ℕ) (n x : Node) (o : Option Node) → o ≡ Some n → o ≡ Some x → IsNodeOf d' i x slots → IsNodeOf d' i n slots
  told i n x o a b f = let q : x ≡ n = cc in subst (λ (z : Node). IsNodeOf d' i z slots) q f

  other : (i : ℕ) (n : Node) → i ≢ p → ((b : ℕ) → c ≡ suc b → place_of d i ≡ P ++ b ∷ [] → ⊥) → slice_get (nodes ++ fresh p name ∷ []) i ≡ Some n → (i ≡ N) ⊎ (i ≡ N → ⊥) → IsNodeOf d' i n slots
  other i n ne nl f (inl q) =
      subst (λ z. IsNodeOf d' z n slots) (sym q) (told N n (fresh p name) _ (ap (slice_get (nodes ++ fresh p name ∷ [])) (sym q) ∙ f) (get-append_new nodes (fresh p name)) fresh_node)
  other i n ne nl f (inr q) =
      let b : i < N = omega (arith, get-within _ i n f, length-last nodes (fresh p name), q) in far i n (sym (get-append_old nodes (fresh p name) i b) ∙ f) ne nl

  base_parent : slice_get (nodes ++ fresh p name ∷ []) p ≡ Some m
  base_parent = get-append_old nodes (fresh p name) p h ∙ e

  node_none : m.last_child ≡ None → (i : ℕ) (n : Node) → slice_get (linked nodes p None (fresh p name)) i ≡ Some n → (i ≡ p) ⊎ (i ≡ p → ⊥) → IsNodeOf d' i n slots
  node_none z i n f (inl q) =
      let none_there : c ≡ 0 = last_none P c (sym (ap (option_map (place_of d)) z) ∙ (l.nodes_of p m e).last) in subst (λ k. IsNodeOf d' k n slots) (sym q) (told p n (record m { first_child = Some N; last_child = Some N }) (slice_get (linked nodes p None (fresh p name)) p) (ap (slice_get (linked nodes p None (fresh p name))) (sym q) ∙ f) (get-modified_same (with_last_child N) _ p ∙ ap (option_map (with_last_child N)) (get-modified_same (with_first_child N) _ p ∙ ap (option_map (with_first_child N)) base_parent)) (parent_first none_there))
  node_none z i n f (inr q) =
      let none_there : c ≡ 0 = last_none P c (sym (ap (option_map (place_of d)) z) ∙ (l.nodes_of p m e).last) in other i n q (λ b r _. omega (arith, r, none_there)) (sym (get-modified_other (with_last_child N) _ p i q ∙ get-modified_other (with_first_child N) _ p i q) ∙ f) (cases_eq i N)

  node_some : (k : ℕ) → m.last_child ≡ Some k → (i : ℕ) (n : Node) → slice_get (linked nodes p (Some k) (fresh p name)) i ≡ Some n → (i ≡ p) ⊎ (i ≡ p → ⊥) → (i ≡ k) ⊎ (i ≡ k → ⊥) → IsNodeOf d' i n slots
  node_some k z i n f at_p at_k =
      let r = last_some P (place_of d k) c (sym (ap (option_map (place_of d)) z) ∙ (l.nodes_of p m e).last) in
      let on_k = subst (λ (o : Option ℕ). LeadsOn d p o) z (l.nodes_of p m e).last_on in
      let k_in : k < N = omega (arith, on_k.1, l.numbered) in
      let kp : k ≢ p = λ q. omega (arith, on_k.0, q) in
      cases k_in kp r.0 r.1 r.2 at_p at_k
    where
      cases : k < N → k ≢ p → (b : ℕ) → c ≡ suc b → place_of d k ≡ P ++ b ∷ [] → (i ≡ p) ⊎ (i ≡ p → ⊥) → (i ≡ k) ⊎ (i ≡ k → ⊥) → IsNodeOf d' i n slots
      cases k_in kp b cb pk (inl q) _ =
          subst (λ j. IsNodeOf d' j n slots) (sym q) (told p n (record m { last_child = Some N }) (slice_get (linked nodes p (Some k) (fresh p name)) p) (ap (slice_get (linked nodes p (Some k) (fresh p name))) (sym q) ∙ f) (get-modified_same (with_last_child N) _ p ∙ ap (option_map (with_last_child N)) (get-modified_other (with_next_sibling N) _ k p (λ y. kp (sym y)) ∙ base_parent)) (parent_later (λ y. omega (arith, y, cb))))
      cases k_in kp b cb pk (inr ne) (inl q) =
          let t = there nodes k k_in in subst (λ j. IsNodeOf d' j n slots) (sym q) (told k n (record t.0 { next_sibling = Some N }) (slice_get (linked nodes p (Some k) (fresh p name)) k) (ap (slice_get (linked nodes p (Some k) (fresh p name))) (sym q) ∙ f) (get-modified_other (with_last_child N) _ p k kp ∙ (get-modified_same (with_next_sibling N) _ k ∙ ap (option_map (with_next_sibling N)) (get-append_old nodes (fresh p name) k k_in ∙ t.1))) (before k b t.0 t.1 kp cb pk))
      cases k_in kp b cb pk (inr ne) (inr nk) =
          other i n ne (λ b2 cb2 pi. nk (same_place b2 cb2 pi (cases_eq i N))) (sym (get-modified_other (with_last_child N) _ p i ne ∙ get-modified_other (with_next_sibling N) _ k i nk) ∙ f) (cases_eq i N)
        where
          same_place : (b2 : ℕ) → c ≡ suc b2 → place_of d i ≡ P ++ b2 ∷ [] → (i ≡ N) ⊎ (i ≡ N → ⊥) → i ≡ k
          same_place b2 cb2 pi (inl q) = absurd (omega (arith, ap length pi, length-last P b2, ap length (past_all i (omega (arith, q, l.numbered)))))
            where
              past_all : (j : ℕ) → length d.places ≤ j → place_of d j ≡ []
              past_all j y = past d.places j y
                where
                  past : (xs : List Place) (j : ℕ) → length xs ≤ j → get_or xs j [] ≡ []
                  past [] j y = refl
                  past (x ∷ xs) zero y = absurd (omega arith)
                  past (x ∷ xs) (suc j) y = past xs j (omega arith)
          same_place b2 cb2 pi (inr q) =
              let same : b2 ≡ b = omega (arith, cb, cb2) in l.distinct i k (omega (arith, get-within _ i n f, length-linked nodes p (Some k) (fresh p name), q)) k_in (pi ∙ (ap (λ w. P ++ w ∷ []) same ∙ sym pk))

  node_of : (last : Option ℕ) → m.last_child ≡ last → (i : ℕ) (n : Node) → slice_get (linked nodes p last (fresh p name)) i ≡ Some n → IsNodeOf d' i n slots
  node_of None z i n f = node_none z i n f (cases_eq i p)
  node_of (Some k) z i n f = node_some k z i n f (cases_eq i p) (cases_eq i k)

  old_new : (j : ℕ) → j < N → place_of d' j ≡ place_of d' N → ⊥
  old_new j b f =
      let v = stands d nodes slots l j b in let q : at d.tree (place_of d j) ≡ None = ap (at d.tree) (sym (old j (within b)) ∙ (f ∙ (new ∙ ap (λ z. P ++ z ∷ []) c_is))) ∙ at-past d.tree P u.0 u.1 in not_both _ _ v.1 q

  apart : (i j : ℕ) → i < suc N → j < suc N → place_of d' i ≡ place_of d' j → (i ≡ N) ⊎ (i ≡ N → ⊥) → (j ≡ N) ⊎ (j ≡ N → ⊥) → i ≡ j
  apart i j a b f (inl x) (inl y) = x ∙ sym y
  apart i j a b f (inl x) (inr y) = absurd (old_new j (omega arith) (sym f ∙ ap (place_of d') x))
  apart i j a b f (inr x) (inl y) = absurd (old_new i (omega arith) (f ∙ ap (place_of d') y))
  apart i j a b f (inr x) (inr y) =
      let i_in : i < N = omega arith in let j_in : j < N = omega arith in l.distinct i j i_in j_in (sym (old i (within i_in)) ∙ (f ∙ old j (within j_in)))

  -- With the new node linked in, the arena is that of the tree with a new last child.
  pub IsLinked-linked : (last : Option ℕ) → m.last_child ≡ last → IsLinked (with_node d (place_of d p) name []) (linked nodes p last (fresh p name)) slots
  IsLinked-linked last z = let longer = length-linked nodes p last (fresh p name) in record {
    some = omega (arith, longer);
    root = old 0 (omega (arith, l.numbered, l.some)) ∙ l.root;
    unnamed = name-edit (add_child name []) (λ t. refl) d.tree P ∙ l.unnamed;
    numbered = grown_places ∙ (ap suc l.numbered ∙ sym longer);
    nodes_of = node_of last z;
    distinct = λ i j a b f. apart i j (omega (arith, longer)) (omega (arith, longer)) f (cases_eq i N) (cases_eq j N);
    chained = l.chained;
    owners = λ i s f. omega (arith, l.owners i s f, longer);
    slots_named = l.slots_named;
  }

-- What the arena holds after a node was linked in.
pub after_link : (v : Document) (nodes items : List Node) (slots : List Slot) (p j : ℕ) (n : Node) (last : Option ℕ) (name : Bytes) → IsLinked (document nodes slots) nodes slots → document nodes slots ≡ v → p ≡ j → j < length v.places → n ≡ get_or nodes p n → last ≡ n.last_child → depth (place_of v j) ≢ depth_limit → IsTrue (is_node_name name) → items ≡ linked nodes p last (fresh p name) → IsLinked (document items slots) items slots × (document items slots ≡ with_node v (place_of v j) name [])
after_link v nodes items slots p j n last name l e q h g lc sh nm a =
    let w : p < length nodes = omega (arith, l.numbered, q, h, ap (λ (z : Document). length z.places) e) in let o = read-there nodes p n w g in let d : document (linked nodes p last (fresh p name)) slots ≡ with_node (document nodes slots) (place_of (document nodes slots) p) name [] = document-linked nodes p last (fresh p name) slots l.some ∙ ap (with_node (document nodes slots) (place_of (document nodes slots) p) name) (owned-none (length nodes) slots l.owners) in let same : place_of (document nodes slots) p ≡ place_of v j = ap (λ (z : Document). place_of z p) e ∙ ap (place_of v) q in let k = IsLinked-linked (document nodes slots) nodes slots p name n l o (λ z. sh (sym (ap depth same) ∙ z)) nm last (sym lc) in (subst (λ (z : List Node). IsLinked (document z slots) z slots) (sym a) (subst (λ (z : Document). IsLinked z (linked nodes p last (fresh p name)) slots) (sym d) k), ap (λ z. document z slots) a ∙ (d ∙ (ap (λ (z : Document). with_node z (place_of z p) name []) e ∙ ap (λ z. with_node v (place_of v z) name []) q)))

pub child_of : (v doc : Document) (j : ℕ) (name held : Bytes) → depth (place_of v j) ≢ 32 → doc ≡ with_node v (place_of v j) held [] → held ≡ name → with_child_of v j name ≡ Ok doc
child_of v doc j name held ne e q =
    ap (λ b. cond b (Err Deep) (Ok (with_child v (place_of v j) name))) (ne_eqb _ _ ne) ∙ ap Ok (ap (λ z. with_node v (place_of v j) z []) (sym q) ∙ sym e)

-- What the arena reads at a number that is live is the node of the document there.
pub reads : (d v : Document) (nodes : List Node) (slots : List Slot) (i j : ℕ) (n : Node) → IsLinked d nodes slots → d ≡ v → i ≡ j → j < length v.places → n ≡ get_or nodes i n → IsNodeOf v j n slots
reads d v nodes slots i j n l e q h g =
    let w : i < length nodes = omega (arith, l.numbered, q, h, ap (λ (z : Document). length z.places) e) in subst (λ (z : Document). IsNodeOf z j n slots) e (subst (λ (z : ℕ). IsNodeOf d z n slots) q (l.nodes_of i n (read-there nodes i n w g)))

-- The root has no name.
pub root_name : (d v : Document) (nodes : List Node) (slots : List Slot) → IsLinked d nodes slots → d ≡ v → name_of v 0 ≡ []
root_name d v nodes slots l e =
    subst (λ (z : Document). name_of z 0 ≡ []) e (ap (λ p. option_map_or (λ n. n.name) (at d.tree p) []) l.root ∙ l.unnamed)

-- What is counted is there.
counted_there : (ts : Trees) (k : ℕ) → k < count ts → (u : Tree) × (at_in ts k [] ≡ Some u)
counted_there none k h = absurd (omega arith)
counted_there (tree n ps cs rest) zero h = (record { name = n; properties = ps; children = cs }, refl)
counted_there (tree n ps cs rest) (suc k) h = counted_there rest k (omega arith)

-- A link to a place where a node stands leads to that node.
led : (d : Document) (i : ℕ) (o : Option ℕ) (q : Place) (u : Tree) → LeadsOn d i o → option_map (place_of d) o ≡ if_there d q → at d.tree q ≡ Some u → (c : ℕ) × (c < length d.places) × (place_of d c ≡ q)
led d i None q u a e f = absurd (let g : None ≡ Some q = e ∙ ap (option_map (λ _. q)) f in cc)
led d i (Some c) q u a e f = let g : Some (place_of d c) ≡ Some q = e ∙ ap (option_map (λ _. q)) f in (c, a.1, cc)

-- Each child of a node of the arena is a node of the arena: the first by the node's link, and each other by its elder sibling's.
pub child_at : (d : Document) (nodes : List Node) (slots : List Slot) → IsLinked d nodes slots → (n : ℕ) (u : Tree) → n < length nodes → at d.tree (place_of d n) ≡ Some u → (k : ℕ) → k < count u.children → (c : ℕ) × (c < length nodes) × (place_of d c ≡ place_of d n ++ k ∷ [])
child_at d nodes slots l n u h e zero b =
    let i = there nodes n h in
    let f = l.nodes_of n i.0 i.1 in
    let v = counted_there u.children 0 b in
    let c = led d n i.0.first_child (place_of d n ++ 0 ∷ []) v.0 f.first_on f.first (at-below d.tree (place_of d n) (0 ∷ []) u e ∙ v.1) in
    (c.0, omega (arith, l.numbered, c.1), c.2)
child_at d nodes slots l n u h e (suc k) b =
    let elder = child_at d nodes slots l n u h e k (omega arith) in
    let i = there nodes elder.0 elder.1 in
    let f = l.nodes_of elder.0 i.0 i.1 in
    let v = counted_there u.children (suc k) b in
    let number : k + 1 ≡ suc k = omega arith in
    let next : option_and_then (if_there d) (next_place (place_of d elder.0)) ≡ if_there d (place_of d n ++ suc k ∷ []) = ap (option_and_then (if_there d)) (ap next_place elder.2 ∙ next_place-child (place_of d n) k) ∙ ap (λ z. if_there d (place_of d n ++ z ∷ [])) number in
    let c = led d elder.0 i.0.next_sibling (place_of d n ++ suc k ∷ []) v.0 f.next_on (f.next ∙ next) (at-below d.tree (place_of d n) (suc k ∷ []) u e ∙ v.1) in
    (c.0, omega (arith, l.numbered, c.1), c.2)

-- Whatever stands below a node of the arena stands below one of its children.
child_below : (d : Document) (nodes : List Node) (slots : List Slot) → IsLinked d nodes slots → (n k : ℕ) (p : Place) (u : Tree) → n < length nodes → at d.tree (place_of d n ++ k ∷ p) ≡ Some u → (c : ℕ) × (c < length nodes) × (place_of d c ≡ place_of d n ++ k ∷ [])
child_below d nodes slots l n k p u h e =
    let s = stands d nodes slots l n h in
    let inner : at_in s.0.children k p ≡ Some u = sym (at-below d.tree (place_of d n) (k ∷ p) s.0 s.1) ∙ e in
    child_at d nodes slots l n s.0 h s.1 k (at_in-within s.0.children k p u inner)

node_below : (d : Document) (nodes : List Node) (slots : List Slot) → IsLinked d nodes slots → (p : Place) (k n : ℕ) (u : Tree) → n < length nodes → at d.tree (place_of d n ++ k ∷ p) ≡ Some u → (m : ℕ) × (m < length d.places) × (place_of d m ≡ place_of d n ++ k ∷ p)
node_below d nodes slots l [] k n u h e =
    let c = child_below d nodes slots l n k [] u h e in (c.0, omega (arith, l.numbered, c.1), c.2)
node_below d nodes slots l (j ∷ p) k n u h e =
    let c = child_below d nodes slots l n k (j ∷ p) u h e in
    let place : place_of d c.0 ++ j ∷ p ≡ place_of d n ++ k ∷ (j ∷ p) = ap (λ (q : Place). q ++ j ∷ p) c.2 ∙ append_assoc (place_of d n) (k ∷ []) (j ∷ p) in
    let m = node_below d nodes slots l p j c.0 u c.1 (ap (at d.tree) place ∙ e) in
    (m.0, m.1, m.2 ∙ place)

-- Every place of the tree has its number.
pub placed : (d : Document) (nodes : List Node) (slots : List Slot) → IsLinked d nodes slots → (p : Place) (u : Tree) → at d.tree p ≡ Some u → (m : ℕ) × (m < length d.places) × (place_of d m ≡ p)
placed d nodes slots l [] u e = (0, omega (arith, l.some, l.numbered), l.root)
placed d nodes slots l (k ∷ p) u e =
    let m = node_below d nodes slots l p k 0 u l.some (ap (λ (q : Place). at d.tree (q ++ k ∷ p)) l.root ∙ e) in
    (m.0, m.1, m.2 ∙ ap (λ (q : Place). q ++ k ∷ p) l.root)

some-by : (o : Option Tree) → IsSome o → (u : Tree) × (o ≡ Some u)
some-by None h = absurd (cc)
some-by (Some u) h = (u, refl)

pub numbers : (d v : Document) (nodes : List Node) (slots : List Slot) → IsLinked d nodes slots → d ≡ v → IsNumbering v
numbers d v nodes slots l e =
    subst IsNumbering e (record {
      stand = λ i h. let s = stands d nodes slots l i (omega (arith, l.numbered, h)) in subst (λ (o : Option Tree). IsSome o) (sym s.1) refl;
      differ = λ i j a b g. l.distinct i j (omega (arith, l.numbered, a)) (omega (arith, l.numbered, b)) g;
      each = λ p h. let u = some-by (at d.tree p) h in placed d nodes slots l p u.0 u.1;
    })

both_of : (c b : Bool) → IsTrue c → IsTrue b → IsTrue (c && b)
both_of true b h k = k
both_of false b h k = h

-- The properties of a node have names that they may have, where all slots have.
owned-named : (i : ℕ) (slots : List Slot) → ((k : ℕ) (s : Slot) → slice_get slots k ≡ Some s → IsTrue (is_property_name s.name)) → IsTrue (have_names (owned i slots))
owned-named i [] h = refl
owned-named i (s ∷ slots) h = go (s.owner == i) (owned-named i slots (λ k t e. h (suc k) t e))
  where
    go : (b : Bool) → IsTrue (have_names (owned i slots)) → IsTrue (have_names (cond b ((s.name, s.value) ∷ owned i slots) (owned i slots)))
    go true r = both_of (is_property_name s.name) (have_names (owned i slots)) (h 0 s refl) r
    go false r = r

-- Names and depths of the nodes are as they may be.
pub names : (d v : Document) (nodes : List Node) (slots : List Slot) → IsLinked d nodes slots → d ≡ v → IsNamed v
names d v nodes slots l e =
    subst IsNamed e (record {
      nodes = λ i h ne. let n = there nodes i (omega (arith, l.numbered, h)) in subst (λ (z : Bytes). IsTrue (is_node_name z)) (sym (or_of face (λ z. z.0) _ _ _ (l.nodes_of i n.0 n.1).says)) ((l.nodes_of i n.0 n.1).named (λ z. ne (ap (place_of d) z ∙ l.root)));
      properties = λ i h. let n = there nodes i (omega (arith, l.numbered, h)) in subst (λ (z : List Property). IsTrue (have_names z)) (sym (or_of face (λ z. z.1) _ _ _ (l.nodes_of i n.0 n.1).says)) (owned-named i slots l.slots_named);
      shallow = λ i h. let n = there nodes i (omega (arith, l.numbered, h)) in (l.nodes_of i n.0 n.1).shallow;
    })

-- A number that is live is the number of one of the nodes.
pub held : (d v : Document) (nodes : List Node) (slots : List Slot) (i : ℕ) → IsLinked d nodes slots → d ≡ v → i < length v.places → i < length nodes
held d v nodes slots i l e h = omega (arith, l.numbered, h, ap (λ (z : Document). length z.places) e)

-- A node that is live is not too deep.
pub shallow_at : (d v : Document) (nodes : List Node) (slots : List Slot) (j : ℕ) → IsLinked d nodes slots → d ≡ v → j < length v.places → depth (place_of v j) ≤ depth_limit
shallow_at d v nodes slots j l e h =
    let n = there nodes j (held d v nodes slots j l e h) in subst (λ (z : Document). depth (place_of z j) ≤ depth_limit) e (l.nodes_of j n.0 n.1).shallow

-- The place above is shorter by one.
pub length-above : (p q : Place) → parent_place p ≡ Some q → length p ≡ length q + 1
length-above [] q e = absurd (cc)
length-above (k ∷ []) q e = let f : [] ≡ q = cc in ap (λ (z : Place). length z + 1) f
length-above (k ∷ i ∷ p) q e =
    let s = some_of (λ r. k ∷ r) (parent_place (i ∷ p)) q e in omega (arith, length-above (i ∷ p) s.0 s.1, ap length s.2)

pub length-root : (d v : Document) (nodes : List Node) (slots : List Slot) (j : ℕ) → IsLinked d nodes slots → d ≡ v → j ≡ 0 → length (place_of v j) ≡ 0
length-root d v nodes slots j l e z =
    subst (λ (w : Document). length (place_of w j) ≡ 0) e (ap (λ k. length (place_of d k)) z ∙ ap length l.root)

-- What stands where a live node stands.
pub stands_view : (d v : Document) (nodes : List Node) (slots : List Slot) (j : ℕ) → IsLinked d nodes slots → d ≡ v → j < length v.places → (u : Tree) × (node_at v j ≡ Some u)
stands_view d v nodes slots j l e h =
    subst (λ (z : Document). (u : Tree) × (node_at z j ≡ Some u)) e (stands d nodes slots l j (held d v nodes slots j l e h))
