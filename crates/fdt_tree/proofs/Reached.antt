-- Each node of an arena but the root is reached by one link to a first child or to a next sibling, and by no other.
use Rattle.std.proofs.Common.{◌≡◌, ◌≢◌, ◌⊎◌, inl, inr, ℕ, zero, suc, ◌+◌, ◌<◌, List, [], ◌∷◌, ◌++◌, Option, Some, None, option_map, option_and_then, length, slice_get, refl, sym, ap, ◌∙◌, arith}
use Rattle.fdt_tree.specs.Tree.{Tree, Place, at, at_in, count}
use Rattle.fdt_tree.specs.Document.{Document, place_of, if_there, next_place}
use Rattle.fdt_tree.specs.Assembled.{LeadsOn, IsLinked}
use Rattle.fdt_tree.specs.declared.node.Node.{Node}
use Rattle.fdt_tree.specs.declared.node.Slot.{Slot}
use Rattle.fdt_tree.proofs.Lists.{there, get-within}
use Rattle.fdt_tree.proofs.Standing.{same_end}
use Rattle.fdt_tree.proofs.Order.{ends_in, next_place-child, parent-stands}
use Rattle.fdt_tree.proofs.Edits.{at-below, at_in-within}
use Rattle.fdt_tree.proofs.Links.{stands, placed, child_at}

-- A link of the node with a number.
pub data Link : Type 0 where
  first_child_of : ℕ → Link
  next_sibling_of : ℕ → Link

-- A link leads to the node with a number.
abbrev pub LeadsTo : List Node → ℕ → Link → Type 0
LeadsTo nodes number (first_child_of other) =
    (node : Node) × (slice_get nodes other ≡ Some node) × (node.first_child ≡ Some number)
LeadsTo nodes number (next_sibling_of other) =
    (node : Node) × (slice_get nodes other ≡ Some node) × (node.next_sibling ≡ Some number)

place_there : (d : Document) (c : ℕ) (q : Place) → Some (place_of d c) ≡ if_there d q → place_of d c ≡ q
place_there d c q e = by (at d.tree q) e
  where
    by : (o : Option Tree) → Some (place_of d c) ≡ option_map (λ _. q) o → place_of d c ≡ q
    by None f = absurd (cc)
    by (Some u) f = cc

-- A link to a place where a node stands is to that node.
led_to : (d : Document) (i : ℕ) (o : Option ℕ) (q : Place) (u : Tree) → LeadsOn d i o → option_map (place_of d) o ≡ if_there d q → at d.tree q ≡ Some u → (c : ℕ) × (o ≡ Some c) × (c < length d.places) × (place_of d c ≡ q)
led_to d i None q u a e f = absurd (let g : None ≡ Some q = e ∙ ap (option_map (λ _. q)) f in cc)
led_to d i (Some c) q u a e f = let g : Some (place_of d c) ≡ Some q = e ∙ ap (option_map (λ _. q)) f in (c, refl, a.1, cc)

module _ (d : Document) (nodes : List Node) (slots : List Slot) (l : IsLinked d nodes slots) where
  -- Where a link leads to.
  abbrev Comes : Link → Place → Type 0
  Comes (first_child_of other) place = (other < length nodes) × (place ≡ place_of d other ++ 0 ∷ [])
  Comes (next_sibling_of other) place =
      (other < length nodes) × (r : Place) × (k : ℕ) × (place_of d other ≡ r ++ k ∷ []) × (place ≡ r ++ (k + 1) ∷ [])

  comes : (link : Link) (c : ℕ) → LeadsTo nodes c link → Comes link (place_of d c)
  comes (first_child_of other) c t =
      let f = l.nodes_of other t.0 t.1 in
      (get-within nodes other t.0 t.1, place_there d c (place_of d other ++ 0 ∷ []) (ap (option_map (place_of d)) (sym t.2) ∙ f.first))
  comes (next_sibling_of other) c t = by (ends_in (place_of d other))
    where
      to : Some (place_of d c) ≡ option_and_then (if_there d) (next_place (place_of d other))
      to = ap (option_map (place_of d)) (sym t.2) ∙ (l.nodes_of other t.0 t.1).next

      by : (place_of d other ≡ []) ⊎ ((r : Place) × (k : ℕ) × (place_of d other ≡ r ++ k ∷ [])) → Comes (next_sibling_of other) (place_of d c)
      by (inl z) = absurd (let none : Some (place_of d c) ≡ None = to ∙ ap (λ p. option_and_then (if_there d) (next_place p)) z in cc)
      by (inr w) =
          (get-within nodes other t.0 t.1, w.0, w.1, w.2, place_there d c (w.0 ++ (w.1 + 1) ∷ []) (to ∙ ap (option_and_then (if_there d)) (ap next_place w.2 ∙ next_place-child w.0 w.1)))

  once : (one other : Link) (place : Place) → Comes one place → Comes other place → one ≡ other
  once (first_child_of a) (first_child_of b) place x y =
      ap first_child_of (l.distinct a b x.0 y.0 (same_end (place_of d a) (place_of d b) 0 0 (sym x.1 ∙ y.1)).0)
  once (first_child_of a) (next_sibling_of b) place x y =
      absurd (omega (arith, (same_end (place_of d a) y.1 0 (y.2 + 1) (sym x.1 ∙ y.4)).1))
  once (next_sibling_of a) (first_child_of b) place x y =
      absurd (omega (arith, (same_end x.1 (place_of d b) (x.2 + 1) 0 (sym x.4 ∙ y.1)).1))
  once (next_sibling_of a) (next_sibling_of b) place x y =
      let same = same_end x.1 y.1 (x.2 + 1) (y.2 + 1) (sym x.4 ∙ y.4) in
      let number : x.2 ≡ y.2 = omega (arith, same.1) in
      ap next_sibling_of (l.distinct a b x.0 y.0 (x.3 ∙ (ap (λ r. r ++ x.2 ∷ []) same.0 ∙ (ap (λ k. y.1 ++ k ∷ []) number ∙ sym y.3))))

  -- No two links lead to one node.
  pub reached_once : (c : ℕ) (one other : Link) → LeadsTo nodes c one → LeadsTo nodes c other → one ≡ other
  reached_once c one other a b = once one other (place_of d c) (comes one c a) (comes other c b)

  -- A link to a place that a node has is to that node.
  exact : (c other : ℕ) (o : Option ℕ) (q : Place) → c < length nodes → LeadsOn d other o → option_map (place_of d) o ≡ if_there d q → place_of d c ≡ q → o ≡ Some c
  exact c other o q h a e f =
      let u = stands d nodes slots l c h in
      let t = led_to d other o q u.0 a e (ap (at d.tree) (sym f) ∙ u.1) in
      t.1 ∙ ap Some (l.distinct t.0 c (omega (arith, l.numbered, t.2)) h (t.3 ∙ sym f))

  first_of : (c m : ℕ) → c < length nodes → m < length nodes → place_of d c ≡ place_of d m ++ 0 ∷ [] → (link : Link) × LeadsTo nodes c link
  first_of c m h b e =
      let n = there nodes m b in
      let f = l.nodes_of m n.0 n.1 in
      (first_child_of m, (n.0, n.1, exact c m n.0.first_child (place_of d m ++ 0 ∷ []) h f.first_on f.first e))

  next_of : (c m : ℕ) (r : Place) (k : ℕ) → c < length nodes → m < length nodes → place_of d m ≡ r ++ k ∷ [] → place_of d c ≡ r ++ (k + 1) ∷ [] → (link : Link) × LeadsTo nodes c link
  next_of c m r k h b e g =
      let n = there nodes m b in
      let f = l.nodes_of m n.0 n.1 in
      (next_sibling_of m, (n.0, n.1, exact c m n.0.next_sibling (r ++ (k + 1) ∷ []) h f.next_on (f.next ∙ ap (option_and_then (if_there d)) (ap next_place e ∙ next_place-child r k)) g))

  below : (c m k : ℕ) → c < length nodes → m < length nodes → place_of d c ≡ place_of d m ++ k ∷ [] → (link : Link) × LeadsTo nodes c link
  below c m zero h b e = first_of c m h b e
  below c m (suc k) h b e =
      let u = stands d nodes slots l c h in
      let v = stands d nodes slots l m b in
      let inner : at_in v.0.children (suc k) [] ≡ Some u.0 = sym (at-below d.tree (place_of d m) (suc k ∷ []) v.0 v.1) ∙ (ap (at d.tree) (sym e) ∙ u.1) in
      let few : k < count v.0.children = omega (arith, at_in-within v.0.children (suc k) [] u.0 inner) in
      let elder = child_at d nodes slots l m v.0 b v.1 k few in
      let number : suc k ≡ k + 1 = omega arith in
      next_of c elder.0 (place_of d m) k h elder.1 elder.2 (e ∙ ap (λ i. place_of d m ++ i ∷ []) number)

  -- Some link leads to each node but the root.
  pub reached : (c : ℕ) → c < length nodes → c ≢ 0 → (link : Link) × LeadsTo nodes c link
  reached c h ne = by (ends_in (place_of d c))
    where
      by : (place_of d c ≡ []) ⊎ ((r : Place) × (k : ℕ) × (place_of d c ≡ r ++ k ∷ [])) → (link : Link) × LeadsTo nodes c link
      by (inl z) = absurd (ne (l.distinct c 0 h l.some (z ∙ sym l.root)))
      by (inr w) =
          let u = stands d nodes slots l c h in
          let v = parent-stands d.tree w.0 w.1 u.0 (ap (at d.tree) (sym w.2) ∙ u.1) in
          let m = placed d nodes slots l w.0 v.0 v.1 in
          below c m.0 w.1 h (omega (arith, l.numbered, m.1)) (w.2 ∙ ap (λ r. r ++ w.1 ∷ []) (sym m.2))
