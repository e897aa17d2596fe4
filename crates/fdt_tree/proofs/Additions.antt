-- A property that is added to a node, in the arena and in the document.
use Rattle.std.proofs.Common.{IsTrue, ◌≡◌, ◌≢◌, ◌⊎◌, inl, inr, ℕ, zero, suc, ◌+◌, ◌-◌, ◌<◌, List, [], ◌∷◌, ◌++◌, Option, Some, None, IfSome, option_map, option_and_then, length, get_or, slice_get, unwrap_or, refl, sym, ap, ◌∙◌, subst, arith, append-nil, length-append}
use Rattle.std.proofs.lemmas.Bool.{cases_eq}
use Rattle.fdt_tree.specs.Tree.{Bytes, Property, Tree, Place, at, count, change_properties, is_property_name}
use Rattle.fdt_tree.specs.Document.{Document, place_of, node_at, if_there, next_place, properties_of, with_properties, with_property}
use Rattle.fdt_tree.specs.Assembled.{face, Added, added, assembled, document, owned, rows, first_owned, last_owned, last_place, IsNodeOf, IsLinked, StandBeside}
use Rattle.fdt_tree.specs.PrivateLinks.{summary, from, modified, with_next, with_last_slot, chained_after}
use Rattle.fdt_tree.specs.declared.node.Node.{Node}
use Rattle.fdt_tree.specs.declared.node.Slot.{Slot}
use Rattle.fdt_tree.proofs.Edits.{change_properties-Extends, at-edit_same, at-edit_other, name-edit}
use Rattle.fdt_tree.proofs.Lists.{rows-modified, length-rows, length-modified, get-modified_same, get-modified_other, get-within, get-append_old, get-append_new, length-last, read-there}
use Rattle.fdt_tree.proofs.Links.{some_of, mapped, or_of, stands, held, reads}
use Rattle.fdt_tree.proofs.Changes.{altered, document-changed, children_kept, children_at-change}
use Rattle.fdt_tree.proofs.Runs.{beside-more, beside-new, run-ends}
use Rattle.fdt_tree.proofs.Chains.{owned-mine, owned-other, first-other, first-mine, last-other, last-mine, rows-altered, chained-more, owned-more, first-more, last-more, from-first, first-live, length-after, length-owned}

const-map : {A B C : Type 0} (f : A → B) (c : C) (o r : Option A) → option_map f o ≡ option_map f r → option_map (λ _. c) o ≡ option_map (λ _. c) r
const-map f c None None e = refl
const-map f c None (Some y) e = absurd (cc)
const-map f c (Some x) None e = absurd (cc)
const-map f c (Some x) (Some y) e = refl

pub row-there : (nodes : List Node) (f i : ℕ) (slots : List Slot) (r : Added) → slice_get (rows f nodes slots) i ≡ Some r → (n : Node) × (slice_get nodes i ≡ Some n) × (r.parent ≡ n.parent)
row-there [] f i slots r e = absurd (cc)
row-there (n ∷ nodes) f zero slots r e = let q : added f n slots ≡ r = cc in (n, refl, sym (ap (λ (z : Added). z.parent) q))
row-there (n ∷ nodes) f (suc i) slots r e = row-there nodes (suc f) i slots r e

slot-was : (xs : List Slot) (s : Slot) (last : Option ℕ) (k : ℕ) (t : Slot) → slice_get (chained_after last xs s) k ≡ Some t → (u : Slot) × (slice_get (xs ++ s ∷ []) k ≡ Some u) × ((t.owner ≡ u.owner) × (t.name ≡ u.name))
slot-was xs s None k t e = (t, e, (refl, refl))
slot-was xs s (Some l) k t e = go (cases_eq k l)
  where
    go : (k ≡ l) ⊎ (k ≡ l → ⊥) → (u : Slot) × (slice_get (xs ++ s ∷ []) k ≡ Some u) × ((t.owner ≡ u.owner) × (t.name ≡ u.name))
    go (inr ne) = (t, sym (get-modified_other (with_next (length xs)) (xs ++ s ∷ []) l k ne) ∙ e, (refl, refl))
    go (inl q) = let r = some_of (with_next (length xs)) (slice_get (xs ++ s ∷ []) l) t (sym (get-modified_same (with_next (length xs)) (xs ++ s ∷ []) l) ∙ (ap (slice_get (modified (with_next (length xs)) l (xs ++ s ∷ []))) (sym q) ∙ e)) in (r.0, ap (slice_get (xs ++ s ∷ [])) q ∙ r.1, (sym (ap (λ (z : Slot). z.owner) r.2), sym (ap (λ (z : Slot). z.name) r.2)))

module _ (d : Document) (nodes : List Node) (slots : List Slot) (p : ℕ) (m : Node) (slot : Slot) (last : Option ℕ) (l : IsLinked d nodes slots) (e : slice_get nodes p ≡ Some m) (lc : m.last_property ≡ last) (ow : slot.owner ≡ p) (sn : slot.next ≡ None) (b : IfSome last (λ k. k < length slots)) (nm : IsTrue (is_property_name slot.name)) where
  abbrev g : List Property → List Property
  g ps = ps ++ (slot.name, slot.value) ∷ []

  abbrev P : Place
  P = place_of d p

  abbrev d' : Document
  d' = with_properties d P g

  abbrev slots' : List Slot
  slots' = chained_after last slots slot

  h : p < length nodes
  h = get-within nodes p m e

  pub mine : owned p slots' ≡ g (owned p slots)
  mine = owned-more p slots slot last ∙ ap (λ z. owned p slots ++ z) (ap (λ k. owned k (slot ∷ [])) (sym ow) ∙ owned-mine slot)

  pub others : (i : ℕ) → i ≢ p → owned i slots' ≡ owned i slots
  others i ne = owned-more i slots slot last ∙ (ap (λ z. owned i slots ++ z) (owned-other i slot (λ q. ne (sym q ∙ ow))) ∙ append-nil (owned i slots))

  kept_there : (q : Place) → if_there d' q ≡ if_there d q
  kept_there q = const-map (λ (n : Tree). count n.children) q (at d'.tree q) (at d.tree q) (children_kept g d.tree P q)

  kept_after : (o : Option Place) → option_and_then (if_there d') o ≡ option_and_then (if_there d) o
  kept_after None = refl
  kept_after (Some q) = kept_there q

  node_at' : (i : ℕ) (n n' : Node) → slice_get nodes i ≡ Some n → n' ≡ record n { first_property = n'.first_property; last_property = n'.last_property; run = n'.run; property_count = n'.property_count } → option_map face (node_at d' i) ≡ Some (n.name, owned i slots') → n'.property_count ≡ length (owned i slots') → StandBeside i n'.first_property n'.run slots' → n'.first_property ≡ first_owned i 0 slots' → n'.last_property ≡ last_owned None i 0 slots' → IsNodeOf d' i n' slots'
  node_at' i n n' f same says many side fs ls =
      let o = l.nodes_of i n f in subst (λ (z : Node). IsNodeOf d' i z slots') (sym same) (record {
        says = says;
        named = o.named;
        shallow = o.shallow;
        earlier = o.earlier;
        above = o.above;
        first_on = o.first_on;
        next_on = o.next_on;
        last_on = o.last_on;
        first = o.first ∙ sym (kept_there (place_of d i ++ 0 ∷ []));
        next = o.next ∙ sym (kept_after (next_place (place_of d i)));
        last = o.last ∙ ap (last_place (place_of d i)) (sym (children_at-change g d.tree P (place_of d i)));
        counted = many;
        beside = side;
        first_slot = fs;
        last_slot = ls;
      })

  kept_node : (i : ℕ) (n : Node) → slice_get nodes i ≡ Some n → i ≢ p → IsNodeOf d' i n slots'
  kept_node i n f ne =
      let o = l.nodes_of i n f in let w = get-within nodes i n f in let v = stands d nodes slots l i w in node_at' i n n f refl (mapped summary (λ z. (z.0, z.1.0)) _ _ (at-edit_other (change_properties g) (change_properties-Extends g) d.tree P (place_of d i) v.0 (λ z. ne (l.distinct i p w h (sym z))) v.1) ∙ (sym (ap (option_map face) v.1) ∙ (o.says ∙ ap (λ z. Some (n.name, z)) (sym (others i ne))))) (o.counted ∙ ap length (sym (others i ne))) (beside-more i n.first_property n.run slots slot last o.beside) (o.first_slot ∙ sym (first-more i slots slot last ∙ first-other i 0 slots slot (λ q. ne (sym q ∙ ow)))) (o.last_slot ∙ sym (last-more i slots slot last ∙ last-other None i 0 slots slot (λ q. ne (sym q ∙ ow))))

  changed_node : IsNodeOf d' p (with_last_slot (length slots) m) slots'
  changed_node =
      let o = l.nodes_of p m e in let s = some_of face (node_at d p) _ o.says in let z : 0 + length slots ≡ length slots = omega arith in node_at' p m (with_last_slot (length slots) m) e refl (ap (option_map face) (at-edit_same (change_properties g) d.tree P ∙ ap (option_map (change_properties g)) s.1) ∙ (ap (λ w. Some (w.0, g w.1)) s.2 ∙ ap (λ w. Some (m.name, w)) (sym mine))) (ap (λ w. w + 1) o.counted ∙ (sym (length-append (owned p slots) ((slot.name, slot.value) ∷ [])) ∙ ap length (sym mine))) (beside-new p m.first_property m.run slots slot last ow o.beside) (sym (first-more p slots slot last ∙ (ap (λ k. first_owned k 0 (slots ++ slot ∷ [])) (sym ow) ∙ (first-mine 0 slots slot ∙ (ap (λ k. Some (unwrap_or (first_owned slot.owner 0 slots) k)) z ∙ (ap (λ k. Some (unwrap_or (first_owned k 0 slots) (length slots))) ow ∙ ap (λ k. Some (unwrap_or k (length slots))) (sym o.first_slot))))))) (sym (last-more p slots slot last ∙ (ap (λ k. last_owned None k 0 (slots ++ slot ∷ [])) (sym ow) ∙ (last-mine None 0 slots slot ∙ ap Some z))))

  told : (i : ℕ) (n x : Node) (o : Option Node) → o ≡ Some n → o ≡ Some x → IsNodeOf d' i x slots' → IsNodeOf d' i n slots'
  told i n x o a c f = let q : x ≡ n = cc in subst (λ (z : Node). IsNodeOf d' i z slots') q f

  node_of : (i : ℕ) (n : Node) → slice_get (modified (with_last_slot (length slots)) p nodes) i ≡ Some n → (i ≡ p) ⊎ (i ≡ p → ⊥) → IsNodeOf d' i n slots'
  node_of i n f (inr ne) = kept_node i n (sym (get-modified_other (with_last_slot (length slots)) nodes p i ne) ∙ f) ne
  node_of i n f (inl q) =
      subst (λ j. IsNodeOf d' j n slots') (sym q) (told p n (with_last_slot (length slots) m) (slice_get (modified (with_last_slot (length slots)) p nodes) p) (ap (slice_get (modified (with_last_slot (length slots)) p nodes)) (sym q) ∙ f) (get-modified_same (with_last_slot (length slots)) nodes p ∙ ap (option_map (with_last_slot (length slots))) e) changed_node)

  owner_in : (t : Slot) (k : ℕ) → slice_get (slots ++ slot ∷ []) k ≡ Some t → (k ≡ length slots) ⊎ (k ≡ length slots → ⊥) → t.owner < length nodes
  owner_in t k f (inl q) =
      let same : slot ≡ t = one (sym (get-append_new slots slot) ∙ (ap (slice_get (slots ++ slot ∷ [])) (sym q) ∙ f)) in subst (λ (z : Slot). z.owner < length nodes) same (omega (arith, h, ow))
    where
      one : Some slot ≡ Some t → slot ≡ t
      one z = cc
  owner_in t k f (inr ne) =
      l.owners k t (sym (get-append_old slots slot k (omega (arith, get-within _ k t f, length-last slots slot, ne))) ∙ f)

  name_in : (t : Slot) (k : ℕ) → slice_get (slots ++ slot ∷ []) k ≡ Some t → (k ≡ length slots) ⊎ (k ≡ length slots → ⊥) → IsTrue (is_property_name t.name)
  name_in t k f (inl q) =
      let same : slot ≡ t = one (sym (get-append_new slots slot) ∙ (ap (slice_get (slots ++ slot ∷ [])) (sym q) ∙ f)) in subst (λ (z : Slot). IsTrue (is_property_name z.name)) same nm
    where
      one : Some slot ≡ Some t → slot ≡ t
      one z = cc
  name_in t k f (inr ne) =
      l.slots_named k t (sym (get-append_old slots slot k (omega (arith, get-within _ k t f, length-last slots slot, ne))) ∙ f)

  pub IsLinked-more : IsLinked (with_properties d (place_of d p) (λ ps. ps ++ (slot.name, slot.value) ∷ [])) (modified (with_last_slot (length slots)) p nodes) (chained_after last slots slot)
  IsLinked-more = let long = length-modified (with_last_slot (length slots)) nodes p in record {
    some = omega (arith, l.some, long);
    root = l.root;
    unnamed = name-edit (change_properties g) (λ t. refl) d.tree P ∙ l.unnamed;
    numbered = l.numbered ∙ sym long;
    nodes_of = λ i n f. node_of i n f (cases_eq i p);
    distinct = λ i j a c f. l.distinct i j (omega (arith, long)) (omega (arith, long)) f;
    chained = chained-more slots slot last sn (ap (λ k. last_owned None k 0 slots) ow ∙ (sym (l.nodes_of p m e).last_slot ∙ lc)) b l.chained;
    owners = λ k t f. let u = slot-was slots slot last k t f in omega (arith, owner_in u.0 k u.1 (cases_eq k (length slots)), u.2.0, long);
    slots_named = λ k t f. let u = slot-was slots slot last k t f in subst (λ (z : Bytes). IsTrue (is_property_name z)) (sym u.2.1) (name_in u.0 k u.1 (cases_eq k (length slots)));
  }

-- A node has fewer properties than there are slots with a new one, and its run ends before that one.
pub room : (d v : Document) (nodes : List Node) (slots held_slots : List Slot) (p j count : ℕ) (n m : Node) (last : Option ℕ) (slot : Slot) → IsLinked d nodes slots → d ≡ v → p ≡ j → j < length v.places → n ≡ get_or nodes p n → slice_get nodes p ≡ Some m → held_slots ≡ chained_after last slots slot → count ≡ length held_slots → (count ≡ suc (length slots)) × (m.property_count < count) × IfSome m.first_property (λ start. start + m.run < count - 1)
room d v nodes slots held_slots p j count n m last slot l e q h g f a b =
    let o = reads d v nodes slots p j n l e q h g in
    let long : count ≡ suc (length slots) = b ∙ (ap length a ∙ length-after last slots slot) in
    let w : p < length nodes = omega (arith, q, held d v nodes slots j l e h) in
    let same : n ≡ m = one (sym (read-there nodes p n w g) ∙ f) in
    subst (λ (z : Node). (count ≡ suc (length slots)) × (z.property_count < count) × IfSome z.first_property (λ start. start + z.run < count - 1)) same (long, omega (arith, long, o.counted, length-owned j slots), run-ends j n.first_property n.run count slots o.beside long)
  where
    one : Some n ≡ Some m → n ≡ m
    one z = cc

-- What the arena holds after a property was added.
pub after_slot : (v : Document) (nodes items : List Node) (slots held_slots : List Slot) (p j : ℕ) (n : Node) (last : Option ℕ) (slot : Slot) → IsLinked (document nodes slots) nodes slots → document nodes slots ≡ v → p ≡ j → j < length v.places → n ≡ get_or nodes p n → n.last_property ≡ last → slot.owner ≡ p → slot.next ≡ None → IfSome last (λ k. k < length slots) → IsTrue (is_property_name slot.name) → items ≡ modified (with_last_slot (length slots)) p nodes → held_slots ≡ chained_after last slots slot → IsLinked (document items held_slots) items held_slots × (document items held_slots ≡ with_property v (place_of v j) slot.name slot.value)
after_slot v nodes items slots held_slots p j n last slot l e q h g lc ow sn b nm a a2 =
    let w : p < length nodes = omega (arith, l.numbered, q, h, ap (λ (z : Document). length z.places) e) in let o = read-there nodes p n w g in let zero_is : p ≡ 0 + p = omega arith in let add : List Property → List Property = λ ps. ps ++ (slot.name, slot.value) ∷ [] in let r : rows 0 (modified (with_last_slot (length slots)) p nodes) (chained_after last slots slot) ≡ modified (altered add) p (rows 0 nodes slots) = rows-modified (with_last_slot (length slots)) (record { added = λ k z s. refl }) nodes p 0 (chained_after last slots slot) ∙ rows-altered add nodes 0 p slots (chained_after last slots slot) w (subst (λ k. owned k (chained_after last slots slot) ≡ add (owned k slots)) zero_is (mine (document nodes slots) nodes slots p n slot last l o lc ow sn b nm)) (λ i ne. others (document nodes slots) nodes slots p n slot last l o lc ow sn b nm i (λ z. ne (z ∙ zero_is))) in let c : document (modified (with_last_slot (length slots)) p nodes) (chained_after last slots slot) ≡ with_properties (document nodes slots) (place_of (document nodes slots) p) add = ap assembled r ∙ document-changed add (rows 0 nodes slots) p (omega (arith, w, length-rows nodes 0 slots)) (λ i y f z. let t = row-there nodes 0 i slots y f in omega (arith, (l.nodes_of i t.0 t.1).earlier z, t.2)) in let k = IsLinked-more (document nodes slots) nodes slots p n slot last l o lc ow sn b nm in (subst (λ (z : List Slot). IsLinked (document items z) items z) (sym a2) (subst (λ (z : List Node). IsLinked (document z (chained_after last slots slot)) z (chained_after last slots slot)) (sym a) (subst (λ (z : Document). IsLinked z (modified (with_last_slot (length slots)) p nodes) (chained_after last slots slot)) (sym c) k)), ap (λ z. document items z) a2 ∙ (ap (λ z. document z (chained_after last slots slot)) a ∙ (c ∙ (ap (λ (z : Document). with_properties z (place_of z p) add) e ∙ ap (λ z. with_properties v (place_of v z) add) q))))

-- The properties along a node's links are those of the node in the document.
pub all_of : (v : Document) (slots items : List Slot) (j : ℕ) (n : Node) → IsNodeOf v j n slots → items ≡ slots → from items n.first_property ≡ properties_of v j
all_of v slots items j n f e =
    ap (λ z. from z n.first_property) e ∙ (ap (from slots) f.first_slot ∙ (from-first j 0 slots slots refl ∙ sym (or_of face (λ z. z.1) _ _ _ f.says)))

pub live_of : (v : Document) (slots items : List Slot) (j : ℕ) (n : Node) → IsNodeOf v j n slots → items ≡ slots → IfSome n.first_property (λ k. k < length items)
live_of v slots items j n f e = subst (λ (z : List Slot). IfSome n.first_property (λ k. k < length z)) (sym e) (first-live j slots n.first_property f.first_slot)
