-- A value that is replaced in its slot.
use Rattle.std.proofs.Common.{IsTrue, ◌≡◌, ◌≢◌, ◌⊎◌, inl, inr, ℕ, zero, suc, ◌+◌, ◌<◌, ◌≤◌, ◌==◌, Bool, true, false, List, [], ◌∷◌, ◌++◌, Option, Some, None, IfSome, option_map, option_and_then, length, slice_get, get_or, cond, refl, sym, ap, ◌∙◌, subst, arith, eq-eqb, ne_eqb}
use Rattle.std.specs.Prelude.{bytes_eq, ◌&&◌, drop}
use Rattle.std.proofs.lemmas.Bool.{cases_eq, eqb-true}
use Rattle.std.proofs.lemmas.Slice.Eq.{bytes_eq-Decides}
use Rattle.fdt_tree.specs.Tree.{Bytes, Property, Trees, none, tree, Tree, Place, at_in, at, count, edit_in, edit, change_properties, is_property_name}
use Rattle.fdt_tree.specs.Document.{Document, place_of, node_at, if_there, next_place, with_properties, with_property}
use Rattle.fdt_tree.specs.PathEdits.{set_property}
use Rattle.fdt_tree.specs.Assembled.{face, assembled, document, rows, last_place, IsNodeOf, IsLinked, owned, first_owned, last_owned, IsChained}
use Rattle.fdt_tree.specs.PrivateLinks.{summary, modified, with_value, first_named_slot}
use Rattle.fdt_tree.specs.declared.node.Node.{Node}
use Rattle.fdt_tree.specs.declared.node.Slot.{Slot}
use Rattle.fdt_tree.proofs.Edits.{change_properties-Extends, at-edit_same, at-edit_other, name-edit}
use Rattle.fdt_tree.proofs.Lists.{get-within, length-rows, read-there}
use Rattle.fdt_tree.proofs.Links.{some_of, mapped, stands}
use Rattle.fdt_tree.proofs.Changes.{altered, document-changed, children_kept, children_at-change}
use Rattle.fdt_tree.proofs.Chains.{rows-altered, drop-at, drop-get, chained-at}
use Rattle.fdt_tree.proofs.Additions.{row-there}

pub first-valued : (i f k : ℕ) (v : Bytes) (xs : List Slot) → first_owned i f (modified (with_value v) k xs) ≡ first_owned i f xs
first-valued i f k v [] = refl
first-valued i f zero v (s ∷ xs) = refl
first-valued i f (suc k) v (s ∷ xs) = ap (λ z. cond (s.owner == i) (Some f) z) (first-valued i (suc f) k v xs)

pub last-valued : (o : Option ℕ) (i f k : ℕ) (v : Bytes) (xs : List Slot) → last_owned o i f (modified (with_value v) k xs) ≡ last_owned o i f xs
last-valued o i f k v [] = refl
last-valued o i f zero v (s ∷ xs) = refl
last-valued o i f (suc k) v (s ∷ xs) = last-valued (cond (s.owner == i) (Some f) o) i (suc f) k v xs

pub chained-valued : (f k : ℕ) (v : Bytes) (xs : List Slot) → IsChained f xs → IsChained f (modified (with_value v) k xs)
chained-valued f k v [] c = c
chained-valued f zero v (s ∷ xs) c = c
chained-valued f (suc k) v (s ∷ xs) c = (c.0 ∙ sym (first-valued s.owner (suc f) k v xs), chained-valued (suc f) k v xs c.1)

-- What belongs to another node is kept.
pub owned-valued_other : (i k : ℕ) (v : Bytes) (xs : List Slot) (t : Slot) → slice_get xs k ≡ Some t → t.owner ≢ i → owned i (modified (with_value v) k xs) ≡ owned i xs
owned-valued_other i k v [] t e ne = refl
owned-valued_other i zero v (s ∷ xs) t e ne =
    let q : s ≡ t = cc in let b = ap (λ (w : Slot). w.owner == i) q ∙ ne_eqb t.owner i ne in ap (λ z. cond z ((s.name, v) ∷ owned i xs) (owned i xs)) b ∙ sym (ap (λ z. cond z ((s.name, s.value) ∷ owned i xs) (owned i xs)) b)
owned-valued_other i (suc k) v (s ∷ xs) t e ne = ap (λ z. cond (s.owner == i) ((s.name, s.value) ∷ z) z) (owned-valued_other i k v xs t e ne)

named-from : (i : ℕ) (name : Bytes) (f y : ℕ) (xs : List Slot) → first_named_slot i name f xs ≡ Some y → f ≤ y
named-from i name f y [] e = absurd (cc)
named-from i name f y (s ∷ xs) e = go (s.owner == i && bytes_eq s.name name) e (λ z. named-from i name (suc f) y xs z)
  where
    go : (b : Bool) → cond b (Some f) (first_named_slot i name (suc f) xs) ≡ Some y → (first_named_slot i name (suc f) xs ≡ Some y → suc f ≤ y) → f ≤ y
    go true z h = let w : f ≡ y = cc in omega (arith, w)
    go false z h = omega (arith, h z)

-- The first property of a name has the new value, in its place.
pub owned-valued : (i : ℕ) (name v : Bytes) (f k : ℕ) (xs : List Slot) → first_named_slot i name f xs ≡ Some (f + k) → owned i (modified (with_value v) k xs) ≡ set_property name v (owned i xs)
owned-valued i name v f k [] e = absurd (cc)
owned-valued i name v f zero (s ∷ xs) e = go (s.owner == i) (bytes_eq s.name name) refl e (λ z. named-from i name (suc f) (f + 0) xs z)
  where
    go : (b c : Bool) → c ≡ bytes_eq s.name name → cond (b && c) (Some f) (first_named_slot i name (suc f) xs) ≡ Some (f + 0) → (first_named_slot i name (suc f) xs ≡ Some (f + 0) → suc f ≤ f + 0) → cond b ((s.name, v) ∷ owned i xs) (owned i xs) ≡ set_property name v (cond b ((s.name, s.value) ∷ owned i xs) (owned i xs))
    go false c q z h = absurd (omega (arith, h z))
    go true false q z h = absurd (omega (arith, h z))
    go true true q z h = ap (λ n. (n, v) ∷ owned i xs) ((bytes_eq-Decides s.name name).0 (sym q)) ∙ ap (λ b. cond b ((name, v) ∷ owned i xs) ((s.name, s.value) ∷ set_property name v (owned i xs))) q
owned-valued i name v f (suc k) (s ∷ xs) e = go (s.owner == i) (bytes_eq s.name name) refl e (λ z. owned-valued i name v (suc f) k xs (z ∙ ap Some (let w : f + suc k ≡ suc f + k = omega arith in w)))
  where
    head : f + suc k ≡ f → ⊥
    head z = omega (arith, z)

    go : (b c : Bool) → c ≡ bytes_eq s.name name → cond (b && c) (Some f) (first_named_slot i name (suc f) xs) ≡ Some (f + suc k) → (first_named_slot i name (suc f) xs ≡ Some (f + suc k) → owned i (modified (with_value v) k xs) ≡ set_property name v (owned i xs)) → cond b ((s.name, s.value) ∷ owned i (modified (with_value v) k xs)) (owned i (modified (with_value v) k xs)) ≡ set_property name v (cond b ((s.name, s.value) ∷ owned i xs) (owned i xs))
    go false c q z h = h z
    go true true q z h = absurd (head (let w : f ≡ f + suc k = cc in sym w))
    go true false q z h = ap (λ w. (s.name, s.value) ∷ w) (h z) ∙ ap (λ b. cond b ((name, v) ∷ owned i xs) ((s.name, s.value) ∷ set_property name v (owned i xs))) q

-- Where no property has the name, a last one is added.
pub owned-unnamed : (i : ℕ) (name v : Bytes) (f : ℕ) (xs : List Slot) → first_named_slot i name f xs ≡ None → set_property name v (owned i xs) ≡ owned i xs ++ (name, v) ∷ []
owned-unnamed i name v f [] e = refl
owned-unnamed i name v f (s ∷ xs) e = go (s.owner == i) (bytes_eq s.name name) refl e (λ z. owned-unnamed i name v (suc f) xs z)
  where
    go : (b c : Bool) → c ≡ bytes_eq s.name name → cond (b && c) (Some f) (first_named_slot i name (suc f) xs) ≡ None → (first_named_slot i name (suc f) xs ≡ None → set_property name v (owned i xs) ≡ owned i xs ++ (name, v) ∷ []) → set_property name v (cond b ((s.name, s.value) ∷ owned i xs) (owned i xs)) ≡ cond b ((s.name, s.value) ∷ owned i xs) (owned i xs) ++ (name, v) ∷ []
    go false c q z h = h z
    go true true q z h = absurd (cc)
    go true false q z h = sym (ap (λ b. cond b ((name, v) ∷ owned i xs) ((s.name, s.value) ∷ set_property name v (owned i xs))) q) ∙ ap (λ w. (s.name, s.value) ∷ w) (h z)

const-map : {A B C : Type 0} (f : A → B) (c : C) (o r : Option A) → option_map f o ≡ option_map f r → option_map (λ _. c) o ≡ option_map (λ _. c) r
const-map f c None None e = refl
const-map f c None (Some y) e = absurd (cc)
const-map f c (Some x) None e = absurd (cc)
const-map f c (Some x) (Some y) e = refl

length-valued : (i k : ℕ) (v : Bytes) (xs : List Slot) → length (owned i (modified (with_value v) k xs)) ≡ length (owned i xs)
length-valued i k v [] = refl
length-valued i zero v (s ∷ xs) = go (s.owner == i)
  where
    go : (b : Bool) → length (cond b ((s.name, v) ∷ owned i xs) (owned i xs)) ≡ length (cond b ((s.name, s.value) ∷ owned i xs) (owned i xs))
    go true = refl
    go false = refl
length-valued i (suc k) v (s ∷ xs) = go (s.owner == i) (length-valued i k v xs)
  where
    go : (b : Bool) → length (owned i (modified (with_value v) k xs)) ≡ length (owned i xs) → length (cond b ((s.name, s.value) ∷ owned i (modified (with_value v) k xs)) (owned i (modified (with_value v) k xs))) ≡ length (cond b ((s.name, s.value) ∷ owned i xs) (owned i xs))
    go true e = ap suc e
    go false e = e

owner-valued : (k j : ℕ) (v : Bytes) (xs : List Slot) → option_map (λ s. s.owner) (slice_get (modified (with_value v) k xs) j) ≡ option_map (λ s. s.owner) (slice_get xs j)
owner-valued k j v [] = refl
owner-valued zero zero v (s ∷ xs) = refl
owner-valued zero (suc j) v (s ∷ xs) = refl
owner-valued (suc k) zero v (s ∷ xs) = refl
owner-valued (suc k) (suc j) v (s ∷ xs) = owner-valued k j v xs

-- Other slots whose links and owners are the same, where the properties of one node are changed.
pub record IsChange (g : List Property → List Property) (p : ℕ) (xs ys : List Slot) (count : ℕ) : Type 0 where
  pub mine : owned p ys ≡ g (owned p xs)
  pub others : (i : ℕ) → i ≢ p → owned i ys ≡ owned i xs
  pub first : (i : ℕ) → first_owned i 0 ys ≡ first_owned i 0 xs
  pub last : (i : ℕ) → last_owned None i 0 ys ≡ last_owned None i 0 xs
  pub chained : IsChained 0 ys
  pub owners : (k : ℕ) (s : Slot) → slice_get ys k ≡ Some s → s.owner < count
  pub named : (k : ℕ) (s : Slot) → slice_get ys k ≡ Some s → IsTrue (is_property_name s.name)
  pub counts : (i : ℕ) → length (owned i ys) ≡ length (owned i xs)
  pub owner : (k : ℕ) → option_map (λ s. s.owner) (slice_get ys k) ≡ option_map (λ s. s.owner) (slice_get xs k)

module _ (g : List Property → List Property) (d : Document) (nodes : List Node) (slots slots' : List Slot) (p : ℕ) (l : IsLinked d nodes slots) (h : p < length nodes) (x : IsChange g p slots slots' (length nodes)) where
  abbrev P : Place
  P = place_of d p

  abbrev d' : Document
  d' = with_properties d P g

  kept_there : (q : Place) → if_there d' q ≡ if_there d q
  kept_there q = const-map (λ (n : Tree). count n.children) q (at d'.tree q) (at d.tree q) (children_kept g d.tree P q)

  kept_after : (o : Option Place) → option_and_then (if_there d') o ≡ option_and_then (if_there d) o
  kept_after None = refl
  kept_after (Some q) = kept_there q

  says : (i : ℕ) (n : Node) → slice_get nodes i ≡ Some n → (i ≡ p) ⊎ (i ≡ p → ⊥) → option_map face (node_at d' i) ≡ Some (n.name, owned i slots')
  says i n f (inl q) =
      let o = l.nodes_of i n f in let s = some_of face (node_at d i) _ o.says in let same : place_of d i ≡ P = ap (place_of d) q in ap (λ z. option_map face (at d'.tree z)) same ∙ (ap (option_map face) (at-edit_same (change_properties g) d.tree P ∙ ap (option_map (change_properties g)) (ap (at d.tree) (sym same) ∙ s.1)) ∙ (ap (λ w. Some (w.0, g w.1)) s.2 ∙ ap (λ w. Some (n.name, w)) (ap (λ k. g (owned k slots)) q ∙ (sym x.mine ∙ ap (λ k. owned k slots') (sym q)))))
  says i n f (inr ne) =
      let o = l.nodes_of i n f in let w = get-within nodes i n f in let v = stands d nodes slots l i w in mapped summary (λ z. (z.0, z.1.0)) _ _ (at-edit_other (change_properties g) (change_properties-Extends g) d.tree P (place_of d i) v.0 (λ z. ne (l.distinct i p w h (sym z))) v.1) ∙ (sym (ap (option_map face) v.1) ∙ (o.says ∙ ap (λ z. Some (n.name, z)) (sym (x.others i ne))))

  pub IsLinked-change : IsLinked (with_properties d (place_of d p) g) nodes slots'
  IsLinked-change = record {
    some = l.some;
    root = l.root;
    unnamed = name-edit (change_properties g) (λ t. refl) d.tree P ∙ l.unnamed;
    numbered = l.numbered;
    nodes_of = λ i n f. let o = l.nodes_of i n f in record {
      says = says i n f (cases_eq i p);
      named = o.named;
      shallow = o.shallow;
      earlier = o.earlier;
      above = o.above;
      first_on = o.first_on;
      next_on = o.next_on;
      last_on = o.last_on;
      first = o.first ∙ sym (kept_there (place_of d i ++ 0 ∷ []));
      next = o.next ∙ sym (kept_after (next_place (place_of d i)));
      last = o.last ∙ ap (last_place (place_of d i)) (sym (children_at-change g d.tree P (place_of d i)));
      counted = o.counted ∙ sym (x.counts i);
      beside = λ start index z b. x.owner (start + index) ∙ o.beside start index z b;
      first_slot = o.first_slot ∙ sym (x.first i);
      last_slot = o.last_slot ∙ sym (x.last i);
    };
    distinct = l.distinct;
    chained = x.chained;
    owners = x.owners;
    slots_named = x.named;
  }

-- What the arena holds after such a change.
pub after_change : (g : List Property → List Property) (v : Document) (nodes : List Node) (slots held : List Slot) (p j : ℕ) → IsLinked (document nodes slots) nodes slots → document nodes slots ≡ v → p ≡ j → j < length v.places → IsChange g p slots held (length nodes) → IsLinked (document nodes held) nodes held × (document nodes held ≡ with_properties v (place_of v j) g)
after_change g v nodes slots held p j l e q h x =
    let w : p < length nodes = omega (arith, l.numbered, q, h, ap (λ (z : Document). length z.places) e) in let zero_is : p ≡ 0 + p = omega arith in let r : rows 0 nodes held ≡ modified (altered g) p (rows 0 nodes slots) = rows-altered g nodes 0 p slots held w (subst (λ k. owned k held ≡ g (owned k slots)) zero_is x.mine) (λ i ne. x.others i (λ z. ne (z ∙ zero_is))) in let c : document nodes held ≡ with_properties (document nodes slots) (place_of (document nodes slots) p) g = ap assembled r ∙ document-changed g (rows 0 nodes slots) p (omega (arith, w, length-rows nodes 0 slots)) (λ i y f z. let t = row-there nodes 0 i slots y f in omega (arith, (l.nodes_of i t.0 t.1).earlier z, t.2)) in let k = IsLinked-change g (document nodes slots) nodes slots held p l w x in (subst (λ (z : Document). IsLinked z nodes held) (sym c) k, c ∙ (ap (λ (z : Document). with_properties z (place_of z p) g) e ∙ ap (λ z. with_properties v (place_of v z) g) q))

slot-was : (xs : List Slot) (v : Bytes) (k j : ℕ) (s : Slot) → slice_get (modified (with_value v) k xs) j ≡ Some s → (t : Slot) × (slice_get xs j ≡ Some t) × ((s.owner ≡ t.owner) × (s.name ≡ t.name))
slot-was [] v k j s e = absurd (cc)
slot-was (x ∷ xs) v zero zero s e = let q : with_value v x ≡ s = cc in (x, refl, (sym (ap (λ (z : Slot). z.owner) q), sym (ap (λ (z : Slot). z.name) q)))
slot-was (x ∷ xs) v zero (suc j) s e = (s, e, (refl, refl))
slot-was (x ∷ xs) v (suc k) zero s e = (s, e, (refl, refl))
slot-was (x ∷ xs) v (suc k) (suc j) s e = slot-was xs v k j s e

-- A value that is replaced in the first slot of its name is a property that is set.
pub value-IsChange : (name v : Bytes) (d : Document) (nodes : List Node) (slots : List Slot) (p k : ℕ) (t : Slot) → IsLinked d nodes slots → first_named_slot p name 0 slots ≡ Some k → slice_get slots k ≡ Some t → t.owner ≡ p → IsChange (set_property name v) p slots (modified (with_value v) k slots) (length nodes)
value-IsChange name v d nodes slots p k t l e f ow = record {
  mine = owned-valued p name v 0 k slots (e ∙ ap Some (let z : k ≡ 0 + k = omega arith in z));
  others = λ i ne. owned-valued_other i k v slots t f (λ q. ne (sym q ∙ ow));
  first = λ i. first-valued i 0 k v slots;
  last = λ i. last-valued None i 0 k v slots;
  chained = chained-valued 0 k v slots l.chained;
  owners = λ j s g. let u = slot-was slots v k j s g in omega (arith, l.owners j u.0 u.1, u.2.0);
  named = λ j s g. let u = slot-was slots v k j s g in subst (λ (z : Bytes). IsTrue (is_property_name z)) (sym u.2.1) (l.slots_named j u.0 u.1);
  counts = λ i. length-valued i k v slots;
  owner = λ j. owner-valued k j v slots;
}

-- The first slot of a name from a link on.
abbrev pub named_at : ℕ → Bytes → List Slot → Option ℕ → Option ℕ
named_at i name all None = None
named_at i name all (Some k) = first_named_slot i name k (drop k all)

-- A link to a slot of a node.
abbrev pub LeadsTo : ℕ → List Slot → Option ℕ → Type 0
LeadsTo i all next = IfSome next (λ k. (t : Slot) × (slice_get all k ≡ Some t) × (t.owner ≡ i))

-- The scan for a name and the walk along the links find the same.
pub named-first : (i k : ℕ) (name : Bytes) (all xs : List Slot) → drop k all ≡ xs → (first_named_slot i name k xs ≡ named_at i name all (first_owned i k xs)) × LeadsTo i all (first_owned i k xs)
named-first i k name all [] e = (refl, tt)
named-first i k name all (t ∷ xs) e = go (cases_eq t.owner i) (named-first i (suc k) name all xs (drop-at all xs k t e).1)
  where
    go : (t.owner ≡ i) ⊎ (t.owner ≡ i → ⊥) → (first_named_slot i name (suc k) xs ≡ named_at i name all (first_owned i (suc k) xs)) × LeadsTo i all (first_owned i (suc k) xs) → (first_named_slot i name k (t ∷ xs) ≡ named_at i name all (cond (t.owner == i) (Some k) (first_owned i (suc k) xs))) × LeadsTo i all (cond (t.owner == i) (Some k) (first_owned i (suc k) xs))
    go (inl q) r =
        let b = eq-eqb t.owner i q in (ap (first_named_slot i name k) (sym e) ∙ sym (ap (λ z. named_at i name all (cond z (Some k) (first_owned i (suc k) xs))) b), subst (λ z. LeadsTo i all (cond z (Some k) (first_owned i (suc k) xs))) (sym b) (t, (drop-at all xs k t e).0, q))
    go (inr ne) r =
        let b = ne_eqb t.owner i ne in (ap (λ z. cond (z && bytes_eq t.name name) (Some k) (first_named_slot i name (suc k) xs)) b ∙ (r.0 ∙ sym (ap (λ z. named_at i name all (cond z (Some k) (first_owned i (suc k) xs))) b)), subst (λ z. LeadsTo i all (cond z (Some k) (first_owned i (suc k) xs))) (sym b) r.1)

-- A step of the walk: the slot has the name, or the search goes on at its link.
pub named-step : (i : ℕ) (name : Bytes) (all : List Slot) (next : Option ℕ) (k : ℕ) (t : Slot) → IsChained 0 all → next ≡ Some k → LeadsTo i all next → t ≡ get_or all k t → (named_at i name all next ≡ cond (bytes_eq t.name name) (Some k) (named_at i name all t.next)) × (LeadsTo i all t.next × (slice_get all k ≡ Some t))
named-step i name all next k t c e b g =
    let s = subst (λ (o : Option ℕ). LeadsTo i all o) e b in let o = read-there all k t (get-within all k s.0 s.1) g in let same : s.0 ≡ t = one (sym s.1 ∙ o) in let ow : t.owner ≡ i = sym (ap (λ (z : Slot). z.owner) same) ∙ s.2 in let z : suc (0 + k) ≡ suc k = omega arith in let n : t.next ≡ first_owned i (suc k) (drop (suc k) all) = chained-at 0 k all t c o ∙ (ap (λ j. first_owned t.owner j (drop (suc k) all)) z ∙ ap (λ j. first_owned j (suc k) (drop (suc k) all)) ow) in let r = named-first i (suc k) name all (drop (suc k) all) refl in (ap (named_at i name all) e ∙ (ap (first_named_slot i name k) (drop-get all k t o) ∙ (ap (λ w. cond (w && bytes_eq t.name name) (Some k) (first_named_slot i name (suc k) (drop (suc k) all))) (eq-eqb t.owner i ow) ∙ ap (λ w. cond (bytes_eq t.name name) (Some k) w) (r.0 ∙ ap (named_at i name all) (sym n)))), (subst (λ w. LeadsTo i all w) (sym n) r.1, o))
  where
    one : {A : Type 0} {x y : A} → Some x ≡ Some y → x ≡ y
    one w = cc

-- The first slot of a name is a slot of the node.
pub named-there : (i : ℕ) (name : Bytes) (f y : ℕ) (xs : List Slot) → first_named_slot i name f xs ≡ Some y → (j : ℕ) × (y ≡ f + j) × (t : Slot) × (slice_get xs j ≡ Some t) × (t.owner ≡ i)
named-there i name f y [] e = absurd (cc)
named-there i name f y (s ∷ xs) e = go (s.owner == i) (bytes_eq s.name name) refl e (λ z. named-there i name (suc f) y xs z)
  where
    deeper : (j : ℕ) × (y ≡ suc f + j) × (t : Slot) × (slice_get xs j ≡ Some t) × (t.owner ≡ i) → (j : ℕ) × (y ≡ f + j) × (t : Slot) × (slice_get (s ∷ xs) j ≡ Some t) × (t.owner ≡ i)
    deeper r = (suc r.0, omega (arith, r.1), r.2, r.3, r.4)

    go : (b c : Bool) → b ≡ (s.owner == i) → cond (b && c) (Some f) (first_named_slot i name (suc f) xs) ≡ Some y → (first_named_slot i name (suc f) xs ≡ Some y → (j : ℕ) × (y ≡ suc f + j) × (t : Slot) × (slice_get xs j ≡ Some t) × (t.owner ≡ i)) → (j : ℕ) × (y ≡ f + j) × (t : Slot) × (slice_get (s ∷ xs) j ≡ Some t) × (t.owner ≡ i)
    go false c q z h = deeper (h z)
    go true false q z h = deeper (h z)
    go true true q z h = let w : f ≡ y = cc in (0, omega (arith, w), s, refl, eqb-true s.owner i (sym q))

edit_in-same : (f g : Tree → Tree) (ts : Trees) (k : ℕ) (p : Place) (u : Tree) → at_in ts k p ≡ Some u → f u ≡ g u → edit_in f ts k p ≡ edit_in g ts k p
edit_in-same f g none k p u e q = refl
edit_in-same f g (tree n ps cs rest) zero [] u e q =
    let s : record { name = n; properties = ps; children = cs } ≡ u = cc in ap (λ (w : Tree). tree w.name w.properties w.children rest) (ap f s ∙ (q ∙ ap g (sym s)))
edit_in-same f g (tree n ps cs rest) zero (j ∷ p) u e q = ap (λ z. tree n ps z rest) (edit_in-same f g cs j p u e q)
edit_in-same f g (tree n ps cs rest) (suc k) p u e q = ap (tree n ps cs) (edit_in-same f g rest k p u e q)

edit-same : (f g : Tree → Tree) (t : Tree) (p : Place) (u : Tree) → at t p ≡ Some u → f u ≡ g u → edit f t p ≡ edit g t p
edit-same f g t [] u e q = let s : t ≡ u = cc in ap f s ∙ (q ∙ ap g (sym s))
edit-same f g t (k ∷ p) u e q = ap (λ z. record t { children = z }) (edit_in-same f g t.children k p u e q)

-- Where no property has the name, adding a last one is setting it.
pub added-is_set : (v : Document) (slots : List Slot) (j : ℕ) (n : Node) (name bytes : Bytes) → IsNodeOf v j n slots → first_named_slot j name 0 slots ≡ None → with_property v (place_of v j) name bytes ≡ with_properties v (place_of v j) (set_property name bytes)
added-is_set v slots j n name bytes f e =
    let s = some_of face (node_at v j) _ f.says in let own : s.0.properties ≡ owned j slots = ap (λ w. w.1) s.2 in ap (λ t. record v { tree = t }) (edit-same (change_properties (λ ps. ps ++ (name, bytes) ∷ [])) (change_properties (set_property name bytes)) v.tree (place_of v j) s.0 s.1 (ap (λ z. record s.0 { properties = z }) (ap (λ z. z ++ (name, bytes) ∷ []) own ∙ (sym (owned-unnamed j name bytes 0 slots e) ∙ ap (set_property name bytes) (sym own)))))

-- What the arena holds after a value was replaced in its slot.
pub after_value : (v : Document) (nodes : List Node) (slots held : List Slot) (p j k : ℕ) (name value : Bytes) → IsLinked (document nodes slots) nodes slots → document nodes slots ≡ v → p ≡ j → j < length v.places → first_named_slot p name 0 slots ≡ Some k → held ≡ modified (with_value value) k slots → IsLinked (document nodes held) nodes held × (document nodes held ≡ with_properties v (place_of v j) (set_property name value))
after_value v nodes slots held p j k name value l e q h f a =
    let t = named-there p name 0 k slots f in let at_k : slice_get slots k ≡ Some t.2 = ap (slice_get slots) (let z : k ≡ t.0 = omega (arith, t.1) in z) ∙ t.3 in subst (λ (z : List Slot). IsLinked (document nodes z) nodes z × (document nodes z ≡ with_properties v (place_of v j) (set_property name value))) (sym a) (after_change (set_property name value) v nodes slots (modified (with_value value) k slots) p j l e q h (value-IsChange name value (document nodes slots) nodes slots p k t.2 l f at_k t.4))
