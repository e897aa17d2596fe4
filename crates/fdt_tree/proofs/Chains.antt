-- Properties that are linked: one more of a node, and the walk along its links.
use Rattle.std.proofs.Common.{◌≡◌, ◌≢◌, ◌⊎◌, inl, inr, ℕ, zero, suc, ◌+◌, ◌<◌, ◌≤◌, ◌-◌, ◌==◌, get_or, Bool, true, false, List, [], ◌∷◌, ◌++◌, Option, Some, None, IfSome, length, slice_get, unwrap_or, cond, refl, sym, ap, ◌∙◌, subst, arith, eq-eqb, ne_eqb}
use Rattle.std.proofs.lemmas.Bool.{cases_eq}
use Rattle.std.specs.Prelude.{drop, bytes_eq}
use Rattle.std.specs.Option.{option_map_or}
use Rattle.fdt_tree.specs.Tree.{Property, property_of}
use Rattle.fdt_tree.proofs.Lists.{read-there, there, length-last, length-modified}
use Rattle.fdt_tree.specs.Assembled.{added, owned, rows, first_owned, last_owned, IsChained}
use Rattle.fdt_tree.specs.PrivateLinks.{from, modified, with_next, chained_after}
use Rattle.fdt_tree.specs.declared.node.Node.{Node}
use Rattle.fdt_tree.specs.declared.node.Slot.{Slot}
use Rattle.fdt_tree.proofs.Changes.{altered}

-- A link changes nothing of what belongs to whom.
pub owned-next : (i k l : ℕ) (xs : List Slot) → owned i (modified (with_next k) l xs) ≡ owned i xs
owned-next i k l [] = refl
owned-next i k zero (s ∷ xs) = refl
owned-next i k (suc l) (s ∷ xs) = ap (λ z. cond (s.owner == i) ((s.name, s.value) ∷ z) z) (owned-next i k l xs)

pub first-next : (i f k l : ℕ) (xs : List Slot) → first_owned i f (modified (with_next k) l xs) ≡ first_owned i f xs
first-next i f k l [] = refl
first-next i f k zero (s ∷ xs) = refl
first-next i f k (suc l) (s ∷ xs) = ap (λ z. cond (s.owner == i) (Some f) z) (first-next i (suc f) k l xs)

pub last-next : (o : Option ℕ) (i f k l : ℕ) (xs : List Slot) → last_owned o i f (modified (with_next k) l xs) ≡ last_owned o i f xs
last-next o i f k l [] = refl
last-next o i f k zero (s ∷ xs) = refl
last-next o i f k (suc l) (s ∷ xs) = last-next (cond (s.owner == i) (Some f) o) i (suc f) k l xs

-- One slot more, of a node and of another.
cond-append : (b : Bool) (p : Property) (xs ys : List Property) → cond b (p ∷ (xs ++ ys)) (xs ++ ys) ≡ cond b (p ∷ xs) xs ++ ys
cond-append true p xs ys = refl
cond-append false p xs ys = refl

pub owned-append : (i : ℕ) (xs : List Slot) (s : Slot) → owned i (xs ++ s ∷ []) ≡ owned i xs ++ owned i (s ∷ [])
owned-append i [] s = refl
owned-append i (t ∷ xs) s =
    ap (λ z. cond (t.owner == i) ((t.name, t.value) ∷ z) z) (owned-append i xs s) ∙ cond-append (t.owner == i) (t.name, t.value) (owned i xs) (owned i (s ∷ []))

pub owned-mine : (s : Slot) → owned s.owner (s ∷ []) ≡ (s.name, s.value) ∷ []
owned-mine s = ap (λ b. cond b ((s.name, s.value) ∷ []) []) (eq-eqb s.owner s.owner refl)

pub owned-other : (i : ℕ) (s : Slot) → s.owner ≢ i → owned i (s ∷ []) ≡ []
owned-other i s ne = ap (λ b. cond b ((s.name, s.value) ∷ []) []) (ne_eqb s.owner i ne)

pub first-other : (i f : ℕ) (xs : List Slot) (s : Slot) → s.owner ≢ i → first_owned i f (xs ++ s ∷ []) ≡ first_owned i f xs
first-other i f [] s ne = ap (λ b. cond b (Some f) None) (ne_eqb s.owner i ne)
first-other i f (t ∷ xs) s ne = ap (λ z. cond (t.owner == i) (Some f) z) (first-other i (suc f) xs s ne)

cond-first : (b : Bool) (f k : ℕ) (o : Option ℕ) → cond b (Some f) (Some (unwrap_or o k)) ≡ Some (unwrap_or (cond b (Some f) o) k)
cond-first true f k o = refl
cond-first false f k o = refl

pub first-mine : (f : ℕ) (xs : List Slot) (s : Slot) → first_owned s.owner f (xs ++ s ∷ []) ≡ Some (unwrap_or (first_owned s.owner f xs) (f + length xs))
first-mine f [] s = let e : f ≡ f + 0 = omega arith in ap (λ b. cond b (Some f) None) (eq-eqb s.owner s.owner refl) ∙ ap Some e
first-mine f (t ∷ xs) s =
    let e : suc f + length xs ≡ f + suc (length xs) = omega arith in ap (λ z. cond (t.owner == s.owner) (Some f) z) (first-mine (suc f) xs s ∙ ap (λ k. Some (unwrap_or (first_owned s.owner (suc f) xs) k)) e) ∙ cond-first (t.owner == s.owner) f (f + suc (length xs)) (first_owned s.owner (suc f) xs)

pub last-other : (o : Option ℕ) (i f : ℕ) (xs : List Slot) (s : Slot) → s.owner ≢ i → last_owned o i f (xs ++ s ∷ []) ≡ last_owned o i f xs
last-other o i f [] s ne = ap (λ b. cond b (Some f) o) (ne_eqb s.owner i ne)
last-other o i f (t ∷ xs) s ne = last-other (cond (t.owner == i) (Some f) o) i (suc f) xs s ne

pub last-mine : (o : Option ℕ) (f : ℕ) (xs : List Slot) (s : Slot) → last_owned o s.owner f (xs ++ s ∷ []) ≡ Some (f + length xs)
last-mine o f [] s = let e : f ≡ f + 0 = omega arith in ap (λ b. cond b (Some f) o) (eq-eqb s.owner s.owner refl) ∙ ap Some e
last-mine o f (t ∷ xs) s =
    let e : suc f + length xs ≡ f + suc (length xs) = omega arith in last-mine (cond (t.owner == s.owner) (Some f) o) (suc f) xs s ∙ ap Some e

-- Where no slot is the first of a node, none is a later last.
pub none-last : (o : Option ℕ) (i f : ℕ) (xs : List Slot) → first_owned i f xs ≡ None → last_owned o i f xs ≡ o
none-last o i f [] e = refl
none-last o i f (t ∷ xs) e = go (t.owner == i) e (λ z. none-last o i (suc f) xs z)
  where
    go : (b : Bool) → cond b (Some f) (first_owned i (suc f) xs) ≡ None → (first_owned i (suc f) xs ≡ None → last_owned o i (suc f) xs ≡ o) → last_owned (cond b (Some f) o) i (suc f) xs ≡ o
    go true z h = absurd (cc)
    go false z h = h z

-- The last slot of a node is the one that was known, or among these.
pub last-where : (o : Option ℕ) (i f y : ℕ) (xs : List Slot) → last_owned o i f xs ≡ Some y → (o ≡ Some y) ⊎ (f ≤ y)
last-where o i f y [] e = inl e
last-where o i f y (t ∷ xs) e = go (t.owner == i) (last-where (cond (t.owner == i) (Some f) o) i (suc f) y xs e)
  where
    go : (b : Bool) → (cond b (Some f) o ≡ Some y) ⊎ (suc f ≤ y) → (o ≡ Some y) ⊎ (f ≤ y)
    go b (inr h) = inr (omega arith)
    go true (inl h) = let v : f ≡ y = cc in inr (omega (arith, v))
    go false (inl h) = inl h

-- Where a slot is the first of a node, the last is not before it.
pub last-from : (o : Option ℕ) (i f x y : ℕ) (xs : List Slot) → first_owned i f xs ≡ Some x → last_owned o i f xs ≡ Some y → f ≤ y
last-from o i f x y [] e g = absurd (cc)
last-from o i f x y (t ∷ xs) e g = go (t.owner == i) e g (λ z h. last-from o i (suc f) x y xs z h)
  where
    near : (Some f ≡ Some y) ⊎ (suc f ≤ y) → f ≤ y
    near (inl h) = let v : f ≡ y = cc in omega (arith, v)
    near (inr h) = omega arith

    go : (b : Bool) → cond b (Some f) (first_owned i (suc f) xs) ≡ Some x → last_owned (cond b (Some f) o) i (suc f) xs ≡ Some y → (first_owned i (suc f) xs ≡ Some x → last_owned o i (suc f) xs ≡ Some y → suc f ≤ y) → f ≤ y
    go true z h r = near (last-where (Some f) i (suc f) y xs h)
    go false z h r = omega (arith, r z h)

stays : (i f x : ℕ) (xs : List Slot) → last_owned (Some x) i f xs ≡ None → ⊥
stays i f x [] e = cc
stays i f x (t ∷ xs) e = go (t.owner == i) e (λ y z. stays i (suc f) y xs z)
  where
    go : (b : Bool) → last_owned (cond b (Some f) (Some x)) i (suc f) xs ≡ None → ((y : ℕ) → last_owned (Some y) i (suc f) xs ≡ None → ⊥) → ⊥
    go true z h = h f z
    go false z h = h x z

-- Where a slot is the first of a node, one is the last.
pub first-last : (i : ℕ) (xs : List Slot) (f : ℕ) (o : Option ℕ) (x : ℕ) → first_owned i f xs ≡ Some x → last_owned o i f xs ≡ None → ⊥
first-last i [] f o x e g = cc
first-last i (t ∷ xs) f o x e g = go (t.owner == i) e g (λ a b. first-last i xs (suc f) o x a b)
  where
    go : (b : Bool) → cond b (Some f) (first_owned i (suc f) xs) ≡ Some x → last_owned (cond b (Some f) o) i (suc f) xs ≡ None → (first_owned i (suc f) xs ≡ Some x → last_owned o i (suc f) xs ≡ None → ⊥) → ⊥
    go true a z h = stays i (suc f) f xs z
    go false a z h = h a z

-- A new slot of a node that has none follows no slot.
pub chained-apart : (f : ℕ) (xs : List Slot) (s : Slot) → s.next ≡ None → first_owned s.owner f xs ≡ None → IsChained f xs → IsChained f (xs ++ s ∷ [])
chained-apart f [] s sn e c = (sn, tt)
chained-apart f (t ∷ xs) s sn e c = go (cases_eq t.owner s.owner) (λ z. chained-apart (suc f) xs s sn z c.1)
  where
    absent : (b : Bool) → b ≡ false → cond b (Some f) (first_owned s.owner (suc f) xs) ≡ None → first_owned s.owner (suc f) xs ≡ None
    absent true q z = absurd (cc)
    absent false q z = z

    mine : (b : Bool) → b ≡ true → cond b (Some f) (first_owned s.owner (suc f) xs) ≡ None → ⊥
    mine true q z = cc
    mine false q z = cc

    go : (t.owner ≡ s.owner) ⊎ (t.owner ≡ s.owner → ⊥) → (first_owned s.owner (suc f) xs ≡ None → IsChained (suc f) (xs ++ s ∷ [])) → IsChained f (t ∷ (xs ++ s ∷ []))
    go (inl q) r = absurd (mine (t.owner == s.owner) (eq-eqb t.owner s.owner q) e)
    go (inr ne) r =
        (c.0 ∙ sym (first-other t.owner (suc f) xs s (λ q. ne (sym q))), r (absent (t.owner == s.owner) (ne_eqb t.owner s.owner ne) e))

-- A new slot of a node follows the last one of that node.
pub chained-behind : (o : Option ℕ) (f l : ℕ) (xs : List Slot) (s : Slot) → s.next ≡ None → IfSome o (λ x. x < f) → l < length xs → last_owned o s.owner f xs ≡ Some (f + l) → IsChained f xs → IsChained f (modified (with_next (f + length xs)) l (xs ++ s ∷ []))
chained-behind o f l [] s sn b h e c = absurd (omega arith)
chained-behind o f zero (t ∷ xs) s sn b h e c = here (first_owned s.owner (suc f) xs) refl
  where
    is_mine : (b2 : Bool) → b2 ≡ (t.owner == s.owner) → cond b2 (Some f) o ≡ Some (f + 0) → t.owner ≡ s.owner
    is_mine b2 q z = go2 (cases_eq t.owner s.owner)
      where
        small : IfSome o (λ x. x < f) → o ≡ Some (f + 0) → ⊥
        small a w = let v = subst (λ (r : Option ℕ). IfSome r (λ x. x < f)) w a in omega (arith, v)

        go2 : (t.owner ≡ s.owner) ⊎ (t.owner ≡ s.owner → ⊥) → t.owner ≡ s.owner
        go2 (inl w) = w
        go2 (inr ne) = absurd (small b (ap (λ r. cond r (Some f) o) (sym (q ∙ ne_eqb t.owner s.owner ne)) ∙ z))

    here : (r : Option ℕ) → first_owned s.owner (suc f) xs ≡ r → IsChained f (with_next (f + suc (length xs)) t ∷ (xs ++ s ∷ []))
    here (Some x) q = absurd (omega (arith, last-from (cond (t.owner == s.owner) (Some f) o) s.owner (suc f) x (f + 0) xs q e))
    here None q =
        let m = is_mine (t.owner == s.owner) refl (sym (none-last (cond (t.owner == s.owner) (Some f) o) s.owner (suc f) xs q) ∙ e) in let number : suc f + length xs ≡ f + suc (length xs) = omega arith in
        (sym (ap (λ w. first_owned w (suc f) (xs ++ s ∷ [])) m ∙ (first-mine (suc f) xs s ∙ (ap (λ r. Some (unwrap_or r (suc f + length xs))) q ∙ ap Some number))), chained-apart (suc f) xs s sn q c.1)
chained-behind o f (suc l) (t ∷ xs) s sn b h e c =
    let number : suc f + l ≡ f + suc l = omega arith in let last : suc f + length xs ≡ f + suc (length xs) = omega arith in
    (link (cases_eq t.owner s.owner) ∙ sym (first-next t.owner (suc f) (f + suc (length xs)) l (xs ++ s ∷ [])), subst (λ k. IsChained (suc f) (modified (with_next k) l (xs ++ s ∷ []))) last (chained-behind (cond (t.owner == s.owner) (Some f) o) (suc f) l xs s sn (bound (t.owner == s.owner) o b) (omega arith) (e ∙ ap Some (sym number)) c.1))
  where
    bound : (b2 : Bool) (r : Option ℕ) → IfSome r (λ x. x < f) → IfSome (cond b2 (Some f) r) (λ x. x < suc f)
    bound true r a = omega arith
    bound false None a = tt
    bound false (Some x) a = omega (arith, a)

    kept : (r : Option ℕ) → first_owned s.owner (suc f) xs ≡ r → first_owned s.owner (suc f) xs ≡ first_owned s.owner (suc f) (xs ++ s ∷ [])
    kept (Some x) q = q ∙ sym (first-mine (suc f) xs s ∙ ap (λ r. Some (unwrap_or r (suc f + length xs))) q)
    kept None q = absurd (far (cond (t.owner == s.owner) (Some f) o) (bound (t.owner == s.owner) o b) (sym (none-last (cond (t.owner == s.owner) (Some f) o) s.owner (suc f) xs q) ∙ e))
      where
        far : (r : Option ℕ) → IfSome r (λ x. x < suc f) → r ≡ Some (f + suc l) → ⊥
        far r a w = let v = subst (λ (z : Option ℕ). IfSome z (λ x. x < suc f)) w a in omega (arith, v)

    link : (t.owner ≡ s.owner) ⊎ (t.owner ≡ s.owner → ⊥) → t.next ≡ first_owned t.owner (suc f) (xs ++ s ∷ [])
    link (inl q) = c.0 ∙ (ap (λ w. first_owned w (suc f) xs) q ∙ (kept (first_owned s.owner (suc f) xs) refl ∙ ap (λ w. first_owned w (suc f) (xs ++ s ∷ [])) (sym q)))
    link (inr ne) = c.0 ∙ sym (first-other t.owner (suc f) xs s (λ q. ne (sym q)))

-- The rows, where one node has one property more.
pub rows-same : (nodes : List Node) (f : ℕ) (xs ys : List Slot) → ((i : ℕ) → f ≤ i → owned i ys ≡ owned i xs) → rows f nodes ys ≡ rows f nodes xs
rows-same [] f xs ys h = refl
rows-same (n ∷ nodes) f xs ys h =
    ap (λ z. record { parent = n.parent; name = n.name; properties = z } ∷ rows (suc f) nodes ys) (h f (omega arith)) ∙ ap (λ z. added f n xs ∷ z) (rows-same nodes (suc f) xs ys (λ i b. h i (omega arith)))

pub rows-altered : (g : List Property → List Property) (nodes : List Node) (f p : ℕ) (xs ys : List Slot) → p < length nodes → owned (f + p) ys ≡ g (owned (f + p) xs) → ((i : ℕ) → i ≢ f + p → owned i ys ≡ owned i xs) → rows f nodes ys ≡ modified (altered g) p (rows f nodes xs)
rows-altered g [] f p xs ys b e h = absurd (omega arith)
rows-altered g (n ∷ nodes) f zero xs ys b e h =
    let z : f + 0 ≡ f = omega arith in ap (λ w. record { parent = n.parent; name = n.name; properties = w } ∷ rows (suc f) nodes ys) (ap (λ k. owned k ys) (sym z) ∙ (e ∙ ap (λ k. g (owned k xs)) z)) ∙ ap (λ w. altered g (added f n xs) ∷ w) (rows-same nodes (suc f) xs ys (λ i c. h i (λ q. omega (arith, q))))
rows-altered g (n ∷ nodes) f (suc p) xs ys b e h =
    let z : f + suc p ≡ suc f + p = omega arith in ap (λ w. record { parent = n.parent; name = n.name; properties = w } ∷ rows (suc f) nodes ys) (h f (λ q. omega (arith, q))) ∙ ap (λ w. added f n xs ∷ w) (rows-altered g nodes (suc f) p xs ys (omega arith) (ap (λ k. owned k ys) (sym z) ∙ (e ∙ ap (λ k. g (owned k xs)) z)) (λ i c. h i (λ q. c (q ∙ z))))

-- With one more property of a node, whose last one it follows, the chains are as they should be.
pub chained-more : (xs : List Slot) (s : Slot) (last : Option ℕ) → s.next ≡ None → last_owned None s.owner 0 xs ≡ last → IfSome last (λ x. x < length xs) → IsChained 0 xs → IsChained 0 (chained_after last xs s)
chained-more xs s None sn e b c = start (first_owned s.owner 0 xs) refl
  where
    start : (r : Option ℕ) → first_owned s.owner 0 xs ≡ r → IsChained 0 (xs ++ s ∷ [])
    start None q = chained-apart 0 xs s sn q c
    start (Some x) q = absurd (found xs 0 q e)
      where
        found : (ys : List Slot) (f : ℕ) → first_owned s.owner f ys ≡ Some x → last_owned None s.owner f ys ≡ None → ⊥
        found ys f a z = first-last s.owner ys f None x a z
chained-more xs s (Some l) sn e b c =
    let z : 0 + l ≡ l = omega arith in let w : 0 + length xs ≡ length xs = omega arith in subst (λ k. IsChained 0 (modified (with_next k) l (xs ++ s ∷ []))) w (chained-behind None 0 l xs s sn tt b (e ∙ ap Some (sym z)) c)

pub owned-more : (i : ℕ) (xs : List Slot) (s : Slot) (last : Option ℕ) → owned i (chained_after last xs s) ≡ owned i xs ++ owned i (s ∷ [])
owned-more i xs s None = owned-append i xs s
owned-more i xs s (Some l) = owned-next i (length xs) l (xs ++ s ∷ []) ∙ owned-append i xs s

pub first-more : (i : ℕ) (xs : List Slot) (s : Slot) (last : Option ℕ) → first_owned i 0 (chained_after last xs s) ≡ first_owned i 0 (xs ++ s ∷ [])
first-more i xs s None = refl
first-more i xs s (Some l) = first-next i 0 (length xs) l (xs ++ s ∷ [])

pub last-more : (i : ℕ) (xs : List Slot) (s : Slot) (last : Option ℕ) → last_owned None i 0 (chained_after last xs s) ≡ last_owned None i 0 (xs ++ s ∷ [])
last-more i xs s None = refl
last-more i xs s (Some l) = last-next None i 0 (length xs) l (xs ++ s ∷ [])

last-below : (o : Option ℕ) (i f y : ℕ) (xs : List Slot) → last_owned o i f xs ≡ Some y → (o ≡ Some y) ⊎ (y < f + length xs)
last-below o i f y [] e = inl e
last-below o i f y (t ∷ xs) e = go (t.owner == i) (last-below (cond (t.owner == i) (Some f) o) i (suc f) y xs e)
  where
    go : (b : Bool) → (cond b (Some f) o ≡ Some y) ⊎ (y < suc f + length xs) → (o ≡ Some y) ⊎ (y < f + suc (length xs))
    go b (inr h) = inr (omega arith)
    go true (inl h) = let v : f ≡ y = cc in inr (omega (arith, v))
    go false (inl h) = inl h

-- The last slot of a node is one of the slots.
pub last-live : (i : ℕ) (xs : List Slot) (r : Option ℕ) → r ≡ last_owned None i 0 xs → IfSome r (λ k. k < length xs)
last-live i xs None e = tt
last-live i xs (Some y) e = go (last-below None i 0 y xs (sym e))
  where
    go : (None ≡ Some y) ⊎ (y < 0 + length xs) → y < length xs
    go (inl h) = absurd (cc)
    go (inr h) = omega arith

pub drop-at : (all xs : List Slot) (k : ℕ) (t : Slot) → drop k all ≡ t ∷ xs → (slice_get all k ≡ Some t) × (drop (suc k) all ≡ xs)
drop-at [] xs k t e = absurd (empty k e)
  where
    empty : (j : ℕ) → drop j [] ≡ t ∷ xs → ⊥
    empty zero z = cc
    empty (suc j) z = cc
drop-at (s ∷ all) xs zero t e = let q : s ≡ t = cc in let r : all ≡ xs = cc in (ap Some q, r)
drop-at (s ∷ all) xs (suc k) t e = drop-at all xs k t e

pub drop-get : (all : List Slot) (k : ℕ) (t : Slot) → slice_get all k ≡ Some t → drop k all ≡ t ∷ drop (suc k) all
drop-get [] k t e = absurd (cc)
drop-get (s ∷ all) zero t e = let q : s ≡ t = cc in ap (λ z. z ∷ all) q
drop-get (s ∷ all) (suc k) t e = drop-get all k t e

-- The properties from the first slot of a node on are those that belong to it.
pub from-first : (i k : ℕ) (all xs : List Slot) → drop k all ≡ xs → from all (first_owned i k xs) ≡ owned i xs
from-first i k all [] e = refl
from-first i k all (t ∷ xs) e = go (cases_eq t.owner i) (from-first i (suc k) all xs (drop-at all xs k t e).1)
  where
    go : (t.owner ≡ i) ⊎ (t.owner ≡ i → ⊥) → from all (first_owned i (suc k) xs) ≡ owned i xs → from all (cond (t.owner == i) (Some k) (first_owned i (suc k) xs)) ≡ cond (t.owner == i) ((t.name, t.value) ∷ owned i xs) (owned i xs)
    go (inl q) r =
        let b = eq-eqb t.owner i q in ap (λ z. from all (cond z (Some k) (first_owned i (suc k) xs))) b ∙ (ap (λ o. option_map_or (λ (s : Slot). owned s.owner (drop k all)) o []) (drop-at all xs k t e).0 ∙ (ap (owned t.owner) e ∙ (ap (λ z. owned z (t ∷ xs)) q)))
    go (inr ne) r =
        let b = ne_eqb t.owner i ne in ap (λ z. from all (cond z (Some k) (first_owned i (suc k) xs))) b ∙ (r ∙ sym (ap (λ z. cond z ((t.name, t.value) ∷ owned i xs) (owned i xs)) b))

pub chained-at : (f k : ℕ) (xs : List Slot) (t : Slot) → IsChained f xs → slice_get xs k ≡ Some t → t.next ≡ first_owned t.owner (suc (f + k)) (drop (suc k) xs)
chained-at f k [] t c e = absurd (cc)
chained-at f zero (s ∷ xs) t c e = let q : s ≡ t = cc in let z : suc f ≡ suc (f + 0) = omega arith in subst (λ (w : Slot). w.next ≡ first_owned w.owner (suc (f + 0)) xs) q (c.0 ∙ ap (λ k. first_owned s.owner k xs) z)
chained-at f (suc k) (s ∷ xs) t c e = let z : suc (suc f + k) ≡ suc (f + suc k) = omega arith in chained-at (suc f) k xs t c.1 e ∙ ap (λ j. first_owned t.owner j (drop (suc k) xs)) z

-- The properties from a slot on are its own and those from the next one on.
pub from-step : (all : List Slot) (k : ℕ) (t : Slot) → IsChained 0 all → slice_get all k ≡ Some t → from all (Some k) ≡ (t.name, t.value) ∷ from all t.next
from-step all k t c e =
    let z : suc (0 + k) ≡ suc k = omega arith in ap (λ o. option_map_or (λ (s : Slot). owned s.owner (drop k all)) o []) e ∙ (ap (owned t.owner) (drop-get all k t e) ∙ (ap (λ b. cond b ((t.name, t.value) ∷ owned t.owner (drop (suc k) all)) (owned t.owner (drop (suc k) all))) (eq-eqb t.owner t.owner refl) ∙ ap (λ w. (t.name, t.value) ∷ w) (sym (ap (from all) (chained-at 0 k all t c e ∙ ap (λ j. first_owned t.owner j (drop (suc k) all)) z) ∙ from-first t.owner (suc k) all (drop (suc k) all) refl))))

first-below : (i f y : ℕ) (xs : List Slot) → first_owned i f xs ≡ Some y → y < f + length xs
first-below i f y [] e = absurd (cc)
first-below i f y (t ∷ xs) e = go (t.owner == i) e (λ z. first-below i (suc f) y xs z)
  where
    go : (b : Bool) → cond b (Some f) (first_owned i (suc f) xs) ≡ Some y → (first_owned i (suc f) xs ≡ Some y → y < suc f + length xs) → y < f + suc (length xs)
    go true z h = let v : f ≡ y = cc in omega (arith, v)
    go false z h = omega (arith, h z)

pub first-live : (i : ℕ) (xs : List Slot) (r : Option ℕ) → r ≡ first_owned i 0 xs → IfSome r (λ k. k < length xs)
first-live i xs None e = tt
first-live i xs (Some y) e = omega (arith, first-below i 0 y xs (sym e))

length-drop : (k : ℕ) (xs : List Slot) → k ≤ length xs → k + length (drop k xs) ≡ length xs
length-drop zero xs h = omega arith
length-drop (suc k) [] h = absurd (omega arith)
length-drop (suc k) (x ∷ xs) h = omega (arith, length-drop k xs (omega arith))

within : (xs : List Slot) (k : ℕ) (t : Slot) → slice_get xs k ≡ Some t → k < length xs
within [] k t e = absurd (cc)
within (x ∷ xs) zero t e = omega arith
within (x ∷ xs) (suc k) t e = omega (arith, within xs k t e)

-- How many slots there are with one more.
pub length-after : (last : Option ℕ) (xs : List Slot) (s : Slot) → length (chained_after last xs s) ≡ suc (length xs)
length-after None xs s = length-last xs s
length-after (Some l) xs s = length-modified (with_next (length xs)) (xs ++ s ∷ []) l ∙ length-last xs s

-- The next slot is one of the slots.
pub next-live : (all : List Slot) (k : ℕ) (t : Slot) (r : Option ℕ) → IsChained 0 all → slice_get all k ≡ Some t → r ≡ t.next → IfSome r (λ j. j < length all)
next-live all k t None c e q = tt
next-live all k t (Some y) c e q =
    let z : suc (0 + k) ≡ suc k = omega arith in omega (arith, first-below t.owner (suc k) y (drop (suc k) all) (sym (q ∙ (chained-at 0 k all t c e ∙ ap (λ j. first_owned t.owner j (drop (suc k) all)) z))), length-drop (suc k) all (within all k t e))

pub length-owned : (i : ℕ) (xs : List Slot) → length (owned i xs) ≤ length xs
length-owned i [] = omega arith
length-owned i (t ∷ xs) = go (t.owner == i) (length-owned i xs)
  where
    go : (b : Bool) → length (owned i xs) ≤ length xs → length (cond b ((t.name, t.value) ∷ owned i xs) (owned i xs)) ≤ suc (length xs)
    go true h = omega (arith, h)
    go false h = omega (arith, h)

-- A step of a walk along the links of a node.
pub walk : (all : List Slot) (next : Option ℕ) (k : ℕ) (t : Slot) → IsChained 0 all → next ≡ Some k → IfSome next (λ j. j < length all) → t ≡ get_or all k t → (from all next ≡ (t.name, t.value) ∷ from all t.next) × IfSome t.next (λ j. j < length all)
walk all next k t c e b g =
    let h : k < length all = subst (λ (o : Option ℕ). IfSome o (λ j. j < length all)) e b in let o = read-there all k t h g in (ap (from all) e ∙ from-step all k t c o, next-live all k t t.next c o refl)

pub length-from : (all : List Slot) (first : Option ℕ) → IfSome first (λ j. j < length all) → length (from all first) ≤ length all
length-from all None b = omega arith
length-from all (Some k) b =
    let t = there all k b in omega (arith, ap length (ap (λ o. option_map_or (λ (s : Slot). owned s.owner (drop k all)) o []) t.1), length-owned t.0.owner (drop k all), length-drop k all (omega (arith, b)))

pub get-later : (x : Property) (xs ys : List Property) (k : ℕ) → ys ≡ x ∷ xs → k ≢ 0 → slice_get ys k ≡ slice_get xs (k - 1)
get-later x xs ys zero e ne = absurd (ne refl)
get-later x xs ys (suc k) e ne = let z : k ≡ suc k - 1 = omega arith in ap (λ w. slice_get w (suc k)) e ∙ ap (slice_get xs) z

pub get-first : (x : Property) (xs ys : List Property) (k : ℕ) → ys ≡ x ∷ xs → k ≡ 0 → slice_get ys k ≡ Some x
get-first x xs ys k e z = ap (slice_get ys) z ∙ ap (λ w. slice_get w 0) e

pub named_first : (x : Property) (xs ys : List Property) (name : List ℕ) → ys ≡ x ∷ xs → bytes_eq x.0 name ≡ true → property_of ys name ≡ Some x.1
named_first x xs ys name e f = ap (λ w. property_of w name) e ∙ ap (λ b. cond b (Some x.1) (property_of xs name)) f

pub named_later : (x : Property) (xs ys : List Property) (name : List ℕ) → ys ≡ x ∷ xs → bytes_eq x.0 name ≡ false → property_of ys name ≡ property_of xs name
named_later x xs ys name e f = ap (λ w. property_of w name) e ∙ ap (λ b. cond b (Some x.1) (property_of xs name)) f
