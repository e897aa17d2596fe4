-- A node that is added and then filled is the whole node, added at once.
use Rattle.std.proofs.Common.{◌≡◌, ℕ, suc, ◌==◌, Bool, true, false, cond, not, ◌&&◌, ◌||◌, List, [], ◌∷◌, ◌++◌, map, Option, Some, None, option_map, option_and_then, refl, sym, ap, ◌∙◌, eq-eqb, append_assoc, append-nil}
use Rattle.std.specs.Prelude.{bytes_eq, is_some}
use Rattle.std.specs.List.{list_any}
use Rattle.std.proofs.lemmas.Bool.{and_parts}
use Rattle.fdt_tree.specs.Tree.{Bytes, Property, Trees, none, tree, Tree, with_last, add_child, change_properties, first_named}
use Rattle.fdt_tree.specs.PathEdits.{has_named, set_property}
use Rattle.script_run.specs.Edited.{at_first, leaf}
use Rattle.script_run.proofs.TreeEdits.{way}

-- An edit of a tree along names.
pub data Edit : Type 0 where
  Add : (names : List Bytes) (name : Bytes) → Edit
  Put : (names : List Bytes) (name bytes : Bytes) → Edit

-- an empty last child, where there is none of this name
abbrev pub fresh : Bytes → Tree → Option Tree
fresh name u = cond (has_named name u.children) None (Some (add_child name [] u))

-- a property that is set
abbrev pub put : Bytes → Bytes → Tree → Option Tree
put name bytes u = Some (change_properties (set_property name bytes) u)

abbrev pub apply : Edit → Tree → Option Tree
apply (Add names name) = way (fresh name) names
apply (Put names name bytes) = way (put name bytes) names

abbrev pub apply_all : List Edit → Tree → Option Tree
apply_all [] t = Some t
apply_all (e ∷ es) t = option_and_then (apply_all es) (apply e t)

-- an edit below a child
abbrev pub under : Bytes → Edit → Edit
under child (Add names name) = Add (child ∷ names) name
under child (Put names name bytes) = Put (child ∷ names) name bytes

pub apply_all-append : (es fs : List Edit) (t : Tree) → apply_all (es ++ fs) t ≡ option_and_then (apply_all fs) (apply_all es t)
apply_all-append [] fs t = refl
apply_all-append (e ∷ es) fs t = by (apply e t) (λ u. apply_all-append es fs u)
  where
    by : (o : Option Tree) → ((u : Tree) → apply_all (es ++ fs) u ≡ option_and_then (apply_all fs) (apply_all es u)) → option_and_then (apply_all (es ++ fs)) o ≡ option_and_then (apply_all fs) (option_and_then (apply_all es) o)
    by None h = refl
    by (Some u) h = h u

-- a change that keeps the name of a node
abbrev pub Keeps : (Tree → Option Tree) → Type 0
Keeps f = (u v : Tree) → f u ≡ Some v → v.name ≡ u.name

way-keeps : (f : Tree → Option Tree) (names : List Bytes) → Keeps f → Keeps (way f names)
way-keeps f [] k u v e = k u v e
way-keeps f (name ∷ names) k u v e = by (bytes_eq name []) (at_first (way f names) name u.children) e
  where
    by : (b : Bool) (o : Option Trees) → cond b None (option_map (λ cs. record u { children = cs }) o) ≡ Some v → v.name ≡ u.name
    by true o e = cc
    by false None e = cc
    by false (Some cs) e = let h : record u { children = cs } ≡ v = cc in sym (ap (λ (w : Tree). w.name) h)

fresh-keeps : (name : Bytes) → Keeps (fresh name)
fresh-keeps name u v e = by (has_named name u.children) e
  where
    by : (b : Bool) → cond b None (Some (add_child name [] u)) ≡ Some v → v.name ≡ u.name
    by true e = cc
    by false e = let h : add_child name [] u ≡ v = cc in sym (ap (λ (w : Tree). w.name) h)

put-keeps : (name bytes : Bytes) → Keeps (put name bytes)
put-keeps name bytes u v e = let h : change_properties (set_property name bytes) u ≡ v = cc in sym (ap (λ (w : Tree). w.name) h)

pub apply-keeps : (e : Edit) → Keeps (apply e)
apply-keeps (Add names name) = way-keeps (fresh name) names (fresh-keeps name)
apply-keeps (Put names name bytes) = way-keeps (put name bytes) names (put-keeps name bytes)

-- Two changes of the first of a name, one after the other.
pub at_first-twice : (f g : Tree → Option Tree) (name : Bytes) → Keeps f → (ts : Trees) → option_and_then (at_first g name) (at_first f name ts) ≡ at_first (λ u. option_and_then g (f u)) name ts
at_first-twice f g name keeps none = refl
at_first-twice f g name keeps (tree n ps cs rest) = by (bytes_eq n name) refl (f (record { name = n; properties = ps; children = cs })) refl (at_first-twice f g name keeps rest)
  where
    again : (v : Tree) → bytes_eq v.name name ≡ true → at_first g name (tree v.name v.properties v.children rest) ≡ option_map (λ (t : Tree). tree t.name t.properties t.children rest) (g v)
    again v e = rw e refl

    others : (o : Option Trees) → bytes_eq n name ≡ false → option_and_then (at_first g name) (option_map (tree n ps cs) o) ≡ option_map (tree n ps cs) (option_and_then (at_first g name) o)
    others None e = refl
    others (Some ts) e = rw e refl

    by : (b : Bool) → bytes_eq n name ≡ b → (o : Option Tree) → f (record { name = n; properties = ps; children = cs }) ≡ o
        → option_and_then (at_first g name) (at_first f name rest) ≡ at_first (λ u. option_and_then g (f u)) name rest
        → option_and_then (at_first g name) (cond b (option_map (λ (t : Tree). tree t.name t.properties t.children rest) (f (record { name = n; properties = ps; children = cs }))) (option_map (tree n ps cs) (at_first f name rest)))
        ≡ cond b (option_map (λ (t : Tree). tree t.name t.properties t.children rest) (option_and_then g (f (record { name = n; properties = ps; children = cs })))) (option_map (tree n ps cs) (at_first (λ u. option_and_then g (f u)) name rest))
    by true e None h r = rw h refl
    by true e (Some v) h r = rw h (again v (ap (λ z. bytes_eq z name) (keeps (record { name = n; properties = ps; children = cs }) v h) ∙ e))
    by false e o h r = others (at_first f name rest) e ∙ ap (option_map (tree n ps cs)) r

abbrev pub in_child : (Tree → Option Tree) → Bytes → Tree → Option Tree
in_child f name t = option_map (λ cs. record t { children = cs }) (at_first f name t.children)

pub under-is : (name : Bytes) (e : Edit) (t : Tree) → bytes_eq name [] ≡ false → apply (under name e) t ≡ in_child (apply e) name t
under-is name (Add names new) t some = rw some refl
under-is name (Put names prop bytes) t some = rw some refl

-- the first of a name, by whether the first tree has it
abbrev pub first_of : Bool → Trees → Option (ℕ × Trees) → Option (ℕ × Trees)
first_of b cs o = cond b (Some (0, cs)) (option_map (λ h. (suc h.0, h.1)) o)

pub missing : (b : Bool) (cs : Trees) (o : Option (ℕ × Trees)) → is_some (first_of b cs o) ≡ false → (b ≡ false) × (is_some o ≡ false)
missing true cs o e = cc
missing false cs None e = (refl, refl)
missing false cs (Some h) e = cc

present : (b : Bool) (cs : Trees) (o : Option (ℕ × Trees)) → is_some (first_of b cs o) ≡ true → b ≡ false → is_some o ≡ true
present true cs o e h = cc
present false cs None e h = cc
present false cs (Some h) e g = refl

-- changing nothing of a child that is there
pub at_first-same : (name : Bytes) (ts : Trees) → has_named name ts ≡ true → at_first (λ u. Some u) name ts ≡ Some ts
at_first-same name none e = cc
at_first-same name (tree n ps cs rest) e = by (bytes_eq n name) refl (at_first-same name rest)
  where
    by : (b : Bool) → bytes_eq n name ≡ b → (has_named name rest ≡ true → at_first (λ u. Some u) name rest ≡ Some rest) → at_first (λ u. Some u) name (tree n ps cs rest) ≡ Some (tree n ps cs rest)
    by true b h = rw b refl
    by false b h = rw (b, h (present (bytes_eq n name) cs (first_named name rest) e b)) refl

pub bytes_same : (name : Bytes) → bytes_eq name name ≡ true
bytes_same [] = refl
bytes_same (c ∷ cs) = let e : (c == c) ≡ true = eq-eqb c c refl in rw e (bytes_same cs)

-- the trees with a new last one, at whose name there was none
pub at_first-last : (f : Tree → Option Tree) (name : Bytes) (ts : Trees) (qs : List Property) (ds : Trees) → has_named name ts ≡ false
    → at_first f name (with_last ts name qs ds) ≡ option_map (λ (w : Tree). with_last ts w.name w.properties w.children) (f (record { name = name; properties = qs; children = ds }))
at_first-last f name none qs ds e = rw (bytes_same name) refl
at_first-last f name (tree n ps cs rest) qs ds e =
    let m = missing (bytes_eq n name) cs (first_named name rest) e in
    rw (m.0, at_first-last f name rest qs ds m.1) (by (f (record { name = name; properties = qs; children = ds })))
  where
    by : (o : Option Tree) → option_map (tree n ps cs) (option_map (λ (w : Tree). with_last rest w.name w.properties w.children) o) ≡ option_map (λ (w : Tree). tree n ps cs (with_last rest w.name w.properties w.children)) o
    by None = refl
    by (Some w) = refl

-- Edits below a child that is there are the change that they are of the child.
abbrev pub all_under : Bytes → List Edit → List Edit
all_under name es = map (under name) es

keeps_all : (es : List Edit) → Keeps (apply_all es)
keeps_all [] u v h = let e : u ≡ v = cc in sym (ap (λ (w : Tree). w.name) e)
keeps_all (e ∷ es) u v h = by (apply e u) refl h (keeps_all es)
  where
    by : (o : Option Tree) → apply e u ≡ o → option_and_then (apply_all es) o ≡ Some v → Keeps (apply_all es) → v.name ≡ u.name
    by None g h k = cc
    by (Some w) g h k = k w v h ∙ apply-keeps e u w g

pub found_again : (b : Bool) (cs : Trees) (o : Option (ℕ × Trees)) → is_some o ≡ true → is_some (first_of b cs o) ≡ true
found_again true cs o e = refl
found_again false cs None e = cc
found_again false cs (Some h) e = refl

found_first : (b : Bool) (cs : Trees) (o : Option (ℕ × Trees)) → b ≡ true → is_some (first_of b cs o) ≡ true
found_first true cs o e = refl
found_first false cs o e = cc

-- a child whose name is kept is there afterwards
pub still_named : (f : Tree → Option Tree) (name : Bytes) → Keeps f → (ts us : Trees) → at_first f name ts ≡ Some us → has_named name us ≡ true
still_named f name keeps none us e = cc
still_named f name keeps (tree n ps cs rest) us e = by (bytes_eq n name) refl (f (record { name = n; properties = ps; children = cs })) refl (at_first f name rest) (still_named f name keeps rest) refl e
  where
    by : (b : Bool) → bytes_eq n name ≡ b → (o : Option Tree) → f (record { name = n; properties = ps; children = cs }) ≡ o → (r : Option Trees) → ((vs : Trees) → at_first f name rest ≡ Some vs → has_named name vs ≡ true) → at_first f name rest ≡ r
        → cond b (option_map (λ (t : Tree). tree t.name t.properties t.children rest) o) (option_map (tree n ps cs) r) ≡ Some us → has_named name us ≡ true
    by true b None g r h k e = cc
    by true b (Some v) g r h k e =
        let is : tree v.name v.properties v.children rest ≡ us = cc in
        ap (has_named name) (sym is) ∙ found_first (bytes_eq v.name name) v.children (first_named name rest) (ap (λ z. bytes_eq z name) (keeps (record { name = n; properties = ps; children = cs }) v g) ∙ b)
    by false b o g None h k e = cc
    by false b o g (Some vs) h k e =
        let is : tree n ps cs vs ≡ us = cc in
        ap (has_named name) (sym is) ∙ found_again (bytes_eq n name) cs (first_named name vs) (h vs k)

pub named-last : (name : Bytes) (ts : Trees) (qs : List Property) (ds : Trees) → has_named name (with_last ts name qs ds) ≡ true
named-last name none qs ds = found_first (bytes_eq name name) ds None (bytes_same name)
named-last name (tree n ps cs rest) qs ds = found_again (bytes_eq n name) cs (first_named name (with_last rest name qs ds)) (named-last name rest qs ds)

pub below_all : (name : Bytes) (es : List Edit) (t : Tree) → bytes_eq name [] ≡ false → has_named name t.children ≡ true → apply_all (all_under name es) t ≡ in_child (apply_all es) name t
below_all name [] t some there = sym (ap (option_map (λ cs. record t { children = cs })) (at_first-same name t.children there))
below_all name (e ∷ es) t some there =
    ap (option_and_then (apply_all (all_under name es))) (under-is name e t some)
    ∙ (by (at_first (apply e) name t.children) refl (λ u. below_all name es u some) ∙ ap (option_map (λ cs. record t { children = cs })) (at_first-twice (apply e) (apply_all es) name (apply-keeps e) t.children))
  where
    by : (o : Option Trees) → at_first (apply e) name t.children ≡ o → ((u : Tree) → has_named name u.children ≡ true → apply_all (all_under name es) u ≡ in_child (apply_all es) name u)
        → option_and_then (apply_all (all_under name es)) (option_map (λ cs. record t { children = cs }) o) ≡ option_map (λ cs. record t { children = cs }) (option_and_then (at_first (apply_all es) name) o)
    by None g h = refl
    by (Some cs) g h = h (record t { children = cs }) (still_named (apply e) name (apply-keeps e) t.children cs g)

-- A node that is added and then filled is added whole.
pub whole : (name : Bytes) (es : List Edit) (t : Tree) (w : Tree) → bytes_eq name [] ≡ false → has_named name t.children ≡ false → apply_all es (leaf name []) ≡ Some w
    → apply_all (Add [] name ∷ all_under name es) t ≡ Some (record t { children = with_last t.children w.name w.properties w.children })
whole name es t w some new filled =
    rw new (below_all name es (add_child name [] t) some (named-last name t.children [] none)
    ∙ (ap (option_map (λ cs. record t { children = cs })) (at_first-last (apply_all es) name t.children [] none new) ∙ ap (λ (o : Option Tree). option_map (λ cs. record t { children = cs }) (option_map (λ (v : Tree). with_last t.children v.name v.properties v.children) o)) filled))

-- Properties that are set one after the other on a node that has none of their names stand behind those that it has.
abbrev pub puts : List Property → List Edit
puts ps = map (λ (p : Property). Put [] p.0 p.1) ps

abbrev pub has_prop : Bytes → List Property → Bool
has_prop name ps = list_any (λ (p : Property). bytes_eq p.0 name) ps

pub set-new : (name bytes : Bytes) (ps : List Property) → has_prop name ps ≡ false → set_property name bytes ps ≡ ps ++ (name, bytes) ∷ []
set-new name bytes [] e = refl
set-new name bytes (p ∷ ps) e = by (bytes_eq p.0 name) refl e (set-new name bytes ps)
  where
    by : (b : Bool) → bytes_eq p.0 name ≡ b → (b || has_prop name ps) ≡ false → (has_prop name ps ≡ false → set_property name bytes ps ≡ ps ++ (name, bytes) ∷ []) → set_property name bytes (p ∷ ps) ≡ p ∷ ps ++ (name, bytes) ∷ []
    by true b e h = cc
    by false b e h = rw b (ap (λ qs. p ∷ qs) (h e))

-- all properties have names of their own
abbrev pub are_new : List Property → List Property → Bool
are_new ps [] = true
are_new ps (q ∷ qs) = not (has_prop q.0 ps) && are_new (ps ++ q ∷ []) qs

abbrev pub with_more : Tree → List Property → Tree
with_more t qs = record t { properties = t.properties ++ qs }

pub puts-new : (qs : List Property) (t : Tree) → are_new t.properties qs ≡ true → apply_all (puts qs) t ≡ Some (with_more t qs)
puts-new [] t new = ap (λ ps. Some (record t { properties = ps })) (sym (append-nil t.properties))
puts-new (q ∷ qs) t new =
    let k = and_parts (not (has_prop q.0 t.properties)) (are_new (t.properties ++ q ∷ []) qs) new in
    ap (λ ps. apply_all (puts qs) (record t { properties = ps })) (set-new q.0 q.1 t.properties (other (has_prop q.0 t.properties) k.0))
    ∙ (puts-new qs (record t { properties = t.properties ++ q ∷ [] }) k.1 ∙ ap (λ ps. Some (record t { properties = ps })) (append_assoc t.properties (q ∷ []) qs))
  where
    other : (b : Bool) → not b ≡ true → b ≡ false
    other true e = cc
    other false e = refl

-- the edits that make a node without children
abbrev pub make_leaf : Bytes → List Property → List Edit
make_leaf name ps = Add [] name ∷ all_under name (puts ps)

pub leaf_made : (name : Bytes) (ps : List Property) (t : Tree) → bytes_eq name [] ≡ false → has_named name t.children ≡ false → are_new [] ps ≡ true
    → apply_all (make_leaf name ps) t ≡ Some (record t { children = with_last t.children name ps none })
leaf_made name ps t some new names = whole name (puts ps) t (leaf name ps) some new (puts-new ps (leaf name []) names)
