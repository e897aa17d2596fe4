-- Changes of one node, one after the other, and changes of a child.
use Rattle.std.proofs.Common.{◌≡◌, ◌∙◌, ◌⊎◌, inl, inr, ap, sym, subst, refl, ℕ, zero, suc, ◌+◌, ◌<◌, List, [], ◌∷◌, ◌++◌, Bool, true, false, cond, Option, Some, None, option_map, length, get_or, append-nil, take, slice_get, arith}
use Rattle.std.specs.Prelude.{bytes_eq, option_and_then, OnOk, Result, Ok, Err}
use Rattle.std.specs.Option.{option_map_or}
use Rattle.std.proofs.lemmas.List.{append_assoc}
use Rattle.std.proofs.Math.ListN.{get_or-append}
use Rattle.fdt_tree.specs.Tree.{Bytes, Property, Trees, none, tree, Tree, Place, at_in, at, count, with_last, first_named, edit_in, edit, add_child, change_properties}
use Rattle.fdt_tree.specs.Document.{Document, place_of, name_of, properties_of, children_of, node_at, children_at, with_child, with_properties, if_there, next_place, IsNumbering}
use Rattle.fdt_tree.specs.PathEdits.{set_property}
use Rattle.fdt_tree.proofs.Links.{length-last, place-new, children_at-there}
use Rattle.tree_parts.specs.Grown.{joined}
use Rattle.tree_parts.proofs.Growing.{joined-none, edit-twice, edit-same, edit-nothing, stands, joined-twice}
use Rattle.overlaid_trees.specs.Merge.{change_named, merged_in, set_all}
use Rattle.indexed_tree.specs.Lookups.{child_place}
use Rattle.overlaid_trees.specs.PrivateGrown.{Changes, merging, merging_all, IsOpened}
use Rattle.fdt_nodes.proofs.Siblings.{siblings_from, first-siblings, node-siblings}

edit_in-there : (f g : Tree → Tree) (ts : Trees) (k : ℕ) (p : Place) (u : Tree) → at_in ts k p ≡ Some u → f u ≡ g u → edit_in f ts k p ≡ edit_in g ts k p
edit_in-there f g none k p u at same = refl
edit_in-there f g (tree n ps cs rest) zero [] u at same =
    let here : record { name = n; properties = ps; children = cs } ≡ u = cc in
    ap (λ (w : Tree). tree w.name w.properties w.children rest) (ap f here ∙ (same ∙ sym (ap g here)))
edit_in-there f g (tree n ps cs rest) zero (j ∷ p) u at same = ap (λ z. tree n ps z rest) (edit_in-there f g cs j p u at same)
edit_in-there f g (tree n ps cs rest) (suc k) p u at same = ap (tree n ps cs) (edit_in-there f g rest k p u at same)

-- edits that do the same to the node that stands there
pub edit-there : (f g : Tree → Tree) (t : Tree) (p : Place) (u : Tree) → at t p ≡ Some u → f u ≡ g u → edit f t p ≡ edit g t p
edit-there f g t [] u at same = let here : t ≡ u = cc in ap f here ∙ (same ∙ sym (ap g here))
edit-there f g t (k ∷ p) u at same = ap (λ z. record t { children = z }) (edit_in-there f g t.children k p u at same)

-- a change of one of the children
abbrev pub on_child : (Tree → Tree) → ℕ → Tree → Tree
on_child change number node = record node { children = edit_in change node.children number [] }

edit_in-below : (f : Tree → Tree) (ts : Trees) (k : ℕ) (p : Place) (i : ℕ) → edit_in f ts k (p ++ i ∷ []) ≡ edit_in (on_child f i) ts k p
edit_in-below f none k p i = refl
edit_in-below f (tree n ps cs rest) zero [] i = refl
edit_in-below f (tree n ps cs rest) zero (j ∷ p) i = ap (λ z. tree n ps z rest) (edit_in-below f cs j p i)
edit_in-below f (tree n ps cs rest) (suc k) p i = ap (tree n ps cs) (edit_in-below f rest k p i)

-- an edit of a child is an edit of the node above it
pub edit-below : (f : Tree → Tree) (t : Tree) (p : Place) (i : ℕ) → edit f t (p ++ i ∷ []) ≡ edit (on_child f i) t p
edit-below f t [] i = refl
edit-below f t (k ∷ p) i = ap (λ z. record t { children = z }) (edit_in-below f t.children k p i)

-- the first child of a name, which is there, is changed in its place
pub change-there : (name : Bytes) (f : Tree → Tree) (ts : Trees) (x : ℕ × Trees) → first_named name ts ≡ Some x → change_named name f ts ≡ edit_in f ts x.0 []
change-there name f none x found = absurd (cc)
change-there name f (tree n ps cs rest) x found = by (λ y is. change-there name f rest y is) (bytes_eq n name) x found
  where
    here : Trees
    here = (let changed = f (record { name = n; properties = ps; children = cs }) in tree changed.name changed.properties changed.children rest)

    Later : Type 0
    Later = (y : ℕ × Trees) → first_named name rest ≡ Some y → change_named name f rest ≡ edit_in f rest y.0 []

    inside : (one other : ℕ × Trees) → Some one ≡ Some other → one ≡ other
    inside one other h = cc

    later : Later → (o : Option (ℕ × Trees)) (x : ℕ × Trees) → first_named name rest ≡ o → option_map {U = ℕ × Trees} (λ found. (suc found.0, found.1)) o ≡ Some x → tree n ps cs (change_named name f rest) ≡ edit_in f (tree n ps cs rest) x.0 []
    later go None x is found = absurd (cc)
    later go (Some y) x is found =
        let next : ℕ × Trees = (suc y.0, y.1) in
        let same : next ≡ x = inside next x found in
        ap (tree n ps cs) (go y is) ∙ ap (λ (z : ℕ × Trees). edit_in f (tree n ps cs rest) z.0 []) same

    by : Later → (b : Bool) (x : ℕ × Trees) → cond b (Some (0, cs)) (option_map {U = ℕ × Trees} (λ found. (suc found.0, found.1)) (first_named name rest)) ≡ Some x → cond b here (tree n ps cs (change_named name f rest)) ≡ edit_in f (tree n ps cs rest) x.0 []
    by go true x found = ap (λ (z : ℕ × Trees). edit_in f (tree n ps cs rest) z.0 []) (inside (0, cs) x found)
    by go false x found = later go (first_named name rest) x refl found

-- a child that is not there is added, and changed
pub change-added : (name : Bytes) (f : Tree → Tree) (ts : Trees) → first_named name ts ≡ None → change_named name f ts ≡ edit_in f (with_last ts name [] none) (count ts) []
change-added name f none missing = refl
change-added name f (tree n ps cs rest) missing = by (change-added name f rest) (bytes_eq n name) missing
  where
    here : Trees
    here = (let changed = f (record { name = n; properties = ps; children = cs }) in tree changed.name changed.properties changed.children rest)

    no : (o : Option (ℕ × Trees)) → option_map {U = ℕ × Trees} (λ found. (suc found.0, found.1)) o ≡ None → o ≡ None
    no None h = refl
    no (Some x) h = absurd (cc)

    by : (first_named name rest ≡ None → change_named name f rest ≡ edit_in f (with_last rest name [] none) (count rest) []) → (b : Bool) → cond b (Some (0, cs)) (option_map {U = ℕ × Trees} (λ found. (suc found.0, found.1)) (first_named name rest)) ≡ None → cond b here (tree n ps cs (change_named name f rest)) ≡ tree n ps cs (edit_in f (with_last rest name [] none) (count rest) [])
    by go true missing = absurd (cc)
    by go false missing = ap (tree n ps cs) (go (no (first_named name rest) missing))

-- the change of a node that one child of an overlay's node makes
abbrev pub merging_child : Bytes → List Property → Trees → Tree → Tree
merging_child name properties children = λ node. record { name = node.name; properties = set_all properties node.properties; children = merged_in children node.children }

-- merging trees, and then others
pub merged-joined : (ts us others : Trees) → merged_in (joined ts us) others ≡ merged_in us (merged_in ts others)
merged-joined none us others = refl
merged-joined (tree n ps cs rest) us others = merged-joined rest us (change_named n (merging_child n ps cs) others)

-- a node that was there keeps its place
pub Changes-place : (d e : Document) (parent : ℕ) (change : Tree → Tree) (node : ℕ) → Changes d e parent change → node < length d.places → place_of e node ≡ place_of d node
Changes-place d e parent change node changes live =
    ap (λ ps. get_or ps node []) changes.places ∙ get_or-append d.places changes.new_places [] node live

-- a change, and then another
pub Changes-then : (d e f : Document) (node : ℕ) (first next : Tree → Tree) → node < length d.places → Changes d e node first → Changes e f node next → Changes d f node (λ u. next (first u))
Changes-then d e f node first next live one two =
    let q = place_of d node in
    record {
      tree = two.tree ∙ (ap (edit next e.tree) (Changes-place d e node first node one live) ∙ (ap (λ (t : Tree). edit next t q) one.tree ∙ edit-twice first next d.tree q));
      new_places = one.new_places ++ two.new_places;
      places = two.places ∙ (ap (λ ps. ps ++ two.new_places) one.places ∙ append_assoc d.places one.new_places two.new_places);
      longer = omega (arith, one.longer, two.longer);
    }

-- a change of the first child of a name is a change of the node above it
pub Changes-child : (d e : Document) (node child : ℕ) (x : ℕ × Trees) (name : Bytes) (change : Tree → Tree) (u : Tree) → at d.tree (place_of d node) ≡ Some u → first_named name u.children ≡ Some x → place_of d child ≡ place_of d node ++ x.0 ∷ [] → Changes d e child change → Changes d e node (λ (w : Tree). record w { children = change_named name change w.children })
Changes-child d e node child x name change u there found is one =
    let q = place_of d node in
    record {
      tree = one.tree ∙ (ap (edit change d.tree) is ∙ (edit-below change d.tree q x.0 ∙ edit-there (on_child change x.0) (λ (w : Tree). record w { children = change_named name change w.children }) d.tree q u there (ap (λ z. record u { children = z }) (sym (change-there name change u.children x found)))));
      new_places = one.new_places;
      places = one.places;
      longer = one.longer;
    }

-- a child that is added, and then changed, is a change of the node above it
pub Changes-added : (d e f : Document) (node child : ℕ) (name : Bytes) (change : Tree → Tree) (u : Tree) → at d.tree (place_of d node) ≡ Some u → first_named name u.children ≡ None → e ≡ with_child d (place_of d node) name → place_of e child ≡ place_of d node ++ count u.children ∷ [] → Changes e f child change → Changes d f node (λ (w : Tree). record w { children = change_named name change w.children })
Changes-added d e f node child name change u there missing made is one =
    let q = place_of d node in
    let k = count u.children in
    let added : e.tree ≡ edit (add_child name []) d.tree q = ap (λ (z : Document). z.tree) made in
    let new : e.places ≡ d.places ++ (q ++ children_at d.tree q ∷ []) ∷ [] = ap (λ (z : Document). z.places) made in
    record {
      tree = one.tree ∙ (ap (edit change e.tree) is ∙ (edit-below change e.tree q k ∙ (ap (λ (t : Tree). edit (on_child change k) t q) added ∙ (edit-twice (add_child name []) (on_child change k) d.tree q ∙ edit-there (λ w. on_child change k (add_child name [] w)) (λ (w : Tree). record w { children = change_named name change w.children }) d.tree q u there (ap (λ z. record u { children = z }) (sym (change-added name change u.children missing)))))));
      new_places = (q ++ children_at d.tree q ∷ []) ∷ one.new_places;
      places = one.places ∙ (ap (λ ps. ps ++ one.new_places) new ∙ append_assoc d.places ((q ++ children_at d.tree q ∷ []) ∷ []) one.new_places);
      longer =
          let count_e : length e.places ≡ suc (length d.places) = ap (λ ps. length ps) new ∙ length-last d.places (q ++ children_at d.tree q ∷ []) in omega (arith, one.longer);
    }

-- properties that are changed
pub Changes-properties : (d e : Document) (node : ℕ) (change : List Property → List Property) → e.tree ≡ edit (change_properties change) d.tree (place_of d node) → e.places ≡ d.places → Changes d e node (change_properties change)
Changes-properties d e node change is same = record {
  tree = is;
  new_places = [];
  places = same ∙ sym (append-nil d.places);
  longer = let count_e : length e.places ≡ length d.places = ap (λ ps. length ps) same in omega arith;
}

-- properties that are set
Changes-set : (d e : Document) (node : ℕ) (properties : List Property) → e ≡ with_properties d (place_of d node) (set_all properties) → Changes d e node (change_properties (set_all properties))
Changes-set d e node properties set =
    Changes-properties d e node (set_all properties) (ap (λ (z : Document). z.tree) set) (ap (λ (z : Document). z.places) set)

-- changes that do the same
pub Changes-same : (d e : Document) (node : ℕ) (f g : Tree → Tree) → ((u : Tree) → f u ≡ g u) → Changes d e node f → Changes d e node g
Changes-same d e node f g h one = record {
  tree = one.tree ∙ edit-same f g h d.tree (place_of d node);
  new_places = one.new_places;
  places = one.places;
  longer = one.longer;
}

-- some trees are merged, and then one more
pub Changes-merging : (d e f : Document) (node : ℕ) (before : Trees) (name : Bytes) (properties : List Property) (children : Trees) → node < length d.places → Changes d e node (merging before) → Changes e f node (λ (w : Tree). record w { children = change_named name (merging_child name properties children) w.children }) → Changes d f node (merging (joined before (tree name properties children none)))
Changes-merging d e f node before name properties children live one two =
    Changes-same d f node (λ u. (λ (w : Tree). record w { children = change_named name (merging_child name properties children) w.children }) (merging before u)) (merging (joined before (tree name properties children none))) (λ u. ap (λ z. record u { children = z }) (sym (merged-joined before (tree name properties children none) u.children))) (Changes-then d e f node (merging before) (λ (w : Tree). record w { children = change_named name (merging_child name properties children) w.children }) live one two)

-- one property more is set
pub set_all-next : (ps : List Property) (i : ℕ) (p : Property) → slice_get ps i ≡ Some p → (qs : List Property) → set_all (take (i + 1) ps) qs ≡ set_property p.0 p.1 (set_all (take i ps) qs)
set_all-next [] i p at qs = absurd (cc)
set_all-next (y ∷ ps) zero p at qs = let same : y ≡ p = cc in ap (λ (z : Property). set_property z.0 z.1 qs) same
set_all-next (y ∷ ps) (suc i) p at qs =
    let more : suc i + 1 ≡ suc (i + 1) = omega arith in
    ap (λ n. set_all (take n (y ∷ ps)) qs) more ∙ set_all-next ps i p at (set_property y.0 y.1 qs)

-- one property more of a node is set at another
pub set-step : (d e f : Document) (node i : ℕ) (ps : List Property) (p : Property) → e ≡ with_properties d (place_of d node) (set_all (take i ps)) → slice_get ps i ≡ Some p → f ≡ with_properties e (place_of e node) (set_property p.0 p.1) → f ≡ with_properties d (place_of d node) (set_all (take (i + 1) ps))
set-step d e f node i ps p before at after =
    let q = place_of d node in
    after ∙ (ap (λ (z : Document). with_properties z (place_of z node) (set_property p.0 p.1)) before ∙ ap (λ (t : Tree). record d { tree = t }) (edit-twice (change_properties (set_all (take i ps))) (change_properties (set_property p.0 p.1)) d.tree q ∙ edit-same (λ u. change_properties (set_property p.0 p.1) (change_properties (set_all (take i ps)) u)) (change_properties (set_all (take (i + 1) ps))) (λ u. ap (λ qs. record u { properties = qs }) (sym (set_all-next ps i p at u.properties))) d.tree q))

-- no property is set
pub set-none : (d : Document) (node : ℕ) (ps : List Property) → d ≡ with_properties d (place_of d node) (set_all (take 0 ps))
set-none d node ps = ap (λ (t : Tree). record d { tree = t }) (sym (edit-same (change_properties (set_all (take 0 ps))) (λ u. u) (λ u. refl) d.tree (place_of d node) ∙ edit-nothing d.tree (place_of d node)))

-- nothing is merged
pub Changes-nothing : (d : Document) (node : ℕ) → Changes d d node (merging none)
Changes-nothing d node = record {
  tree = sym (edit-same (merging none) (λ u. u) (λ u. refl) d.tree (place_of d node) ∙ edit-nothing d.tree (place_of d node));
  new_places = [];
  places = sym (append-nil d.places);
  longer = omega arith;
}

-- a node that was there stays
pub Changes-live : (d e : Document) (parent : ℕ) (change : Tree → Tree) (node : ℕ) → Changes d e parent change → node < length d.places → node < length e.places
Changes-live d e parent change node changes live = omega (arith, changes.longer)

-- the first child of a name, found or added, and then changed, is a change of the node above it
pub Changes-opened : (d e f : Document) (node child : ℕ) (name : Bytes) (change : Tree → Tree) → IsNumbering d → node < length d.places → IsOpened d e node name child → Changes e f child change → Changes d f node (λ (w : Tree). record w { children = change_named name change w.children })
Changes-opened d e f node child name change numbering live opened one = by opened.opened
  where
    u : (v : Tree) × (node_at d node ≡ Some v)
    u = stands d node numbering live

    below : children_of d node ≡ u.0.children
    below = ap (λ (o : Option Tree). option_map_or (λ (v : Tree). v.children) o none) u.1

    place_of_first : (o : Option (ℕ × Trees)) → Some (place_of d child) ≡ option_map (λ (found : ℕ × Trees). place_of d node ++ found.0 ∷ []) o → (x : ℕ × Trees) × (o ≡ Some x) × (place_of d child ≡ place_of d node ++ x.0 ∷ [])
    place_of_first None is = absurd (cc)
    place_of_first (Some x) is = (x, refl, cc)

    no_first : (o : Option (ℕ × Trees)) → None ≡ option_map (λ (found : ℕ × Trees). place_of d node ++ found.0 ∷ []) o → o ≡ None
    no_first None is = refl
    no_first (Some x) is = absurd (cc)

    by : ((e ≡ d) × (Some (place_of d child) ≡ child_place d node name)) ⊎ ((None ≡ child_place d node name) × (e ≡ with_child d (place_of d node) name) × (child ≡ length d.places)) → Changes d f node (λ (w : Tree). record w { children = change_named name change w.children })
    by (inl there) =
        let x = place_of_first (first_named name (children_of d node)) there.1 in
        Changes-child d f node child x.0 name change u.0 u.1 (sym (ap (first_named name) below) ∙ x.1) x.2 (subst (λ (z : Document). Changes z f child change) there.0 one)
    by (inr added) =
        let missing = no_first (first_named name (children_of d node)) added.0 in
        let made = added.1 in
        let q = place_of d node in
        let place : place_of e child ≡ q ++ count u.0.children ∷ [] = ap (λ (z : Document). place_of z child) made ∙ (place-new d q name [] child added.2 ∙ ap (λ k. q ++ k ∷ []) (children_at-there d.tree u.0 q u.1)) in
        Changes-added d e f node child name change u.0 u.1 (sym (ap (first_named name) below) ∙ missing) made place one

-- one child more of an overlay's node is merged: its properties are set, and its children are merged
pub Changes-child-merged : (d e f g : Document) (node child : ℕ) (name : Bytes) (properties : List Property) (content : Trees) → IsNumbering d → node < length d.places → IsOpened d e node name child → f ≡ with_properties e (place_of e child) (set_all properties) → Changes f g child (merging content) → Changes d g node (λ (w : Tree). record w { children = change_named name (merging_child name properties content) w.children })
Changes-child-merged d e f g node child name properties content numbering live opened set below =
    Changes-opened d e g node child name (merging_child name properties content) numbering live opened
    (Changes-then e f g child (change_properties (set_all properties)) (merging content) opened.live (Changes-set e f child properties set) below)

-- a node of an overlay is merged: its properties are set, and its children are merged
pub Changes-merged : (d e f : Document) (node : ℕ) (properties : List Property) (content : Trees) → node < length d.places → e ≡ with_properties d (place_of d node) (set_all properties) → Changes e f node (merging content) → Changes d f node (merging_all properties content)
Changes-merged d e f node properties content live set below =
    Changes-then d e f node (change_properties (set_all properties)) (merging content) live (Changes-set d e node properties set) below

-- the same of what merging the children answers
pub Changes-merged-by : {A E : Type 0} (result : Result A E) (d e f : Document) (node : ℕ) (properties : List Property) (content : Trees) → node < length d.places → e ≡ with_properties d (place_of d node) (set_all properties) → OnOk result (Changes e f node (merging content)) → OnOk result (Changes d f node (merging_all properties content))
Changes-merged-by (Ok done) d e f node properties content live set below = Changes-merged d e f node properties content live set below
Changes-merged-by (Err failed) d e f node properties content live set below = tt

-- what a walk over the children of an overlay's node has done: the children before the next one are merged
pub record IsMerged (source : Document) (node : ℕ) (next : Option ℕ) (old new : Document) (target : ℕ) : Type 0 where
  pub before : Trees
  pub parts : children_of source node ≡ joined before (siblings_from source next)
  pub changes : Changes old new target (merging before)

pub IsMerged-start : (source : Document) (node : ℕ) (next : Option ℕ) (doc : Document) (target : ℕ) → IsNumbering source → node < length source.places → option_map (λ n. place_of source n) next ≡ if_there source (place_of source node ++ 0 ∷ []) → IsMerged source node next doc doc target
IsMerged-start source node next doc target numbering live is = record {
  before = none;
  parts = sym (first-siblings source node next (numbering.stand node live) is);
  changes = Changes-nothing doc target;
}

pub IsMerged-end : (source : Document) (node : ℕ) (next : Option ℕ) (old new : Document) (target : ℕ) → next ≡ None → IsMerged source node next old new target → Changes old new target (merging (children_of source node))
IsMerged-end source node next old new target end merged =
    let all : merged.before ≡ children_of source node = sym (merged.parts ∙ (ap (λ z. joined merged.before (siblings_from source z)) end ∙ joined-none merged.before)) in
    subst (λ (ts : Trees). Changes old new target (merging ts)) all merged.changes

pub IsMerged-next : (source : Document) (node child : ℕ) (here next : Option ℕ) (old now done : Document) (target : ℕ) → IsNumbering source → child < length source.places → target < length old.places → here ≡ Some child → option_map (λ n. place_of source n) next ≡ option_and_then (λ p. if_there source p) (next_place (place_of source child)) → Changes now done target (λ (w : Tree). record w { children = change_named (name_of source child) (merging_child (name_of source child) (properties_of source child) (children_of source child)) w.children }) → IsMerged source node here old now target → IsMerged source node next old done target
IsMerged-next source node child here next old now done target numbering live first_live is following one so_far =
    let n = name_of source child in
    let ps = properties_of source child in
    let cs = children_of source child in
    let single : Trees = tree n ps cs none in
    record {
      before = joined so_far.before single;
      parts = so_far.parts ∙ (ap (λ z. joined so_far.before (siblings_from source z)) is ∙ (ap (joined so_far.before) (node-siblings source child next (numbering.stand child live) following) ∙ sym (joined-twice so_far.before single (siblings_from source next))));
      changes = Changes-merging old now done target so_far.before n ps cs first_live so_far.changes one;
    }
