-- How each token without a fault changes what the tokens so far have given.
use Rattle.std.proofs.Common.{◌≡◌, ◌⊎◌, inl, inr, ℕ, ◌<◌, ◌≤◌, lit≤, true, List, [], ◌∷◌, ◌++◌, Option, Some, None, length, length-append, refl, sym, ap, ◌∙◌, subst, append_assoc, arith, count_by}
use Rattle.fdt_tree.specs.Tree.{Bytes, Tree, Place, depth_limit, edit, add_child, change_properties}
use Rattle.fdt_tree.specs.Document.{empty, parent_place, children_at}
use Rattle.fdt_tree.proofs.Links.{children_at-there, parent_place-last}
use Rattle.fdt_read.specs.Tokens.{Token, begin_node, end_node, property, nop, end, broken, is_final}
use Rattle.fdt_read.specs.Spelling.{root_unnamed, plain, spelled_properties, spelled, spelled_whole}
use Rattle.fdt_read.specs.Refusals.{open_after, has_node, after_child, fault_after, is_begin, is_end_node}
use Rattle.fdt_read.specs.Built.{opened, InNode, IsFormed, Shape, before, inside, whole, IsWhole}
use Rattle.fdt_read.proofs.Formed.{put}
use Rattle.fdt_read.proofs.Fine.{fine_child, fine_property, fine_end, no_second_root, no_property, no_end_node}
use Rattle.fdt_read.proofs.Counted.{level-nop, level-root, level-end, node-begin, node-nop}
use Rattle.fdt_read.proofs.Progress.{same_some, step-nop, step-begin, step-property, step-end, read_on, filter_last, has_last, count_last, plain_last, plain_kept}

pub open_node : (done : List Token) (t : Tree) (p : Place) → Shape done t (Some p) → has_node done ≡ true
open_node done t p (inside q i) = i.node

pub open_level : (done : List Token) (t : Tree) (p : Place) → Shape done t (Some p) → 0 < open_after done
open_level done t p (inside q i) = omega (arith, i.level)

-- NOP changes nothing.
pub shape-nop : (done : List Token) (t : Tree) (c : Option Place) → Shape done t c → Shape (done ++ nop ∷ []) t c
shape-nop done t c (before pe hn bn en te) =
    before (plain_kept done nop refl ∙ pe) (sym (node-nop done) ∙ hn) (omega (arith, bn, count_last is_begin done nop)) (omega (arith, en, count_last is_end_node done nop)) te
shape-nop done t c (inside p i) = inside p (step-nop done t p i)
shape-nop done t c (whole pe hn oa f) =
    whole (plain_kept done nop refl ∙ pe) (has_last done nop hn) (sym (level-nop done) ∙ oa) f

no_tokens : (ts : List Token) → root_unnamed ts ≡ [] → ts ≡ []
no_tokens [] e = refl
no_tokens (begin_node n ∷ ts) e = absurd (cc)
no_tokens (t ∷ ts) e = e

pub no_split : (q : Place) (k : ℕ) (r : Place) → [] ≡ q ++ k ∷ r → ⊥
no_split q k r e = omega (arith, ap length e, length-append q (k ∷ r))

root_in : (done : List Token) (t : Tree) (m : Bytes) → plain done ≡ [] → count_by is_begin done ≡ 0 → count_by is_end_node done ≡ 0 → t ≡ empty.tree → InNode (done ++ begin_node m ∷ []) t []
root_in done t m pe bn en te = record {
  read = ap root_unnamed (filter_last done (begin_node m) refl ∙ ap (λ z. z ++ begin_node m ∷ []) (no_tokens _ pe)) ∙ ap (λ (z : Tree). opened z []) (sym te);
  level = sym (level-root done m bn en);
  node = sym (node-begin done m);
  here = (t, refl);
  fresh = λ e u g. let h : t ≡ u = same_some _ _ g in ap (λ (z : Tree). z.children) (sym h) ∙ ap (λ (z : Tree). z.children) te;
  last = λ q k s g. absurd (no_split q k s g);
  formed = subst IsFormed (sym te) (record { unnamed = refl; names = refl; depth = lit≤ tt });
}

-- The first BEGIN_NODE opens the root.
pub shape-root : (done : List Token) (t : Tree) (o : ℕ) (m : Bytes) → Shape done t None → fault_after done (o, begin_node m) ≡ None → Shape (done ++ begin_node m ∷ []) t (Some [])
shape-root done t o m (before pe hn bn en te) e = inside [] (root_in done t m pe bn en te)
shape-root done t o m (whole pe hn oa f) e = absurd (no_second_root _ _ (after_child done) o m oa hn e)

pub root_level : (done : List Token) (t : Tree) (o : ℕ) (m : Bytes) → Shape done t None → fault_after done (o, begin_node m) ≡ None → 1 ≡ open_after (done ++ begin_node m ∷ [])
root_level done t o m (before pe hn bn en te) e = level-root done m bn en
root_level done t o m (whole pe hn oa f) e = absurd (no_second_root _ _ (after_child done) o m oa hn e)

-- Any other BEGIN_NODE opens a new last child.
pub shape-child : (done : List Token) (t : Tree) (p : Place) (o : ℕ) (m : Bytes) → Shape done t (Some p) → fault_after done (o, begin_node m) ≡ None → open_after done ≤ depth_limit → Shape (done ++ begin_node m ∷ []) (edit (add_child m []) t p) (Some (p ++ children_at t p ∷ []))
shape-child done t p o m (inside q i) e s =
    let f = fine_child _ _ (after_child done) o m i.node e in inside (p ++ children_at t p ∷ []) (subst (λ (z : ℕ). InNode (done ++ begin_node m ∷ []) (edit (add_child m []) t p) (p ++ z ∷ [])) (sym (children_at-there t i.here.0 p i.here.1)) (step-begin done t p m i.here.0 i i.here.1 f.0 (omega (arith, s, f.1))))

-- PROP gives the open node a last property.
pub shape-property : (done : List Token) (t : Tree) (p : Place) (o : ℕ) (m v : Bytes) → Shape done t (Some p) → fault_after done (o, property (Some m) v) ≡ None → Shape (done ++ property (Some m) v ∷ []) (edit (change_properties (put m v)) t p) (Some p)
shape-property done t p o m v (inside q i) e =
    let f = fine_property _ _ _ o m v i.node e in inside p (step-property done t p m v i f.0 f.1)

at_end : (p : Place) → (p ≡ []) ⊎ (q : Place) × (k : ℕ) × (p ≡ q ++ k ∷ [])
at_end [] = inl refl
at_end (j ∷ p) = onward (at_end p)
  where
    onward : (p ≡ []) ⊎ (q : Place) × (k : ℕ) × (p ≡ q ++ k ∷ []) → (j ∷ p ≡ []) ⊎ (q : Place) × (k : ℕ) × (j ∷ p ≡ q ++ k ∷ [])
    onward (inl e) = inr ([], j, ap (λ z. j ∷ z) e)
    onward (inr g) = inr (j ∷ g.0, g.1, ap (λ z. j ∷ z) g.2)

closed_at : (done : List Token) (t : Tree) (p : Place) → InNode done t p → (p ≡ []) ⊎ (q : Place) × (k : ℕ) × (p ≡ q ++ k ∷ []) → Shape (done ++ end_node ∷ []) t (parent_place p)
closed_at done t p i (inl g) =
    let j : InNode done t [] = subst (InNode done t) g i in subst (λ (z : Place). Shape (done ++ end_node ∷ []) t (parent_place z)) (sym g) (whole (read_on done t [] end_node j refl) (has_last done end_node j.node) (sym (level-end done) ∙ omega (arith, j.level)) j.formed)
closed_at done t p i (inr g) =
    let j : InNode done t (g.0 ++ g.1 ∷ []) = subst (InNode done t) g.2 i in subst (λ (z : Option Place). Shape (done ++ end_node ∷ []) t z) (sym (ap parent_place g.2 ∙ parent_place-last g.0 g.1)) (inside g.0 (step-end done t g.0 g.1 j))

-- END_NODE closes the open node, and the node above it is open, if there is one.
pub shape-end : (done : List Token) (t : Tree) (p : Place) → Shape done t (Some p) → Shape (done ++ end_node ∷ []) t (parent_place p)
shape-end done t p (inside q i) = closed_at done t p i (at_end p)

closed_level : (done : List Token) (t : Tree) → Shape done t None → open_after done ≡ 0
closed_level done t (before pe hn bn en te) = omega (arith, bn, en)
closed_level done t (whole pe hn oa f) = oa

-- While no node is open, neither PROP nor END_NODE may stand.
pub closed_property : (done : List Token) (t : Tree) (o : ℕ) (n : Option Bytes) (v : Bytes) → Shape done t None → fault_after done (o, property n v) ≡ None → ⊥
closed_property done t o n v s e = no_property _ _ _ o n v (closed_level done t s) e

pub closed_end : (done : List Token) (t : Tree) (o : ℕ) → Shape done t None → fault_after done (o, end_node) ≡ None → ⊥
closed_end done t o s e = no_end_node _ _ (after_child done) o (closed_level done t s) e

whole_end : (t : Tree) → (opened t [] ++ end_node ∷ []) ++ end ∷ [] ≡ spelled_whole t
whole_end t =
    append_assoc (opened t []) (end_node ∷ []) (end ∷ []) ∙ ap (λ z. begin_node t.name ∷ z) (append_assoc (spelled_properties t.properties) (spelled t.children) (end_node ∷ end ∷ []))

whole_at : (done : List Token) (t : Tree) (c : Option Place) → Shape done t c → open_after done ≡ 0 → has_node done ≡ true → IsWhole (done ++ end ∷ []) t
whole_at done t c (before pe hn bn en te) l s = absurd (cc)
whole_at done t c (inside p i) l s = absurd (omega (arith, i.level, l))
whole_at done t c (whole pe hn oa f) l s = record {
  spelled = plain_last done (begin_node t.name) _ end refl pe ∙ (ap (λ z. z ++ end ∷ []) pe ∙ whole_end t);
  formed = f;
}

-- The last token without a fault is END, and a whole tree was read.
pub shape-final : (done : List Token) (t : Tree) (c : Option Place) (o : ℕ) (x : Token) → Shape done t c → is_final x ≡ true → fault_after done (o, x) ≡ None → IsWhole (done ++ x ∷ []) t
shape-final done t c o end s f e = let g = fine_end _ _ (after_child done) o e in whole_at done t c s g.0 g.1
shape-final done t c o broken s f e = absurd (cc)
shape-final done t c o (begin_node n) s f e = absurd (cc)
shape-final done t c o end_node s f e = absurd (cc)
shape-final done t c o (property n v) s f e = absurd (cc)
shape-final done t c o nop s f e = absurd (cc)
