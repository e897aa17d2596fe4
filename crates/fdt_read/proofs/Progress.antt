-- What a reader has built while a node is open, and how each token changes it.
use Rattle.std.proofs.Common.{◌≡◌, ◌≢◌, ◌⊎◌, inl, inr, ℕ, suc, ◌+◌, ◌<◌, ◌==◌, not, Bool, true, false, cond, ◌||◌, List, [], ◌∷◌, ◌++◌, Option, Some, None, option_map, unwrap_or, length, filter, count_by, refl, sym, ap, ◌∙◌, append_assoc, arith, length-append, zero-add}
use Rattle.std.specs.List.{list_any}
use Rattle.std.proofs.lemmas.List.{append-nil}
use Rattle.std.proofs.lemmas.List.Elements.{filter-append}
use Rattle.std.proofs.lemmas.List.Folds.{list_any-append}
use Rattle.std.proofs.lemmas.List.Sums.{sum_by-append}
use Rattle.std.proofs.lemmas.Bool.{true≢false}
use Rattle.fdt_tree.specs.Tree.{Bytes, Property, none, Tree, Place, at, count, depth_limit, edit, add_child, change_properties}
use Rattle.fdt_tree.specs.Document.{children_at}
use Rattle.fdt_tree.specs.PrivateLinks.{summary}
use Rattle.fdt_tree.proofs.Edits.{add_child-Extends, change_properties-Extends, Extends, at-edit_same, at-edit_other, at-new}
use Rattle.fdt_tree.proofs.Links.{children_at-there, length-last, count-with_last}
use Rattle.fdt_read.specs.Tokens.{Token, begin_node, end_node, property, nop}
use Rattle.fdt_read.specs.Spelling.{is_name, counts, root_unnamed, plain}
use Rattle.fdt_read.specs.Refusals.{is_begin, is_end_node, is_property, is_nop, open_after, has_node, after_child, after_child_from}
use Rattle.fdt_read.specs.Built.{opened, InNode}
use Rattle.fdt_read.proofs.Opened.{opened-begin, opened-property, opened-end}
use Rattle.fdt_read.proofs.Formed.{put, formed-begin, formed-property}

pub unnamed_last : (ts : List Token) (y : Token) (ys : List Token) (x : Token) → root_unnamed ts ≡ y ∷ ys → root_unnamed (ts ++ x ∷ []) ≡ root_unnamed ts ++ x ∷ []
unnamed_last [] y ys x e = absurd (cc)
unnamed_last (begin_node n ∷ ts) y ys x e = refl
unnamed_last (t ∷ ts) y ys x e = refl

pub filter_last : (ts : List Token) (x : Token) → counts x ≡ true → filter counts (ts ++ x ∷ []) ≡ filter counts ts ++ x ∷ []
filter_last ts x e = filter-append counts ts (x ∷ []) ∙ ap (λ b. filter counts ts ++ cond b (x ∷ []) []) e

filter_kept : (ts : List Token) (x : Token) → counts x ≡ false → filter counts (ts ++ x ∷ []) ≡ filter counts ts
filter_kept ts x e = filter-append counts ts (x ∷ []) ∙ (ap (λ b. filter counts ts ++ cond b (x ∷ []) []) e ∙ append-nil (filter counts ts))

pub count_last : (p : Token → Bool) (ts : List Token) (x : Token) → count_by p (ts ++ x ∷ []) ≡ count_by p ts + cond (p x) 1 0
count_last p ts x = sum_by-append (λ y. cond (p y) 1 0) ts (x ∷ []) ∙ ap (λ n. count_by p ts + n) (zero-add (cond (p x) 1 0))

pub has_last : (ts : List Token) (x : Token) → has_node ts ≡ true → has_node (ts ++ x ∷ []) ≡ true
has_last ts x e = list_any-append is_begin ts (x ∷ []) ∙ ap (λ b. b || list_any is_begin (x ∷ [])) e

pub plain_last : (ts : List Token) (y : Token) (ys : List Token) (x : Token) → counts x ≡ true → plain ts ≡ y ∷ ys → plain (ts ++ x ∷ []) ≡ plain ts ++ x ∷ []
plain_last ts y ys x c e = ap root_unnamed (filter_last ts x c) ∙ unnamed_last (filter counts ts) y ys x e

pub plain_kept : (ts : List Token) (x : Token) → counts x ≡ false → plain (ts ++ x ∷ []) ≡ plain ts
plain_kept ts x c = ap root_unnamed (filter_kept ts x c)

-- What was read begins with the root.
pub opened_first : (t : Tree) (p : Place) → (ys : List Token) × (opened t p ≡ begin_node t.name ∷ ys)
opened_first t [] = (_, refl)
opened_first t (k ∷ p) = (_, refl)

pub after_child-last : (b : Bool) (ts : List Token) (x : Token) → after_child_from b (ts ++ x ∷ []) ≡ cond (is_property x || is_nop x) (after_child_from b ts) (is_end_node x)
after_child-last b [] x = refl
after_child-last b (t ∷ ts) x = after_child-last (cond (is_property t || is_nop t) b (is_end_node t)) ts x

-- NOP changes nothing.
pub step-nop : (done : List Token) (t : Tree) (p : Place) → InNode done t p → InNode (done ++ nop ∷ []) t p
step-nop done t p i = record {
  read = plain_kept done nop refl ∙ i.read;
  level = omega (arith, i.level, count_last is_begin done nop, count_last is_end_node done nop);
  node = has_last done nop i.node;
  here = i.here;
  fresh = λ e. i.fresh (sym (after_child-last false done nop) ∙ e);
  last = i.last;
  formed = i.formed;
}

pub read_on : (done : List Token) (t : Tree) (p : Place) (x : Token) → InNode done t p → counts x ≡ true → plain (done ++ x ∷ []) ≡ opened t p ++ x ∷ []
read_on done t p x i c =
    let o = opened_first t p in plain_last done (begin_node t.name) o.0 x c (i.read ∙ o.1) ∙ ap (λ z. z ++ x ∷ []) i.read

pub counted : (o : Option Tree) (k : ℕ) → unwrap_or (option_map (λ n. count n.children) o) 0 ≡ suc k → (w : Tree) × (o ≡ Some w) × (count w.children ≡ suc k)
counted None k e = absurd (cc)
counted (Some w) k e = (w, refl, e)

pub by_summary : (o : Option Tree) (w : Tree) → option_map summary o ≡ Some (summary w) → unwrap_or (option_map (λ n. count n.children) o) 0 ≡ count w.children
by_summary None w e = absurd (cc)
by_summary (Some u) w e = let h : summary u ≡ summary w = cc in ap (λ (z : Bytes × (List Property × ℕ)). z.1.1) h

pub same_some : {A : Type 0} (a b : A) → Some a ≡ Some b → a ≡ b
same_some a b e = cc

pub split_last : (p q : Place) (c k : ℕ) (r : Place) → p ++ c ∷ [] ≡ q ++ k ∷ r → (p ≡ q) × (c ≡ k) ⊎ (s : Place) × (p ≡ q ++ k ∷ s)
split_last [] [] c k r e = inl (refl, cc)
split_last [] (x ∷ q) c k r e = absurd (omega (arith, ap length e, length-append q (k ∷ r)))
split_last (y ∷ p) [] c k r e = inr (p, cc)
split_last (y ∷ p) (x ∷ q) c k r e =
    let h : y ≡ x = cc in let t : p ++ c ∷ [] ≡ q ++ k ∷ r = cc in onward h (split_last p q c k r t)
  where
    onward : y ≡ x → (p ≡ q) × (c ≡ k) ⊎ (s : Place) × (p ≡ q ++ k ∷ s) → (y ∷ p ≡ x ∷ q) × (c ≡ k) ⊎ (s : Place) × (y ∷ p ≡ (x ∷ q) ++ k ∷ s)
    onward h (inl g) = inl (cc, g.1)
    onward h (inr g) = inr (g.0, ap (λ z. z ∷ p) h ∙ ap (λ z. x ∷ z) g.1)

-- The number of children of a node that is there stays, but for the node that is changed.
pub count_kept : (f : Tree → Tree) → Extends f → (t : Tree) (p q : Place) (k : ℕ) → p ≢ q → children_at t q ≡ suc k → children_at (edit f t p) q ≡ suc k
count_kept f x t p q k ne e =
    let w = counted (at t q) k e in by_summary (at (edit f t p) q) w.0 (at-edit_other f x t p q w.0 ne w.1) ∙ w.2

longer : (p q : Place) (k : ℕ) (r : Place) → p ≡ q ++ k ∷ r → p ≢ q
longer p q k r e f = absurd (omega (arith, ap length e, ap length f, length-append q (k ∷ r)))

-- BEGIN_NODE opens a last child.
pub step-begin : (done : List Token) (t : Tree) (p : Place) (m : Bytes) (u : Tree) → InNode done t p → at t p ≡ Some u → is_name m ≡ true → open_after done < depth_limit → InNode (done ++ begin_node m ∷ []) (edit (add_child m []) t p) (p ++ count u.children ∷ [])
step-begin done t p m u i e h d = record {
  read = read_on done t p (begin_node m) i refl ∙ sym (opened-begin m t p u e);
  level = omega (arith, i.level, count_last is_begin done (begin_node m), count_last is_end_node done (begin_node m), length-last p (count u.children));
  node = has_last done (begin_node m) i.node;
  here = (_, at-new m [] t p u e);
  fresh = λ _ v g. ap (λ (z : Tree). z.children) (sym (same_some _ v (sym (at-new m [] t p u e) ∙ g)));
  last = λ q k r g. begun_last_at q k r (split_last p q (count u.children) k r g);
  formed = formed-begin m h t p (omega (arith, i.level, d)) i.formed;
}
  where
    begun_last_at : (q : Place) (k : ℕ) (r : Place) → (p ≡ q) × (count u.children ≡ k) ⊎ (s : Place) × (p ≡ q ++ k ∷ s) → children_at (edit (add_child m []) t p) q ≡ suc k
    begun_last_at q k r (inl g) =
        ap (children_at (edit (add_child m []) t p)) (sym g.0) ∙ (children_at-there (edit (add_child m []) t p) (add_child m [] u) p (at-edit_same (add_child m []) t p ∙ ap (option_map (add_child m [])) e) ∙ (count-with_last u.children m [] none ∙ ap suc g.1))
    begun_last_at q k r (inr g) = count_kept (add_child m []) (add_child-Extends m []) t p q k (longer p q k g.0 g.1) (i.last q k g.0 g.1)

-- PROP adds a last property, while no child has come.
pub step-property : (done : List Token) (t : Tree) (p : Place) (m v : Bytes) → InNode done t p → after_child done ≡ false → not (length m == 0) ≡ true → InNode (done ++ property (Some m) v ∷ []) (edit (change_properties (put m v)) t p) p
step-property done t p m v i a n = record {
  read = read_on done t p (property (Some m) v) i refl ∙ sym (opened-property m v t p i.here.0 i.here.1 (i.fresh a i.here.0 i.here.1));
  level = omega (arith, i.level, count_last is_begin done (property (Some m) v), count_last is_end_node done (property (Some m) v));
  node = has_last done (property (Some m) v) i.node;
  here = (_, at-edit_same (change_properties (put m v)) t p ∙ ap (option_map (change_properties (put m v))) i.here.1);
  fresh = λ h w g. ap (λ (z : Tree). z.children) (sym (same_some (change_properties (put m v) i.here.0) w (sym (at-edit_same (change_properties (put m v)) t p ∙ ap (option_map (change_properties (put m v))) i.here.1) ∙ g))) ∙ i.fresh a i.here.0 i.here.1;
  last = λ q k r g. count_kept (change_properties (put m v)) (change_properties-Extends (put m v)) t p q k (longer p q k r g) (i.last q k r g);
  formed = formed-property m v n t p i.formed;
}

-- END_NODE closes a node and leaves its parent open.
pub step-end : (done : List Token) (t : Tree) (q : Place) (k : ℕ) → InNode done t (q ++ k ∷ []) → InNode (done ++ end_node ∷ []) t q
step-end done t q k i =
    let w = counted (at t q) k (i.last q k [] refl) in record {
      read = read_on done t (q ++ k ∷ []) end_node i refl ∙ opened-end t q w.0 k w.1 w.2;
      level = omega (arith, i.level, count_last is_begin done end_node, count_last is_end_node done end_node, length-last q k);
      node = has_last done end_node i.node;
      here = (w.0, w.1);
      fresh = λ e. absurd (true≢false (sym (after_child-last false done end_node) ∙ e));
      last = λ p j r g. i.last p j (r ++ k ∷ []) (ap (λ z. z ++ k ∷ []) g ∙ append_assoc p (j ∷ r) (k ∷ []));
      formed = i.formed;
    }
