-- A file without a refusal spells a tree.
use Rattle.std.proofs.Common.{◌≡◌, inl, inr, ℕ, zero, suc, ◌+◌, ◌<◌, ◌≤◌, Bool, true, false, cond, List, [], ◌∷◌, ◌++◌, Option, Some, None, map, length, refl, sym, ap, ◌∙◌, subst, append_assoc, arith}
use Rattle.std.proofs.lemmas.Bool.{cases_Bool, ltb-false, leb-true}
use Rattle.std.specs.Prelude.{nat_lt, nat_le, ◌==◌, slice_range}
use Rattle.fdt_tree.specs.Tree.{Bytes, Tree, Place, depth_limit, edit, add_child, change_properties}
use Rattle.fdt_tree.specs.Document.{children_at, parent_place}
use Rattle.fdt_read.specs.declared.fault.FdtFault.{FdtFault}
use Rattle.fdt_read.specs.Header.{word}
use Rattle.fdt_read.specs.Tokens.{Token, begin_node, end_node, property, nop, end, broken, text, padded, name_at, if_within, begin_node_at, property_at, token_of, token_at, is_final, tokens_from}
use Rattle.std.specs.Option.{option_or}
use Rattle.fdt_read.specs.Refusals.{fault_after, first_fault, open_after, has_node, after_child}
use Rattle.fdt_read.specs.Built.{Shape, IsWhole}
use Rattle.fdt_read.proofs.Formed.{put}
use Rattle.fdt_read.proofs.Fine.{fine_child, no_unnamed}
use Rattle.fdt_read.proofs.Counted.{level-nop, level-property, level-end, level-child}
use Rattle.fdt_read.proofs.Steps.{shape-nop, shape-root, root_level, shape-child, shape-property, shape-end, shape-final, closed_property, closed_end, open_node, open_level}

pub or_both : (x y : Option FdtFault) → option_or x y ≡ None → (x ≡ None) × (y ≡ None)
or_both None y e = (refl, e)
or_both (Some f) y e = absurd (cc)

-- A token that is not the last one ends past its beginning, and within the block.
abbrev Onward : ℕ → ℕ → Token × ℕ → Type 0
Onward stop o z = is_final z.0 ≡ false → (o < z.1) × (z.1 ≤ stop)

module _ (b : Bytes) (stop o : ℕ) where
  either : (c : Bool) (x y : Token × ℕ) → (c ≡ true → Onward stop o x) → (c ≡ false → Onward stop o y) → Onward stop o (cond c x y)
  either true x y f g = f refl
  either false x y f g = g refl

  no_token : Onward stop o (broken, o)
  no_token e = absurd (cc)

  within : (t : Token) (n : ℕ) → o < n → Onward stop o (if_within stop o t n)
  within t n h = either (nat_le n stop) (t, n) (broken, o) (λ e _. (h, leb-true n stop e)) (λ _. no_token)

  begin_onward : (name : Option Bytes) → Onward stop o (begin_node_at stop o name)
  begin_onward None = no_token
  begin_onward (Some name) = within (begin_node name) (o + 4 + padded (length name + 1)) (omega arith)

  property_onward : Onward stop o (property_at b stop o)
  property_onward =
      either (nat_lt stop (o + 12)) (broken, o) (if_within stop o (property (name_at b (word b (o + 8))) (slice_range b (o + 12) (o + 12 + word b (o + 4)))) (o + 12 + padded (word b (o + 4)))) (λ _. no_token) (λ _. within (property (name_at b (word b (o + 8))) (slice_range b (o + 12) (o + 12 + word b (o + 4)))) (o + 12 + padded (word b (o + 4))) (omega arith))

  kind_onward : (kind : ℕ) → o + 4 ≤ stop → Onward stop o (token_of kind b stop o)
  kind_onward kind h =
      either (kind == 1) (begin_node_at stop o (text (slice_range b (o + 4) stop))) _ (λ _. begin_onward (text (slice_range b (o + 4) stop))) (λ _. either (kind == 2) (end_node, o + 4) _ (λ _ _. (omega arith, h)) (λ _. either (kind == 3) (property_at b stop o) _ (λ _. property_onward) (λ _. either (kind == 4) (nop, o + 4) _ (λ _ _. (omega arith, h)) (λ _. either (kind == 9) (end, o + 4) (broken, o) (λ _ _. (omega arith, h)) (λ _. no_token)))))

  pub token_onward : Onward stop o (token_at b stop o)
  token_onward =
      either (nat_lt stop (o + 4)) (broken, o) (token_of (word b o) b stop o) (λ _. no_token) (λ e. kind_onward (word b o) (ltb-false stop (o + 4) e))

-- A token without a fault that is not the last one gives a tree again.
step : (done : List Token) (t : Tree) (c : Option Place) (o : ℕ) (x : Token) → Shape done t c → open_after done ≤ depth_limit → fault_after done (o, x) ≡ None → is_final x ≡ false → (u : Tree) × (d : Option Place) × Shape (done ++ x ∷ []) u d × (open_after (done ++ x ∷ []) ≤ depth_limit)
step done t None o (begin_node m) s l e f =
    (t, Some [], shape-root done t o m s e, omega (arith, root_level done t o m s e))
step done t (Some p) o (begin_node m) s l e f =
    let g = fine_child _ _ (after_child done) o m (open_node done t p s) e in (edit (add_child m []) t p, Some (p ++ children_at t p ∷ []), shape-child done t p o m s e l, omega (arith, l, g.1, level-child done m (open_level done t p s)))
step done t None o end_node s l e f = absurd (closed_end done t o s e)
step done t (Some p) o end_node s l e f = (t, parent_place p, shape-end done t p s, omega (arith, l, level-end done))
step done t None o (property n v) s l e f = absurd (closed_property done t o n v s e)
step done t (Some p) o (property None v) s l e f = absurd (no_unnamed (open_after done) (has_node done) (after_child done) o v e)
step done t (Some p) o (property (Some m) v) s l e f =
    (edit (change_properties (put m v)) t p, Some p, shape-property done t p o m v s e, omega (arith, l, level-property done (Some m) v))
step done t c o nop s l e f = (t, c, shape-nop done t c s, omega (arith, l, level-nop done))
step done t c o end s l e f = absurd (cc)
step done t c o broken s l e f = absurd (cc)

-- What is left after a token.
abbrev left : Bytes → ℕ → ℕ → Token × ℕ → List (ℕ × Token)
left b stop turns z = cond (is_final z.0) [] (tokens_from turns b stop z.1)

-- Tokens without a fault, up to the last one, are those of a whole tree.
pub reading : (turns : ℕ) (b : Bytes) (stop o : ℕ) (done : List Token) (t : Tree) (c : Option Place) → Shape done t c → open_after done ≤ depth_limit → o ≤ stop → stop < o + turns → first_fault done (tokens_from turns b stop o) ≡ None → (u : Tree) × IsWhole (done ++ map (λ t. t.1) (tokens_from turns b stop o)) u
reading zero b stop o done t c s l w h e = absurd (omega arith)
reading (suc turns) b stop o done t c s l w h e =
    let z = token_at b stop o in let f = or_both (fault_after done (o, z.0)) (first_fault (done ++ z.0 ∷ []) (left b stop turns z)) e in elim (cases_Bool (is_final z.0)) [ inl g ↦ (t, subst (λ (y : Bool). IsWhole (done ++ z.0 ∷ map (λ t. t.1) (cond y [] (tokens_from turns b stop z.1))) t) (sym g) (shape-final done t c o z.0 s g f.0)) | inr g ↦ let n = token_onward b stop o g in let k = step done t c o z.0 s l f.0 g in let r = reading turns b stop z.1 (done ++ z.0 ∷ []) k.0 k.1 k.2 k.3 n.1 (omega (arith, h, n.0)) (ap (λ y. first_fault (done ++ z.0 ∷ []) (cond y [] (tokens_from turns b stop z.1))) (sym g) ∙ f.1) in (r.0, subst (λ (y : Bool). IsWhole (done ++ z.0 ∷ map (λ t. t.1) (cond y [] (tokens_from turns b stop z.1))) r.0) (sym g) (subst (λ (y : List Token). IsWhole y r.0) (append_assoc done (z.0 ∷ []) (map (λ t. t.1) (tokens_from turns b stop z.1))) r.1)) ]
