-- What is known of a token that has no fault.
use Rattle.std.proofs.Common.{◌≡◌, ◌≢◌, ℕ, zero, suc, Bool, true, false, cond, not, ◌==◌, Option, Some, None, length, ap, subst, arith, refl}
use Rattle.std.proofs.lemmas.Bool.{eqb-false, not-false, lt-ltb}
use Rattle.fdt_tree.specs.Tree.{Bytes}
use Rattle.fdt_read.specs.declared.fault.FdtFault.{FdtFault}
use Rattle.fdt_read.specs.declared.fault.FdtFault.TheVariants.{Token as BadToken, Name, Order}
use Rattle.fdt_read.specs.Tokens.{begin_node, end_node, property, end}
use Rattle.fdt_read.specs.Spelling.{is_name}
use Rattle.texts.specs.Rows.{first_that_applies}
use Rattle.fdt_read.specs.Refusals.{is_misplaced, is_misnamed, rows_at}

row_fine : (a : Bool) (f : FdtFault) (o : Option FdtFault) → cond a (Some f) o ≡ None → (a ≡ false) × (o ≡ None)
row_fine true f o e = absurd (cc)
row_fine false f o e = (refl, e)

-- A BEGIN_NODE after the root's has a name, and is not too deep.
pub fine_child : (l : ℕ) (s past : Bool) (o : ℕ) (m : Bytes) → s ≡ true → first_that_applies (rows_at l s past o (begin_node m)) ≡ None → (is_name m ≡ true) × (l ≢ 32)
fine_child l true past o m h e =
    let a = row_fine _ _ _ e in let b = row_fine _ _ _ a.1 in let d = row_fine _ _ _ b.1 in (not-false (is_name m) b.0, eqb-false l 32 d.0)
fine_child l false past o m h e = absurd (cc)

-- A PROP inside a tree stands before all children, and its name is not empty.
pub fine_property : (l : ℕ) (s past : Bool) (o : ℕ) (m v : Bytes) → s ≡ true → first_that_applies (rows_at l s past o (property (Some m) v)) ≡ None → (past ≡ false) × (not (length m == 0) ≡ true)
fine_property l true past o m v h e =
    let a = row_fine (is_misplaced l true (property (Some m) v)) (BadToken o) (cond (is_misnamed true (property (Some m) v)) (Some (Name o)) (cond past (Some (Order o)) None)) e in let b = row_fine (is_misnamed true (property (Some m) v)) (Name o) (cond past (Some (Order o)) None) a.1 in ((row_fine past (Order o) None b.1).0, ap not b.0)
fine_property l false past o m v h e = absurd (cc)

-- END stands after a node, and no node is open.
pub fine_end : (l : ℕ) (s past : Bool) (o : ℕ) → first_that_applies (rows_at l s past o end) ≡ None → (l ≡ 0) × (s ≡ true)
fine_end zero true past o e = (refl, refl)
fine_end zero false past o e = absurd (cc)
fine_end (suc l) s past o e = absurd (cc (lt-ltb 0 (suc l) (omega arith)))

-- No node begins after the root.
pub no_second_root : (l : ℕ) (s past : Bool) (o : ℕ) (m : Bytes) → l ≡ 0 → s ≡ true → first_that_applies (rows_at l s past o (begin_node m)) ≡ None → ⊥
no_second_root l s past o m p q e =
    refuted (subst (λ z. first_that_applies (rows_at z true past o (begin_node m)) ≡ None) p (subst (λ z. first_that_applies (rows_at l z past o (begin_node m)) ≡ None) q e))
  where
    refuted : first_that_applies (rows_at 0 true past o (begin_node m)) ≡ None → ⊥
    refuted w = cc

-- No PROP stands before the root or after it.
pub no_property : (l : ℕ) (s past : Bool) (o : ℕ) (n : Option Bytes) (v : Bytes) → l ≡ 0 → first_that_applies (rows_at l s past o (property n v)) ≡ None → ⊥
no_property l s past o n v p e = refuted s (subst (λ z. first_that_applies (rows_at z s past o (property n v)) ≡ None) p e)
  where
    refuted : (s : Bool) → first_that_applies (rows_at 0 s past o (property n v)) ≡ None → ⊥
    refuted true w = cc
    refuted false w = cc

-- A PROP has a name.
pub no_unnamed : (l : ℕ) (s past : Bool) (o : ℕ) (v : Bytes) → first_that_applies (rows_at l s past o (property None v)) ≡ None → ⊥
no_unnamed l s past o v e = refuted (is_misplaced l s (property None v)) e
  where
    refuted : (b : Bool) → cond b (Some (BadToken o)) (Some (Name o)) ≡ None → ⊥
    refuted true w = cc
    refuted false w = cc

-- No END_NODE stands before the root or after it.
pub no_end_node : (l : ℕ) (s past : Bool) (o : ℕ) → l ≡ 0 → first_that_applies (rows_at l s past o end_node) ≡ None → ⊥
no_end_node l s past o p e = refuted s (subst (λ z. first_that_applies (rows_at z s past o end_node) ≡ None) p e)
  where
    refuted : (s : Bool) → first_that_applies (rows_at 0 s past o end_node) ≡ None → ⊥
    refuted true w = cc
    refuted false w = cc
