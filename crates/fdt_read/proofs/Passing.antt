-- When a token has no fault.
use Rattle.std.proofs.Common.{◌≡◌, ◌≢◌, ℕ, ◌<◌, Bool, true, false, cond, ◌==◌, Some, None, length, refl, ap, arith}
use Rattle.std.proofs.lemmas.Bool.{ne_eqb, and_right}
use Rattle.fdt_tree.specs.Tree.{Bytes}
use Rattle.fdt_read.specs.declared.fault.FdtFault.TheVariants.{Token as BadToken}
use Rattle.fdt_read.specs.Tokens.{begin_node, end_node, property, nop, end}
use Rattle.fdt_read.specs.Spelling.{is_name}
use Rattle.texts.specs.Rows.{first_that_applies}
use Rattle.fdt_read.specs.Refusals.{rows_at}

pub nop_passes : (l : ℕ) (s past : Bool) (o : ℕ) → first_that_applies (rows_at l s past o nop) ≡ None
nop_passes l true past o = ap (λ b. cond b (Some (BadToken o)) None) (and_right (l == 0) false refl)
nop_passes l false past o = refl

pub root_passes : (l : ℕ) (s past : Bool) (o : ℕ) (m : Bytes) → l ≡ 0 → s ≡ false → first_that_applies (rows_at l s past o (begin_node m)) ≡ None
root_passes l s past o m p q = cc

pub child_passes : (l : ℕ) (s past : Bool) (o : ℕ) (m : Bytes) → 0 < l → l ≢ 32 → s ≡ true → is_name m ≡ true → first_that_applies (rows_at l s past o (begin_node m)) ≡ None
child_passes l true past o m p d q n =
    let a : (l == 0) ≡ false = ne_eqb l 0 (λ e. omega (arith, e, p)) in let b : (l == 32) ≡ false = ne_eqb l 32 d in cc
child_passes l false past o m p d q n = absurd (cc)

pub property_passes : (l : ℕ) (s past : Bool) (o : ℕ) (m v : Bytes) → 0 < l → s ≡ true → past ≡ false → (length m == 0) ≡ false → first_that_applies (rows_at l s past o (property (Some m) v)) ≡ None
property_passes l true past o m v p q r n =
    let a : (l == 0) ≡ false = ne_eqb l 0 (λ e. omega (arith, e, p)) in cc
property_passes l false past o m v p q r n = absurd (cc)

pub end_node_passes : (l : ℕ) (s past : Bool) (o : ℕ) → 0 < l → s ≡ true → first_that_applies (rows_at l s past o end_node) ≡ None
end_node_passes l true past o p q = let a : (l == 0) ≡ false = ne_eqb l 0 (λ e. omega (arith, e, p)) in cc
end_node_passes l false past o p q = absurd (cc)

pub end_passes : (l : ℕ) (s past : Bool) (o : ℕ) → l ≡ 0 → s ≡ true → first_that_applies (rows_at l s past o end) ≡ None
end_passes l s past o p q = cc
