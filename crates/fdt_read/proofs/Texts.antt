-- What stands before the first NUL has none.
use Rattle.std.proofs.Common.{◌≡◌, ℕ, suc, ◌+◌, arith, Bool, true, false, cond, not, ◌==◌, nat_lt, List, [], ◌∷◌, Some, None, length, take, refl, sym, ap, ◌∙◌}
use Rattle.std.proofs.lemmas.Bool.{and_from}
use Rattle.std.specs.List.{list_all, position, position_or_len, prefix_len}
use Rattle.fdt_tree.specs.Tree.{Bytes}
use Rattle.fdt_read.specs.Built.{has_no_nul}

pub prefix_passes : (p : ℕ → Bool) (xs : List ℕ) → list_all p (take (prefix_len p xs) xs) ≡ true
prefix_passes p [] = refl
prefix_passes p (x ∷ xs) = at_head (prefix_passes p xs) (p x) refl
  where
    at_head : list_all p (take (prefix_len p xs) xs) ≡ true → (b : Bool) → p x ≡ b → list_all p (take (prefix_len p (x ∷ xs)) (x ∷ xs)) ≡ true
    at_head h true e =
        let n = prefix_len p xs in let s : 1 + n ≡ suc n = omega arith in ap (λ b. list_all p (take (cond b (1 + n) 0) (x ∷ xs))) e ∙ (ap (λ m. list_all p (take m (x ∷ xs))) s ∙ and_from (p x) (list_all p (take n xs)) e h)
    at_head h false e = ap (λ b. list_all p (take (cond b (1 + prefix_len p xs) 0) (x ∷ xs))) e

found_at : (b : Bool) (n m : ℕ) → cond b (Some m) None ≡ Some n → m ≡ n
found_at true n m e = cc
found_at false n m e = absurd (cc)

pub no_nul-before : (xs : Bytes) (n : ℕ) → position (λ c. c == 0) xs ≡ Some n → has_no_nul (take n xs) ≡ true
no_nul-before xs n e =
    ap (λ m. has_no_nul (take m xs)) (sym (found_at (nat_lt (position_or_len (λ c. c == 0) xs) (length xs)) n (position_or_len (λ c. c == 0) xs) e)) ∙ prefix_passes (λ c. not (c == 0)) xs
