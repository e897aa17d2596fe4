-- Lists of which one item is changed, and that grow at the end.
use Rattle.std.proofs.Common.{◌≡◌, ◌∙◌, ap, sym, refl, ℕ, zero, suc, ◌+◌, ◌-◌, ◌<◌, List, [], ◌∷◌, ◌++◌, Some, length, get_or, set, take, slice_get, map, arith}
use Rattle.fdt_tree.specs.PrivateLinks.{modified}
use Rattle.fdt_tree.proofs.Lists.{length-last, length-modified, read-there, get-append_old}

pub set-append : {A : Type 0} (xs : List A) (e m : A) (p : ℕ) → p < length xs → set (xs ++ e ∷ []) p m ≡ modified (λ _. m) p xs ++ e ∷ []
set-append [] e m p within = absurd (omega arith)
set-append (x ∷ xs) e m zero within = refl
set-append (x ∷ xs) e m (suc p) within = ap (λ z. x ∷ z) (set-append xs e m p (omega arith))

-- what is read where the list was longer
pub read-before : {A : Type 0} (xs : List A) (e x : A) (p : ℕ) → p < length xs → x ≡ get_or (xs ++ e ∷ []) p x → slice_get xs p ≡ Some x
read-before xs e x p within here =
    let long : p < length (xs ++ e ∷ []) = omega (arith, within, length-last xs e) in
    sym (get-append_old xs e p within) ∙ read-there (xs ++ e ∷ []) p x long here

-- all but the last item
pub all-but-last : {A : Type 0} (xs : List A) (e : A) (n : ℕ) → n ≡ length xs + 1 → take (n - 1) (xs ++ e ∷ []) ≡ xs
all-but-last {A = A} xs e n long = let less : n - 1 ≡ length xs = omega (arith, long) in ap (λ k. take k (xs ++ e ∷ [])) less ∙ front xs
  where
    front : (ys : List A) → take (length ys) (ys ++ e ∷ []) ≡ ys
    front [] = refl
    front (y ∷ ys) = ap (λ z. y ∷ z) (front ys)

pub length-changed : {A : Type 0} (m : A) (p : ℕ) (xs : List A) → length (modified (λ _. m) p xs) ≡ length xs
length-changed m p xs = length-modified (λ _. m) xs p

-- what is read of a changed list is so where no change is seen
pub map-kept : {A B : Type 0} (f : A → B) (xs : List A) (p : ℕ) (x y : A) → slice_get xs p ≡ Some x → f y ≡ f x → map f (modified (λ _. y) p xs) ≡ map f xs
map-kept f [] p x y here same = refl
map-kept f (z ∷ xs) zero x y here same = let one : z ≡ x = cc in ap (λ w. w ∷ map f xs) (same ∙ ap f (sym one))
map-kept f (z ∷ xs) (suc p) x y here same = ap (λ ws. f z ∷ ws) (map-kept f xs p x y here same)
