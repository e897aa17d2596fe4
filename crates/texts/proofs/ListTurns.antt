-- Lists that are made item by item: what was done, and what is left.
use Rattle.std.proofs.Common.{◌≡◌, ◌∙◌, ap, sym, subst, refl, ℕ, zero, suc, ◌<◌, List, [], ◌∷◌, ◌++◌, length, true, false, Bool, append_assoc, arith}
use Rattle.std.specs.Prelude.{map, filter, slice_index_or}
use Rattle.std.specs.List.{All}
use Rattle.std.proofs.lemmas.List.Elements.{All-append}

pub filter-first : {A : Type 0} (p : A → Bool) (x : A) (rest : List A) → filter p (x ∷ rest) ≡ filter p (x ∷ []) ++ filter p rest
filter-first p x rest = by (p x) refl
  where
    by : (b : Bool) → p x ≡ b → filter p (x ∷ rest) ≡ filter p (x ∷ []) ++ filter p rest
    by true is = rw is refl
    by false is = rw is refl

-- one more that passes a test, or not
pub one_filtered : {A B : Type 0} (f : A → B) (p : B → Bool) (done new total : List B) (x : A) (left rest : List A) → left ≡ x ∷ rest → new ≡ done ++ filter p (f x ∷ [])
    → done ++ filter p (map f left) ≡ total → new ++ filter p (map f rest) ≡ total
one_filtered f p done new total x left rest is added so_far =
    ap (λ n. n ++ filter p (map f rest)) added
    ∙ append_assoc done (filter p (f x ∷ [])) (filter p (map f rest)) ∙ ap (λ l. done ++ l) (sym (filter-first p (f x) (map f rest))) ∙ ap (λ l. done ++ filter p (map f l)) (sym is) ∙ so_far

-- one more that a fact holds of
pub all_and : {A : Type 0} (P : A → Type 0) (done new : List A) (x : A) → All P done → P x → new ≡ done ++ x ∷ [] → All P new
all_and {A = A} P done new x all one added =
    let single : All P (x ∷ []) = λ k d low. subst P (sym (only k d low)) one in
    subst (λ (l : List A). All P l) (sym added) (All-append P done (x ∷ []) all single)
  where
    only : (k : ℕ) (d : A) → k < length (x ∷ []) → slice_index_or (x ∷ []) k d ≡ x
    only zero d low = refl
    only (suc k) d low = absurd (omega (arith, low))
