-- What is added to a list, one numbered member after the other.
use Rattle.std.proofs.Common.{◌≡◌, ℕ, ◌+◌, ◌<◌, ◌≤◌, List, ◌∷◌, ◌++◌, length, drop, get_or, sym, ◌∙◌, ap, append_assoc, append-nil}
use Rattle.std.specs.List.{flat_map, enumerate_from}
use Rattle.std.proofs.lemmas.List.{drop_more, drop_all}

-- what f adds of the members from the k-th on
abbrev pub added_from : {A B : Type 0} → (ℕ × A → List B) → List A → ℕ → List B
added_from f xs k = flat_map f (enumerate_from k (drop k xs))

-- what is added of the k-th stands before what is added of the others
pub one_added : {A B : Type 0} (f : ℕ × A → List B) (xs : List A) (k : ℕ) (x : A) (all old new : List B) → k < length xs → get_or xs k x ≡ x
    → all ≡ old ++ added_from f xs k → new ≡ old ++ f (k, x) → all ≡ new ++ added_from f xs (k + 1)
one_added f xs k x all old new within found so_far added =
    let first : drop k xs ≡ x ∷ drop (k + 1) xs = drop_more xs k x within ∙ ap (λ y. y ∷ drop (k + 1) xs) found in
    so_far ∙ rw (first, added) (sym (append_assoc old (f (k, x)) (added_from f xs (k + 1))))

-- at the end all is added
pub all_added : {A B : Type 0} (f : ℕ × A → List B) (xs : List A) (k : ℕ) (all old : List B) → length xs ≤ k → all ≡ old ++ added_from f xs k → old ≡ all
all_added f xs k all old past so_far = sym (so_far ∙ rw (drop_all k xs past) (append-nil old))
