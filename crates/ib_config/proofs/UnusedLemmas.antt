-- The keys one after the other, and those that are not tested.
use Rattle.std.proofs.Common.{◌≡◌, ℕ, zero, suc, ◌+◌, ◌≤◌, Bool, true, false, not, List, [], ◌∷◌, ◌++◌, length, map, filter, drop, refl, sym, ◌∙◌, arith, Some, slice_get, append_assoc, append-nil, add-one}

drop_at : {A : Type 0} (xs : List A) (i : ℕ) (x : A) → slice_get xs i ≡ Some x → drop i xs ≡ x ∷ drop (suc i) xs
drop_at [] i x there = absurd (cc)
drop_at (y ∷ ys) zero x there = let same : y ≡ x = cc in rw same refl
drop_at (y ∷ ys) (suc i) x there = drop_at ys i x there

past : {A : Type 0} (xs : List A) (i : ℕ) → length xs ≤ i → drop i xs ≡ []
past [] zero h = refl
past [] (suc i) h = refl
past (x ∷ xs) zero h = absurd (omega arith)
past (x ∷ xs) (suc i) h = past xs i (omega arith)

module _ {K N : Type 0} (test : K → Bool) (show : K → N) (keys : List K) (all : List N) where
  pub names_start : (read : List N) → read ≡ [] → all ≡ map show (filter (λ k. not (test k)) keys) → all ≡ read ++ map show (filter (λ k. not (test k)) (drop 0 keys))
  names_start read none same = rw none same

  pub names_skip : (i : ℕ) (read : List N) (k : K) → slice_get keys i ≡ Some k → test k ≡ true → all ≡ read ++ map show (filter (λ k. not (test k)) (drop i keys))
      → all ≡ read ++ map show (filter (λ k. not (test k)) (drop (i + 1) keys))
  names_skip i read k there tested same = same ∙ rw (add-one, drop_at keys i k there, tested) refl

  pub names_add : (i : ℕ) (read new : List N) (k : K) → slice_get keys i ≡ Some k → test k ≡ false → new ≡ read ++ show k ∷ [] → all ≡ read ++ map show (filter (λ k. not (test k)) (drop i keys))
      → all ≡ new ++ map show (filter (λ k. not (test k)) (drop (i + 1) keys))
  names_add i read new k there untested new_is same = same ∙ rw (add-one, drop_at keys i k there, untested, new_is) (sym (append_assoc read (show k ∷ []) _))

  pub names_end : (i : ℕ) (read : List N) → length keys ≤ i → all ≡ read ++ map show (filter (λ k. not (test k)) (drop i keys)) → read ≡ all
  names_end i read h same = sym (same ∙ rw (past keys i h) (append-nil read))
