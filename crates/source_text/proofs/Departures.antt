-- Bytes depart from every source at one offset.
use Rattle.std.proofs.Common.{◌≡◌, refl, ap, subst, arith, ℕ, zero, suc, ◌+◌, ◌<◌, ◌≤◌, [], ◌∷◌, ◌++◌, length, take, append_assoc, inl, inr}
use Rattle.std.specs.Prelude.{◌⊎◌}
use Rattle.std.proofs.lemmas.Bool.{cases_order}
use Rattle.fdt_tree.specs.Tree.{Bytes}
use Rattle.source_text.specs.Source.{IsSource, Begins, DepartsAt}

-- a front of what begins a source begins one
begins_front : (text more : Bytes) → Begins (text ++ more) → Begins text
begins_front text more b = (more ++ b.0, b.1, b.2, subst (λ (z : Bytes). IsSource z b.1 b.2) (append_assoc text more b.0) b.3)

front_of : (n m : ℕ) (bytes : Bytes) → n ≤ m → (more : Bytes) × (take m bytes ≡ take n bytes ++ more)
front_of zero m bytes le = (take m bytes, refl)
front_of (suc n) zero bytes le = absurd (omega arith)
front_of (suc n) (suc m) [] le = ([], refl)
front_of (suc n) (suc m) (b ∷ bytes) le = let found = front_of n m bytes (omega arith) in (found.0, ap (λ z. b ∷ z) found.1)

-- bytes that depart do not depart later
not_later : (bytes : Bytes) (n m : ℕ) → DepartsAt bytes n → DepartsAt bytes m → n < m → ⊥
not_later bytes n m one other lt = by one.next other.next
  where
    by : (n ≡ length bytes) ⊎ ((n < length bytes) × (Begins (take (n + 1) bytes) → ⊥)) → (m ≡ length bytes) ⊎ ((m < length bytes) × (Begins (take (m + 1) bytes) → ⊥)) → ⊥
    by (inl end) (inl last) = omega arith
    by (inl end) (inr last) = let below = last.0 in omega (arith, below)
    by (inr stuck) last = let front = front_of (n + 1) m bytes (omega arith) in stuck.1 (begins_front (take (n + 1) bytes) front.0 (subst Begins front.1 other.before))

-- so they depart at one offset
pub departs_once : (bytes : Bytes) (n m : ℕ) → DepartsAt bytes n → DepartsAt bytes m → n ≡ m
departs_once bytes n m one other = elim (cases_order n m) [
  | inl same ↦ same
  | inr apart ↦ elim apart [
    | inl lt ↦ absurd (not_later bytes n m one other lt)
    | inr gt ↦ absurd (not_later bytes m n other one gt)
  ]
]
