-- The tests of two addresses, where both are one.
use Rattle.std.proofs.Common.{◌≡◌, refl, ap, ℕ, ◌+◌, ◌%◌, ◌^◌, [], ◌∷◌, true, false, Bool}
use Rattle.std.specs.Prelude.{◌==◌, ◌||◌, not, nat_lt}
use Rattle.described.specs.Reasons.{is_not_page, is_too_high}

twice : (a b : Bool) → (a || (a || b)) ≡ (a || b)
twice true b = refl
twice false b = refl

pub twice_not_page : (guest size : ℕ) → is_not_page (guest ∷ guest ∷ []) size ≡ is_not_page (guest ∷ []) size
twice_not_page guest size = ap (λ (b : Bool). (b || not (size % 4096 == 0)) || (size == 0)) (twice (not (guest % 4096 == 0)) false)

pub twice_too_high : (guest size : ℕ) → is_too_high (guest ∷ guest ∷ []) size ≡ is_too_high (guest ∷ []) size
twice_too_high guest size = twice (nat_lt (2 ^ 40) (guest + size)) false
