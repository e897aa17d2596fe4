-- An item is sound where it says so without a reason, and what tests that fail say.
use Rattle.std.proofs.Common.{◌≡◌, refl, ℕ, ◌<◌, ◌≤◌, Some, None, true, false, Bool, arith}
use Rattle.std.specs.Prelude.{Option, ◌==◌, ◌||◌, not, nat_lt}
use Rattle.std.proofs.lemmas.Bool.Decides.{nat_tests}
use Rattle.described.specs.declared.item.Item.{Item}
use Rattle.described.specs.declared.item.What.{What}
use Rattle.described.specs.declared.why.Why.{Why}
use Rattle.described.specs.Reasons.{described}
use Rattle.described.specs.Sound.{IsSound, SoundUnless}

-- an item is sound where it says so without a reason
pub sound-item : (item : Item) (own : Option Why) (what : What) (later : Type 0) → (own ≡ None → IsSound what × later)
    → SoundUnless (described item own what).own (described item own what).what later
sound-item item None what later says = says refl
sound-item item (Some why) what later says = tt

-- tests that fail
pub neither : (a b : Bool) → (a || b) ≡ false → (a ≡ false) × (b ≡ false)
neither false b is = (refl, is)
neither true b is = absurd (cc)

pub holds : (a : Bool) → not a ≡ false → a ≡ true
holds true is = refl
holds false is = absurd (cc)

pub to_eq : (a b : ℕ) → (a == b) ≡ true → a ≡ b
to_eq a b is = grind (arith, nat_tests)

pub to_le : (a b : ℕ) → nat_lt a b ≡ false → b ≤ a
to_le a b is = grind (arith, nat_tests)

pub to_some : (a : ℕ) → (a == 0) ≡ false → 0 < a
to_some a is = grind (arith, nat_tests)
