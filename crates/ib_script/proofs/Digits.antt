-- A byte as two hexadecimal digits.
use Rattle.std.proofs.Common.{◌≡◌, ℕ, ◌<◌, ◌≤◌, ◌/◌, ◌%◌, ◌==◌, ◌^◌, ◌-◌, false, [], ◌∷◌, refl, arith, inl, inr}
use Rattle.std.specs.Fmt.{digits, digit_glyph, padded_integral, format_spec, char_count}
use Rattle.std.proofs.lemmas.Bool.{cases_lt}
use Rattle.std.proofs.lemmas.Bool.Decides.{nat_tests}
use Rattle.ib_script.specs.Text.{two_digits}

-- a number below 16 has one digit
one_digit : (n : ℕ) → n < 16 → digits 16 false n ≡ digit_glyph false n ∷ []
unfolding digits
one_digit n small = let high : n / 16 ≡ 0 = omega arith in let low : n % 16 ≡ n = omega arith in rw (high, low) refl

-- a number from 16 on and below 256 has two
both_digits : (n : ℕ) → 16 ≤ n → n < 256 → digits 16 false n ≡ two_digits n
unfolding digits
both_digits n large small =
    let high : (n / 16 == 0) ≡ false = grind (arith, nat_tests) in
    let none : n / 16 / 16 ≡ 0 = omega arith in
    let same : n / 16 % 16 ≡ n / 16 = omega arith in
    rw (high, none, same) refl

-- padded with a zero to two digits
pub byte_shown : (n : ℕ) → n < 256 → padded_integral (format_spec 32 0 4 2 (2 ^ 64 - 1)) false [] (digits 16 false n) ≡ two_digits n
unfolding padded_integral char_count
byte_shown n small = elim (cases_lt n 16) [
  | inl one ↦ let high : n / 16 ≡ 0 = omega arith in let low : n % 16 ≡ n = omega arith in rw (one_digit n one, high, low) refl
  | inr two ↦ rw (both_digits n two small) refl
]
