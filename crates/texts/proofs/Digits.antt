-- Digits, as std's parser of numbers sees them.
use Rattle.std.proofs.Common.{◌≡◌, ℕ, ◌≤◌, ◌<◌, ◌^◌, true, List, [], ◌∷◌, length, refl, arith, inl, inr, Err}
use Rattle.std.specs.Prelude.{nat_lt}
use Rattle.std.specs.List.{list_all}
use Rattle.std.specs.Char.{digit_value}
use Rattle.std.specs.Str.{IsUtf8, IsCharBoundary}
use Rattle.std.specs.Str.Parse.{AllDigits, IsNumeral, digits_value, without_leading_plus}
use Rattle.std.proofs.lemmas.Bool.{and_parts, cases_Bool}
use Rattle.std.proofs.lemmas.Bool.Decides.{nat_tests}
use Rattle.std.proofs.lemmas.Str.{IsCharBoundary-after_ascii}
use Rattle.texts.specs.NumberTexts.{is_hexadecimal, number_in}
use Rattle.texts.specs.declared.number.NumberFault.TheVariants.{TooBig}

all-digits : (base : ℕ) (digits : List ℕ) → list_all (λ digit. nat_lt (digit_value digit) base) digits ≡ true → AllDigits base digits
all-digits base [] all = tt
all-digits base (digit ∷ digits) all =
    let parts = and_parts (nat_lt (digit_value digit) base) (list_all (λ d. nat_lt (digit_value d) base) digits) all in
    let here : digit_value digit < base = grind (arith, nat_tests, parts.0) in
    (here, all-digits base digits parts.1)

-- a plus is no digit
pub no-plus : (base : ℕ) (digits : List ℕ) → base ≤ 16 → list_all (λ digit. nat_lt (digit_value digit) base) digits ≡ true → without_leading_plus digits ≡ digits
no-plus base [] high all = refl
no-plus base (digit ∷ digits) high all = grind (arith, nat_tests)

-- digits that std refuses are too many
pub too-big : (base : ℕ) (digits : List ℕ) → base ≤ 16 → 0 < length digits → list_all (λ digit. nat_lt (digit_value digit) base) digits ≡ true
    → ¬ (IsNumeral base (without_leading_plus digits) × (digits_value base (without_leading_plus digits) < 2 ^ 64)) → number_in base digits ≡ Err TooBig
too-big base digits high some all refused =
    let fits = rw (no-plus base digits high all) at refused in
    elim (cases_Bool (nat_lt (digits_value base digits) (2 ^ 64))) [
      | inl small ↦ absurd (fits ((some, all-digits base digits all), grind (arith, nat_tests)))
      | inr large ↦ grind (arith, nat_tests)
    ]

-- behind the prefix a character begins
pub after-prefix : (text : List ℕ) → IsUtf8 text → is_hexadecimal text ≡ true → IsCharBoundary text 2
after-prefix [] utf8 prefixed = absurd (cc)
after-prefix (first ∷ []) utf8 prefixed = grind (arith, nat_tests)
after-prefix (first ∷ letter ∷ rest) utf8 prefixed =
    let ascii : letter < 128 = grind (arith, nat_tests) in
    IsCharBoundary-after_ascii (first ∷ letter ∷ rest) 1 utf8 (omega arith) ascii

pub ruleset digit_lemmas = (no-plus, too-big)

pub ruleset prefix_lemmas = (after-prefix)
