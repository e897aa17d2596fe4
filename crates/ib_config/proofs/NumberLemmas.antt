-- Words that are no text are no numbers.
use Rattle.std.proofs.Common.{◌≡◌, ℕ, ◌≤◌, ◌==◌, Bool, true, false, List, [], ◌∷◌, length, drop, refl, sym, ◌∙◌, arith, None, inl, inr, ◌⊎◌, true≢false}
use Rattle.std.specs.Prelude.{nat_lt}
use Rattle.std.specs.Result.{result_ok}
use Rattle.std.specs.List.{list_all}
use Rattle.std.specs.Char.{digit_value}
use Rattle.std.specs.Str.{is_utf8}
use Rattle.std.proofs.lemmas.Bool.{and_parts, cases_Bool}
use Rattle.std.proofs.lemmas.Bool.Decides.{nat_tests}
use Rattle.std.proofs.lemmas.Str.{is_utf8-from_IsUtf8, IsUtf8-from_is_utf8}
use Rattle.texts.specs.NumberTexts.{is_hexadecimal, number_in}
use Rattle.ib_config.specs.Rules.{number}
use Rattle.ib_config.proofs.TextLemmas.{class_is_text}

abbrev small : ℕ → Bool
small c = nat_lt c 128

small_is_text : (word : List ℕ) → list_all small word ≡ true → is_utf8 word ≡ true
small_is_text word all = class_is_text small word (λ c h. grind (arith, nat_tests)) all

digits_small : (base : ℕ) (digits : List ℕ) → base ≤ 16 → list_all (λ digit. nat_lt (digit_value digit) base) digits ≡ true → list_all small digits ≡ true
digits_small base [] high all = refl
digits_small base (digit ∷ digits) high all =
    let parts = and_parts (nat_lt (digit_value digit) base) (list_all (λ d. nat_lt (digit_value d) base) digits) all in
    let here : small digit ≡ true = grind (arith, nat_tests, parts.0) in
    rw here (digits_small base digits high parts.1)

none_in : (base : ℕ) (digits : List ℕ) → list_all (λ digit. nat_lt (digit_value digit) base) digits ≡ false → result_ok (number_in base digits) ≡ None
none_in base digits bad = elim (cases_Bool (length digits == 0)) [
  | inl some ↦ rw some refl
  | inr none ↦ rw (none, bad) refl
]

-- digits of a base are ASCII, and others are no number
number_or_ascii : (base : ℕ) (digits : List ℕ) → base ≤ 16 → (result_ok (number_in base digits) ≡ None) ⊎ (list_all small digits ≡ true)
number_or_ascii base digits high = elim (cases_Bool (list_all (λ digit. nat_lt (digit_value digit) base) digits)) [
  | inl all ↦ inr (digits_small base digits high all)
  | inr bad ↦ inl (none_in base digits bad)
]

with_prefix : (word : List ℕ) → is_hexadecimal word ≡ true → list_all small (drop 2 word) ≡ true → list_all small word ≡ true
with_prefix [] hex rest = refl
with_prefix (first ∷ []) hex rest = grind (arith, nat_tests)
with_prefix (first ∷ letter ∷ digits) hex rest =
    let zero_digit : small first ≡ true = grind (arith, nat_tests) in
    let x : small letter ≡ true = grind (arith, nat_tests) in
    rw (zero_digit, x) rest

pub no_number : (word : List ℕ) → is_utf8 word ≡ false → number word ≡ None
no_number word bad = elim (cases_Bool (is_hexadecimal word)) [
  | inl hex ↦ rw hex (elim (number_or_ascii 16 (drop 2 word) (omega arith)) [
    | inl none ↦ none
    | inr ascii ↦ absurd (true≢false (sym (small_is_text word (with_prefix word hex ascii)) ∙ bad))
  ])
  | inr plain ↦ rw plain (elim (number_or_ascii 10 word (omega arith)) [
    | inl none ↦ none
    | inr ascii ↦ absurd (true≢false (sym (small_is_text word ascii) ∙ bad))
  ])
]

pub ruleset number_lemmas = (no_number, is_utf8-from_IsUtf8, IsUtf8-from_is_utf8)
