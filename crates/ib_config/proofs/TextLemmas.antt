-- Runs of ASCII characters are texts, and runs of digits are numbers.
use Rattle.std.proofs.Common.{◌≡◌, ℕ, zero, suc, ◌≤◌, ◌<◌, ◌^◌, Bool, true, false, List, [], ◌∷◌, length, refl, arith, inl, inr, if◌then◌else◌}
use Rattle.std.specs.Prelude.{slice_index}
use Rattle.std.specs.List.{list_all}
use Rattle.std.specs.Char.{digit_value}
use Rattle.std.specs.Str.{is_utf8}
use Rattle.std.specs.Str.Parse.{AllDigits, IsNumeral, digits_value, without_leading_plus}
use Rattle.std.proofs.lemmas.Bool.{and_parts, cases_Bool}
use Rattle.std.proofs.lemmas.Bool.Decides.{nat_tests}
use Rattle.std.proofs.lemmas.Str.{IsUtf8-from_ascii, is_utf8-from_IsUtf8}
use Rattle.std.proofs.lemmas.Int.Digits.{digits_value-lt}
use Rattle.ib_config.specs.Runs.{run_of}
use Rattle.ib_config.specs.Line.{is_letter, is_digit, is_name_byte, is_plain, is_bare}

pub run_passes : {A : Type 0} (p : A → Bool) (xs : List A) → list_all p (run_of p xs) ≡ true
run_passes p [] = refl
run_passes p (x ∷ xs) = elim (cases_Bool (p x)) [
  | inl passes ↦ rw (passes, passes) (run_passes p xs)
  | inr fails ↦ rw fails refl
]

small_at : (p : ℕ → Bool) (xs : List ℕ) → ((c : ℕ) → p c ≡ true → c < 128) → list_all p xs ≡ true → (i : ℕ) → slice_index xs i < 128
small_at p [] small all i = omega arith
small_at p (x ∷ xs) small all zero = small x (and_parts (p x) (list_all p xs) all).0
small_at p (x ∷ xs) small all (suc i) = small_at p xs small (and_parts (p x) (list_all p xs) all).1 i

-- bytes of a class that is ASCII alone are a text
pub class_is_text : (p : ℕ → Bool) (xs : List ℕ) → ((c : ℕ) → p c ≡ true → c < 128) → list_all p xs ≡ true → is_utf8 xs ≡ true
class_is_text p xs small all = is_utf8-from_IsUtf8 xs (IsUtf8-from_ascii xs (small_at p xs small all))

name_small : (c : ℕ) → is_name_byte c ≡ true → c < 128
unfolding is_name_byte is_letter is_digit
name_small c h = grind (arith, nat_tests)

plain_small : (c : ℕ) → is_plain c ≡ true → c < 128
unfolding is_plain
plain_small c h = grind (arith, nat_tests)

bare_small : (c : ℕ) → is_bare c ≡ true → c < 128
unfolding is_bare
bare_small c h = plain_small c (and_parts (is_plain c) _ h).0

digit_small : (c : ℕ) → is_digit c ≡ true → c < 128
unfolding is_digit
digit_small c h = grind (arith, nat_tests)

pub name_is_text : (xs : List ℕ) → list_all is_name_byte xs ≡ true → is_utf8 xs ≡ true
name_is_text xs all = class_is_text is_name_byte xs name_small all

pub plain_is_text : (quoted : Bool) (xs : List ℕ) → list_all (if quoted then is_plain else is_bare) xs ≡ true → is_utf8 xs ≡ true
plain_is_text true xs all = class_is_text is_plain xs plain_small all
plain_is_text false xs all = class_is_text is_bare xs bare_small all

pub digits_are_text : (xs : List ℕ) → list_all is_digit xs ≡ true → is_utf8 xs ≡ true
digits_are_text xs all = class_is_text is_digit xs digit_small all

digit_is_below : (c : ℕ) → is_digit c ≡ true → digit_value c < 10
unfolding is_digit
digit_is_below c h = grind (arith, nat_tests)

pub digits_are_digits : (xs : List ℕ) → list_all is_digit xs ≡ true → AllDigits 10 xs
digits_are_digits [] all = tt
digits_are_digits (x ∷ xs) all = let parts = and_parts (is_digit x) (list_all is_digit xs) all in (digit_is_below x parts.0, digits_are_digits xs parts.1)

-- a plus is no digit
pub no_plus : (xs : List ℕ) → list_all is_digit xs ≡ true → without_leading_plus xs ≡ xs
unfolding is_digit
no_plus [] all = refl
no_plus (x ∷ xs) all = grind (arith, nat_tests)

-- four digits write a small number
pub small_index : (xs : List ℕ) → list_all is_digit xs ≡ true → length xs ≤ 4 → digits_value 10 xs < 2 ^ 32
small_index xs all few =
    let below = digits_value-lt 10 xs (digits_are_digits xs all) in
    by (length xs) few below
  where
    by : (n : ℕ) → n ≤ 4 → digits_value 10 xs < 10 ^ n → digits_value 10 xs < 2 ^ 32
    by zero h below = omega arith
    by (suc zero) h below = omega arith
    by (suc (suc zero)) h below = omega arith
    by (suc (suc (suc zero))) h below = omega arith
    by (suc (suc (suc (suc zero)))) h below = omega arith
    by (suc (suc (suc (suc (suc n))))) h below = absurd (omega arith)

-- digits of an index, as std's parser reads them
pub reads_index : (xs : List ℕ) → list_all is_digit xs ≡ true → 1 ≤ length xs → length xs ≤ 4
    → IsNumeral 10 (without_leading_plus xs) × (digits_value 10 (without_leading_plus xs) < 2 ^ 32) × (without_leading_plus xs ≡ xs)
reads_index xs all some few =
    let same = no_plus xs all in
    rw same ((some, digits_are_digits xs all), small_index xs all few, refl)

pub ruleset index_lemmas = (reads_index, digits_are_text)
