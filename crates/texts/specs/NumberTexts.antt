-- Numbers as texts: decimal digits, or hexadecimal ones behind `0x` or `0X`.
use Rattle.std.specs.Prelude.{ℕ, ◌^◌, ◌==◌, ◌||◌, ◌++◌, Bool, false, not, nat_lt, if◌then◌else◌, List, length, drop, codes, Result, Ok, Err}
use Rattle.std.specs.List.{starts_with, list_all}
use Rattle.std.specs.Char.{digit_value}
use Rattle.std.specs.Fmt.{digits}
use Rattle.std.specs.Str.Parse.{digits_value}
use Rattle.std.specs.Prelude.{nat_eq}
use Rattle.texts.specs.declared.number.NumberFault.{NumberFault}
use Rattle.texts.specs.declared.number.NumberFault.TheVariants.{Empty, BadDigit, TooBig}

-- the text has a prefix of hexadecimal digits
abbrev pub is_hexadecimal : List ℕ → Bool
is_hexadecimal text = starts_with nat_eq text (codes "0x") || starts_with nat_eq text (codes "0X")

-- the number that these digits of the base spell
abbrev pub number_in : ℕ → List ℕ → Result ℕ NumberFault
number_in base digits =
    if length digits == 0 then Err Empty else
    if not (list_all (λ digit. nat_lt (digit_value digit) base) digits) then Err BadDigit else
    if nat_lt (digits_value base digits) (2 ^ 64) then Ok (digits_value base digits) else
    Err TooBig

-- the number that a text spells, or the first fault that it has
abbrev pub number_of : List ℕ → Result ℕ NumberFault
number_of text = if is_hexadecimal text then number_in 16 (drop 2 text) else number_in 10 text

-- a number as it is shown in base 16: `0x` and lower-case digits without leading zeros
abbrev pub hexadecimal : ℕ → List ℕ
hexadecimal number = codes "0x" ++ digits 16 false number
