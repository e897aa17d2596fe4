-- What some texts of numbers are read as, as computed.
use Rattle.std.proofs.Common.{◌≡◌, refl, ◌-◌, ◌^◌}
use Rattle.std.specs.Prelude.{codes, Ok, Err}
use Rattle.texts.specs.NumberTexts.{number_of}
use Rattle.texts.specs.declared.number.NumberFault.TheVariants.{Empty, BadDigit, TooBig}

largest : number_of (codes "0xffffffffffffffff") ≡ Ok (2 ^ 64 - 1)
largest = refl

leading_zeros : number_of (codes "007") ≡ Ok 7
leading_zeros = refl

one_too_big : number_of (codes "18446744073709551616") ≡ Err TooBig
one_too_big = refl

prefix_alone : number_of (codes "0x") ≡ Err Empty
prefix_alone = refl

letter_among_digits : number_of (codes "12a") ≡ Err BadDigit
letter_among_digits = refl
