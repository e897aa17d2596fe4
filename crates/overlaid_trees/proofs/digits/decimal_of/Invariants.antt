use Rattle.std.proofs.Common.{◌≡◌, ◌-◌, ◌^◌, min, true, take}
use Rattle.std.specs.Prelude.{nat_lt}
use Rattle.std.specs.List.{list_all}
use Rattle.std.specs.Char.{digit_value}
use Rattle.std.specs.Str.Parse.{digits_value}
use Rattle.overlaid_trees.proofs.digits.decimal_of.Given as goal

-- the bytes so far are digits, and this is their number
abbrev pub invariant-loop-byte : goal.invariant-loop-byte
invariant-loop-byte l = record {
  digits : list_all (λ digit. nat_lt (digit_value digit) 10) (take l.byte-index l.digits) ≡ true;
  number : l.number ≡ min (digits_value 10 (take l.byte-index l.digits)) (2 ^ 64 - 1);
}
