use Rattle.std.proofs.Common.{◌≡◌, ◌∙◌, ◌-◌, ◌^◌, true, get_or, refl, arith, rules, take}
use Rattle.std.specs.Prelude.{nat_lt}
use Rattle.std.specs.Char.{digit_value}
use Rattle.std.specs.Str.Parse.{digits_value}
use Rattle.std.proofs.lemmas.Bool.Decides.{nat_tests}
use Rattle.std.proofs.lemmas.Int.Digits.{digits_value_more}
use Rattle.std.proofs.lemmas.List.Folds.{list_all_more}
use Rattle.overlaid_trees.proofs.SpotLemmas.{held-down}
use Rattle.overlaid_trees.proofs.digits.decimal_of.Goals as goal

pub loop-byte-preserved : goal.loop-byte-preserved
loop-byte-preserved c =
    let digits = c.args.digits.now in
    let i = c.loop-byte.byte-index in
    let digit : c.in-Some.digit ≡ digit_value (get_or digits i 0) = search rules in
    let passes : nat_lt (digit_value (get_or digits i 0)) 10 ≡ true = grind (arith, nat_tests) in
    record {
      digits = rw (list_all_more (λ digit. nat_lt (digit_value digit) 10) digits i 0 c.loop-byte-test.true, c.loop-byte.invariant.digits, passes) refl;
      number = c.saturating_add-number.ensures ∙ rw (digits_value_more 10 digits i c.loop-byte-test.true, c.saturating_mul.ensures, c.loop-byte.invariant.number, digit) (held-down (digits_value 10 (take i digits)) (digit_value (get_or digits i 0)) (2 ^ 64 - 1));
    }
