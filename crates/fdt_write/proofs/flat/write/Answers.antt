use Rattle.std.proofs.Common.{◌≡◌, length, refl, ap, ◌∙◌, inr, arith}
use Rattle.fdt_write.specs.Flattened.{flattened}
use Rattle.fdt_write.specs.PrivateNames.{saturated}
use Rattle.fdt_write.specs.Strings.{strings, strings_of}
use Rattle.fdt_write.proofs.Whole.{size-whole, sizes-exact}
use Rattle.fdt_write.proofs.flat.write.Goals as goal

pub returns-then-size-gt-LIMIT-clause-too_long : goal.returns-then-size-gt-LIMIT-clause-too_long
returns-then-size-gt-LIMIT-clause-too_long c =
    let tree = c.args.tree.now.tree in
    let reserves = c.args.reserves.now in
    let named : c.size.result ≡ saturated (length (strings_of (strings tree))) = c.size.ensures ∙ ap (λ names. saturated (length (strings_of names))) c.in-Ok.ensures in
    let whole : c.whole-size.result ≡ saturated (length (flattened reserves c.args.boot tree)) = size-whole reserves c.args.boot tree c.reservations_size.result c.structure_size.result c.size.result c.whole-size.result c.reservations_size.ensures c.structure_size.ensures named c.whole-size.ensures in
    inr (c.whole-size.result, refl, omega (arith, c.if-size-gt-LIMIT.true), whole)

pub push_all-requires-clause-reserved : goal.push_all-requires-clause-reserved
push_all-requires-clause-reserved c =
    let tree = c.args.tree.now.tree in
    let named : c.size.result ≡ saturated (length (strings_of (strings tree))) = c.size.ensures ∙ ap (λ names. saturated (length (strings_of names))) c.in-Ok.ensures in
    (sizes-exact c.args.reserves.now tree c.reservations_size.result c.structure_size.result c.size.result c.whole-size.result c.reservations_size.ensures c.structure_size.ensures named c.whole-size.ensures c.if-size-gt-LIMIT.false).reserved

pub returns-in-Ok-push_all-clause-fits : goal.returns-in-Ok-push_all-clause-fits
returns-in-Ok-push_all-clause-fits c =
    let tree = c.args.tree.now.tree in
    let reserves = c.args.reserves.now in
    let named : c.size.result ≡ saturated (length (strings_of (strings tree))) = c.size.ensures ∙ ap (λ names. saturated (length (strings_of names))) c.in-Ok.ensures in
    let whole : c.whole-size.result ≡ saturated (length (flattened reserves c.args.boot tree)) = size-whole reserves c.args.boot tree c.reservations_size.result c.structure_size.result c.size.result c.whole-size.result c.reservations_size.ensures c.structure_size.ensures named c.whole-size.ensures in
    omega (arith, c.if-size-gt-LIMIT.false)
