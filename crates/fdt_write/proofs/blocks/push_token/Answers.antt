use Rattle.std.proofs.Common.{◌≡◌, ◌++◌, true, length, sym, ap, ◌∙◌, arith}
use Rattle.fdt_write.specs.Blocks.{word_bytes, with_padding, token_bytes}
use Rattle.fdt_write.specs.PrivateHeld.{held}
use Rattle.fdt_write.specs.Meaning.{meaning}
use Rattle.fdt_write.specs.Strings.{is_among}
use Rattle.fdt_write.specs.PrivateUsed.{is_named}
use Rattle.fdt_write.proofs.Appending.{OnOk-then}
use Rattle.fdt_write.proofs.NamedLemmas.{offset-found}
use Rattle.fdt_write.proofs.blocks.push_token.Goals as goal

pub overflow_cast-offset : goal.overflow_cast-offset
overflow_cast-offset c =
    let names = held c.args.names.now in
    let among : is_among names c.in-Property.name.now ≡ true = ap (λ t. is_named names (meaning t)) (sym c.in-Property.is) ∙ c.requires.named in
    let found = offset-found names c.in-Property.name.now c.offset.result c.unwrap_or-offset.result among c.requires.names_fit c.offset.ensures c.unwrap_or-offset.ensures in
    omega (arith, found.1)

pub returns-in-Property : goal.returns-in-Property
returns-in-Property c =
    let names = held c.args.names.now in
    let start = c.args.out.now.items in
    let value = c.in-Property.value.now in
    let among : is_among names c.in-Property.name.now ≡ true = ap (λ t. is_named names (meaning t)) (sym c.in-Property.is) ∙ c.requires.named in
    let found = offset-found names c.in-Property.name.now c.offset.result c.unwrap_or-offset.result among c.requires.names_fit c.offset.ensures c.unwrap_or-offset.ensures in
    OnOk-then c.push_property.result _ _ (λ h. h ∙ (ap (λ o. start ++ (word_bytes 3 ++ (word_bytes (length value) ++ (word_bytes o ++ with_padding value)))) found.0 ∙ ap (λ t. start ++ token_bytes names (meaning t)) (sym c.in-Property.is))) c.push_property.ensures
