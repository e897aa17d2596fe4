use Rattle.std.proofs.Common.{◌∙◌, ap₂, refl}
use Rattle.clap.specs.Words.{with_rule}
use Rattle.dom0less_words.proofs.command.with_letters.Goals as goal

pub returns : goal.returns
returns c =
    let first = c.in_ok-arg.ensures.shape c.lettered.ensures.local ∙ ap₂ with_rule refl c.lettered.ensures.rule in
    let second = c.in_ok-arg-2.ensures.shape c.lettered-2.ensures.local ∙ ap₂ with_rule first c.lettered-2.ensures.rule in
    let third = c.in_ok-arg-3.ensures.shape c.lettered-3.ensures.local ∙ ap₂ with_rule second c.lettered-3.ensures.rule in
    let fourth = c.in_ok-arg-4.ensures.shape c.lettered-4.ensures.local ∙ ap₂ with_rule third c.lettered-4.ensures.rule in
    let fifth = c.in_ok-arg-5.ensures.shape c.lettered-5.ensures.local ∙ ap₂ with_rule fourth c.lettered-5.ensures.rule in
    c.in_ok-made.ensures.shape c.lettered-6.ensures.local ∙ ap₂ with_rule fifth c.lettered-6.ensures.rule
