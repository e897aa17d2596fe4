use Rattle.std.proofs.Common.{◌∙◌, ap₂, refl}
use Rattle.clap.specs.Words.{with_rule}
use Rattle.dom0less_words.proofs.command.with_names.Goals as goal

pub returns : goal.returns
returns c =
    let first = c.in_ok-arg.ensures.shape c.flag.ensures.local ∙ ap₂ with_rule refl c.flag.ensures.rule in
    let second = c.in_ok-arg-2.ensures.shape c.flag-2.ensures.local ∙ ap₂ with_rule first c.flag-2.ensures.rule in
    let third = c.in_ok-arg-3.ensures.shape c.named.ensures.local ∙ ap₂ with_rule second c.named.ensures.rule in
    c.in_ok-made.ensures.shape c.named-2.ensures.local ∙ ap₂ with_rule third c.named-2.ensures.rule
