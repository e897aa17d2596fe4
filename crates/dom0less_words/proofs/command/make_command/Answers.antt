use Rattle.std.proofs.Common.{◌∙◌, ap, fold}
use Rattle.clap.specs.Words.{App, with_rule}
use Rattle.dom0less_words.specs.Command.{letters, names}
use Rattle.dom0less_words.proofs.command.make_command.Goals as goal

pub returns : goal.returns
returns c =
    let lettered = c.in_ok-lettered.ensures ∙ ap (λ (app : App). fold with_rule app letters) c.new_command.ensures in
    c.in_ok-made.ensures ∙ ap (λ (app : App). fold with_rule app names) lettered
