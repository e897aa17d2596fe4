use Rattle.std.proofs.Common.{sym, ◌∙◌}
use Rattle.source_text.proofs.Printing.{ended-not}
use Rattle.source_text.proofs.values.has_ended_strings.Goals as goal

pub returns-then-not-is_shown_in_quotes : goal.returns-then-not-is_shown_in_quotes
returns-then-not-is_shown_in_quotes c =
    sym (c.loop-string.invariant ∙ ended-not c.loop-string.rest.now c.in-Some.string.now c.in-Some.after.now c.in-Some.ensures.parts (sym c.is_shown_in_quotes.ensures ∙ c.if-not-is_shown_in_quotes.true))
