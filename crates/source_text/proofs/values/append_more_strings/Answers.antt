use Rattle.std.proofs.Common.{◌∙◌}
use Rattle.source_text.proofs.Printing.{more-strings}
use Rattle.source_text.proofs.values.append_more_strings.Goals as goal

pub loop-string-preserved : goal.loop-string-preserved
loop-string-preserved c =
    more-strings c.loop-string.out c.append.new.self c.append_quoted.new.out c.loop-string.rest.now c.in-Some.string.now c.in-Some.after.now c.in-Some.ensures.parts c.in_ok-append.ensures.ok c.in_ok-append_quoted.ensures ∙ c.loop-string.invariant
