use Rattle.source_text.proofs.Printing.{first-string}
use Rattle.source_text.proofs.values.append_strings.Goals as goal

pub returns : goal.returns
returns c =
    first-string c.args.out.now c.append_quoted.new.out c.append_more_strings.new.out c.args.value.now c.in-Some.first.now c.in-Some.rest.now c.in-Some.ensures.parts c.in_ok-append_quoted.ensures c.in_ok-append_more_strings.ensures
