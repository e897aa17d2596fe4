use Rattle.std.proofs.Common.{◌≡◌, ◌∙◌, ◌++◌, ap, map, rules, List}
use Rattle.std.proofs.lemmas.List.{map-append, map-id}
use Rattle.std.proofs.lemmas.Iterator.Consumers.{YieldsList-end}
use Rattle.std.proofs.lemmas.Iterator.Adapters.{YieldsList-from_vec}
use Rattle.run_steps.specs.Outputs.{file_of}
use Rattle.run_steps.specs.declared.output.Output.{Output}
use Rattle.dom0less.proofs.build.put_behind.Goals as goal

-- all outputs stand there
pub returns-clause-outputs : goal.returns-clause-outputs
returns-clause-outputs c =
    let end = YieldsList-end (YieldsList-from_vec {s = c.into_iter-output-iterator.result} c.into_vec-output-items.result.items (search rules) (search rules))
    c.loop-output.yielded c.loop-output.output-iterator c.loop-output.yielded_by c.next.result c.next.new.self c.in-None.is c.next.ensures.steps in
    let whole : c.loop-output.yielded ≡ c.args.outputs = (rw map-id at end.0) ∙ c.into_vec-output-items.ensures in
    ap (map file_of) (c.loop-output.invariant ∙ ap (λ (more : List Output). c.args.before ++ more) whole) ∙ map-append file_of c.args.before c.args.outputs
