use Rattle.std.proofs.Common.{sym, rules, arith}
use Rattle.std.proofs.lemmas.Grind.{common_steps}
use Rattle.std.specs.Prelude.{IsOk}
use Rattle.run_steps.proofs.Taken.{TookUpTo-output, takes_output}
use Rattle.run_steps.proofs.writing.write_each.Goals as goal

pub returns-in-Err-clause-part : goal.returns-in-Err-clause-part
returns-in-Err-clause-part g c =
    TookUpTo-output _ _ c.args.outputs.now c.loop-output.output-index c.output-item.result c.loop-output-test.true c.output-item.is
    (rw (← c.loop-output.invariant.0, ← c.as_str.ensures, ← c.as_slice.ensures) c.in-Err.ensures.part)

pub returns-in-Err-clause-room : goal.returns-in-Err-clause-room
returns-in-Err-clause-room g c = λ takes.
    let done = takes_output (g.O.Outs.room c.loop-output.outs) (g.O.Outs.room c.write.new.self) c.args.outputs.now c.loop-output.output-index c.output-item.result (IsOk c.write.result) c.loop-output-test.true c.output-item.is
    (rw (← c.as_str.ensures, ← c.as_slice.ensures) c.write.ensures.room) (c.loop-output.invariant.2 takes) in
    sym (rw c.in-Err.is at done.0)

pub loop-output-preserved : goal.loop-output-preserved
loop-output-preserved g c = (
  grind (arith, common_steps),
  search rules,
  λ takes.
      (takes_output (g.O.Outs.room c.loop-output.outs) (g.O.Outs.room c.write.new.self) c.args.outputs.now c.loop-output.output-index c.output-item.result (IsOk c.write.result) c.loop-output-test.true c.output-item.is
      (rw (← c.as_str.ensures, ← c.as_slice.ensures) c.write.ensures.room) (c.loop-output.invariant.2 takes)).1,
)
