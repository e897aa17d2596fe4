use Rattle.std.proofs.Common.{inr}
use Rattle.run_steps.proofs.Due.{rose_later}
use Rattle.run_steps.proofs.Taken.{TookPrefix-parts}
use Rattle.run_steps.proofs.lines.put_parts.Goals as goal

pub returns-in-Err : goal.returns-in-Err
returns-in-Err g c = inr (
  rose_later _ _ _ c.loop-part.invariant.1 c.in-Err.ensures.failed,
  TookPrefix-parts (λ part. part.now) c.args.parts.now c.loop-part.part-index _ c.loop-part-test.true _ _ (rw c.loop-part.invariant.0 at c.in-Err.ensures.part),
)
