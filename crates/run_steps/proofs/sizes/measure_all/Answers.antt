use Rattle.std.proofs.Common.{◌∙◌}
use Rattle.std.specs.Option.{option_copied}
use Rattle.run_steps.specs.Names.{joined}
use Rattle.run_steps.specs.Steps.{AfterSize, nothing}
use Rattle.run_steps.proofs.Due.{due_later, grew_twice}
use Rattle.run_steps.proofs.ReadingSteps.{measured_more, measured_refuses}
use Rattle.run_steps.proofs.sizes.measure_all.Goals as goal

pub returns-in-Err-clause-stopped : goal.returns-in-Err-clause-stopped
returns-in-Err-clause-stopped g c =
    due_later (AfterSize (g.F.Files.held c.args.files.now) (joined (option_copied c.args.folder) c.name-item.result) nothing) _
    (measured_refuses (g.F.Files.held c.args.files.now) (joined (option_copied c.args.folder)) c.args.names.now c.loop-name.name-index c.name-item.result c.loop-name-test.true c.name-item.is c.loop-name.sizes.items c.loop-name.invariant.0)
    _ _ _ c.loop-name.invariant.2 c.in-Err.stop (rw (c.loop-name.invariant.1, c.as_str.ensures) at c.in-Err.ensures.stopped)

pub loop-name-preserved : goal.loop-name-preserved
loop-name-preserved g c = (
  rw c.in_ok-push-in-Ok.ensures.items
      (measured_more (g.F.Files.held c.args.files.now) (joined (option_copied c.args.folder)) c.args.names.now c.loop-name.name-index c.name-item.result c.loop-name-test.true c.name-item.is c.loop-name.sizes.items c.loop-name.invariant.0
      c.in-Ok.size (rw (c.loop-name.invariant.1, c.as_str.ensures) at c.in-Ok.ensures.measured)),
  c.measure_in.ensures.only_read.held_kept ∙ c.loop-name.invariant.1,
  grew_twice _ _ _ c.loop-name.invariant.2 c.measure_in.ensures.only_read.counted,
)
