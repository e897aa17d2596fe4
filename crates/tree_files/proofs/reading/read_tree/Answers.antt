use Rattle.run_steps.specs.Steps.{nothing}
use Rattle.tree_files.specs.Trees.{tree_limit, AfterTree}
use Rattle.run_steps.proofs.Due.{stopped_anyway}
use Rattle.run_steps.proofs.ReadingSteps.{reading_step}
use Rattle.tree_files.proofs.reading.read_tree.Goals as goal

pub returns-clause-stopped : goal.returns-clause-stopped
returns-clause-stopped g c =
    stopped_anyway (AfterTree c.args.name.now c.in_ok-bytes.bytes.items nothing) _
    ((reading_step (g.F.Files.held c.args.files.now) c.args.name.now tree_limit).gives c.in_ok-bytes.bytes.items c.in_ok-bytes.ensures.read (λ bytes. AfterTree c.args.name.now bytes nothing))
    _ _ c.read_flattened.result (rw c.deref.ensures.value at c.read_flattened.ensures.stopped)
