use Rattle.run_steps.specs.Steps.{nothing}
use Rattle.run_steps.proofs.Due.{stopped_anyway}
use Rattle.run_steps.proofs.ReadingSteps.{reading_step}
use Rattle.config_files.specs.Configs.{config_limit, AfterConfig}
use Rattle.config_files.proofs.reading.read_config_file.Goals as goal

pub returns-clause-stopped : goal.returns-clause-stopped
returns-clause-stopped g c =
    stopped_anyway (AfterConfig c.args.name.now c.in_ok-bytes.bytes.items nothing) _
    ((reading_step (g.F.Files.held c.args.files.now) c.args.name.now config_limit).gives c.in_ok-bytes.bytes.items c.in_ok-bytes.ensures.read (λ bytes. AfterConfig c.args.name.now bytes nothing))
    _ _ c.said.result (rw c.deref.ensures.value at c.said.ensures.stopped)
