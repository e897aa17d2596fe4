use Rattle.run_steps.specs.Steps.{nothing}
use Rattle.run_steps.proofs.Due.{stopped_anyway}
use Rattle.run_steps.proofs.ReadingSteps.{reading_step}
use Rattle.fdt_source.specs.Texts.{text_limit, AfterText}
use Rattle.fdt_source.proofs.text_building.read_text.Goals as goal

pub returns-clause-stopped : goal.returns-clause-stopped
returns-clause-stopped g c =
    stopped_anyway (AfterText c.args.name.now c.in_ok-bytes.bytes.items nothing) _
    ((reading_step (g.F.Files.held c.args.files.now) c.args.name.now text_limit).gives c.in_ok-bytes.bytes.items c.in_ok-bytes.ensures.read (λ bytes. AfterText c.args.name.now bytes nothing))
    _ _ c.read_bytes.result (rw c.deref.ensures.value at c.read_bytes.ensures.stopped)
