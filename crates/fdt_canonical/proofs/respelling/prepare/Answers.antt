use Rattle.std.proofs.Common.{rules, ◌≡◌, Err, refl}
use Rattle.run_steps.specs.Steps.{AfterReading, nothing}
use Rattle.run_steps.proofs.Due.{due_here, due_anyway}
use Rattle.run_steps.proofs.ReadingSteps.{reading_step}
use Rattle.tree_files.specs.Trees.{tree_limit, AfterTree}
use Rattle.fdt_canonical.specs.Job.{IsRespelling}
use Rattle.fdt_canonical.proofs.SpellingLemmas.{spelling_called}
use Rattle.fdt_canonical.proofs.respelling.prepare.Goals as goal

pub returns-in_err-bytes-clause-stopped : goal.returns-in_err-bytes-clause-stopped
returns-in_err-bytes-clause-stopped g c =
    let handed : c.from_residual.result ≡ Err (c.in_err-bytes.field-0.0) = search rules in
    rw handed
    (due_here (AfterReading (g.F.Files.held c.args.files.now) c.args.file.now tree_limit nothing) _
    ((reading_step (g.F.Files.held c.args.files.now) c.args.file.now tree_limit).stays (λ bytes. AfterTree c.args.file.now bytes (IsRespelling c.args.file.now)))
    _ _ (c.in_err-bytes.field-0.0) c.in_err-bytes.ensures.stopped)

pub returns-in_err-spelling-clause-stopped : goal.returns-in_err-spelling-clause-stopped
returns-in_err-spelling-clause-stopped g c =
    let handed : c.from_residual-in_err-spelling.result ≡ Err (c.in_err-spelling.field-0.0) = search (rules, c.from_residual-in_err-spelling.ensures) in
    rw handed
    (due_anyway (AfterTree c.args.file.now c.in_ok-bytes.bytes.items (IsRespelling c.args.file.now)) _
    ((reading_step (g.F.Files.held c.args.files.now) c.args.file.now tree_limit).gives c.in_ok-bytes.bytes.items c.in_ok-bytes.ensures.read (λ bytes. AfterTree c.args.file.now bytes (IsRespelling c.args.file.now)))
    _ _ (c.in_err-spelling.field-0.0) (rw c.deref.ensures.value at c.in_err-spelling.ensures.stopped))

pub returns-clause-built : goal.returns-clause-built
returns-clause-built g c =
    let written = rw c.deref.ensures.value at c.in_ok-spelling.ensures.written in
    (reading_step (g.F.Files.held c.args.files.now) c.args.file.now tree_limit).gives c.in_ok-bytes.bytes.items c.in_ok-bytes.ensures.read (λ bytes. AfterTree c.args.file.now bytes (IsRespelling c.args.file.now)) _
    (spelling_called c.args.file.now c.in_ok-bytes.bytes.items c.in_ok-spelling.spelling _ _ written c.in_ok-spelling.ensures.fits (rw c.new.ensures refl) refl)
