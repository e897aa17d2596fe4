use Rattle.std.proofs.Common.{rules, ◌≡◌, Err}
use Rattle.fdt_read.proofs.NoLastPair.{no_last_pairs}
use Rattle.run_steps.specs.Steps.{nothing}
use Rattle.run_steps.proofs.Due.{due_here, stopped_anyway, built_for}
use Rattle.guest_load.specs.Job.{IsLoading}
use Rattle.guest_load.specs.PrivateMeant.{meant, meant_parts}
use Rattle.guest_load.specs.Parts.{AfterParts}
use Rattle.guest_load.proofs.PartSteps.{parts_step}
use Rattle.guest_load.proofs.prepare.prepare.Goals as goal

pub returns-in_err-parts-clause-stopped : goal.returns-in_err-parts-clause-stopped
returns-in_err-parts-clause-stopped g c =
    let handed : c.from_residual.result ≡ Err (c.in_err-parts.field-0.0) = search rules in
    rw handed
    (due_here (AfterParts (g.F.Files.held c.args.files.now) (meant c.args.asked.now) nothing) _
    ((parts_step (g.F.Files.held c.args.files.now) (meant c.args.asked.now)).stays (IsLoading c.args.asked.now.out.now))
    _ _ (c.in_err-parts.field-0.0) c.in_err-parts.ensures.stopped)

pub load_parts-requires-clause-reserved : goal.load_parts-requires-clause-reserved
load_parts-requires-clause-reserved g c = let read = c.in_ok-parts.ensures.read.tree in no_last_pairs read.file _ _ _ read.flattened.spelled

pub returns-clause-built : goal.returns-clause-built
returns-clause-built g c =
    built_for (IsLoading c.args.asked.now.out.now (meant_parts c.in_ok-parts.parts)) _
    ((parts_step (g.F.Files.held c.args.files.now) (meant c.args.asked.now)).gives (meant_parts c.in_ok-parts.parts) c.in_ok-parts.ensures.read (IsLoading c.args.asked.now.out.now)) c.load_parts.result c.load_parts.ensures.built

pub returns-clause-stopped : goal.returns-clause-stopped
returns-clause-stopped g c =
    stopped_anyway (IsLoading c.args.asked.now.out.now (meant_parts c.in_ok-parts.parts)) _
    ((parts_step (g.F.Files.held c.args.files.now) (meant c.args.asked.now)).gives (meant_parts c.in_ok-parts.parts) c.in_ok-parts.ensures.read (IsLoading c.args.asked.now.out.now)) _ _ c.load_parts.result c.load_parts.ensures.stopped
