use Rattle.std.proofs.Common.{rules, ◌≡◌, Err}
use Rattle.run_steps.specs.Steps.{nothing}
use Rattle.run_steps.proofs.Due.{due_here, stopped_anyway, built_for}
use Rattle.fdt_overlay.specs.Job.{IsOutput}
use Rattle.fdt_overlay.specs.PrivateMeant.{meant}
use Rattle.fdt_overlay.specs.Overlays.{AfterAll}
use Rattle.fdt_overlay.specs.PrivateSteps.{kept_made}
use Rattle.fdt_overlay.proofs.Written.{none_last}
use Rattle.fdt_overlay.proofs.OverlaySteps.{all_step, is_made}
use Rattle.fdt_overlay.proofs.prepare.prepare.Goals as goal

pub returns-in_err-flat-clause-stopped : goal.returns-in_err-flat-clause-stopped
returns-in_err-flat-clause-stopped g c =
    let told = g.F.Files.held c.args.files.now in
    let asked = meant c.args.asked.now in
    let handed : c.from_residual.result ≡ Err (c.in_err-flat.field-0.0) = search rules in
    rw handed (due_here (AfterAll told asked nothing) _ ((all_step told asked).stays (IsOutput asked.out)) _ _ (c.in_err-flat.field-0.0) c.in_err-flat.ensures.stopped)

pub build_output-requires : goal.build_output-requires
build_output-requires g c =
    let told = g.F.Files.held c.args.files.now in
    let asked = meant c.args.asked.now in
    none_last told asked (kept_made c.in_ok-flat.flat) (is_made told asked (kept_made c.in_ok-flat.flat) c.in_ok-flat.ensures.made)

pub returns-clause-built : goal.returns-clause-built
returns-clause-built g c =
    let told = g.F.Files.held c.args.files.now in
    let asked = meant c.args.asked.now in
    built_for (IsOutput asked.out (kept_made c.in_ok-flat.flat)) _ ((all_step told asked).gives (kept_made c.in_ok-flat.flat) c.in_ok-flat.ensures.made (IsOutput asked.out)) c.build_output.result c.build_output.ensures.built

pub returns-clause-stopped : goal.returns-clause-stopped
returns-clause-stopped g c =
    let told = g.F.Files.held c.args.files.now in
    let asked = meant c.args.asked.now in
    stopped_anyway (IsOutput asked.out (kept_made c.in_ok-flat.flat)) _ ((all_step told asked).gives (kept_made c.in_ok-flat.flat) c.in_ok-flat.ensures.made (IsOutput asked.out)) _ _ c.build_output.result c.build_output.ensures.stopped
