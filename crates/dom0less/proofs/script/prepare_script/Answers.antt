use Rattle.std.proofs.Common.{rules, ◌≡◌, Err}
use Rattle.std.specs.Option.{option_copied}
use Rattle.run_steps.specs.Steps.{nothing}
use Rattle.run_steps.proofs.Due.{due_here}
use Rattle.build_sources.specs.Configs.{AfterMade}
use Rattle.build_sources.specs.Meant.{meant_made}
use Rattle.dom0less.specs.Job.{IsScriptWriting}
use Rattle.build_sources.proofs.ConfigSteps.{made_step}
use Rattle.dom0less.proofs.script.prepare_script.Goals as goal

pub returns-in_err-made-clause-stopped : goal.returns-in_err-made-clause-stopped
returns-in_err-made-clause-stopped g c =
    let ask = c.args.ask.now in
    let handed : c.from_residual.result ≡ Err (c.in_err-made.field-0.0) = search rules in
    rw handed
    (due_here (AfterMade (g.F.Files.held c.args.files.now) ask.config.now (option_copied ask.files) ask.kind nothing) _
    ((made_step (g.F.Files.held c.args.files.now) ask.config.now (option_copied ask.files) ask.kind).stays (IsScriptWriting (option_copied ask.outputs)))
    _ _ (c.in_err-made.field-0.0) c.in_err-made.ensures.stopped)

pub returns-clause-built : goal.returns-clause-built
returns-clause-built g c =
    let ask = c.args.ask.now in
    (made_step (g.F.Files.held c.args.files.now) ask.config.now (option_copied ask.files) ask.kind).gives (meant_made c.in_ok-made.made) c.in_ok-made.ensures.made (IsScriptWriting (option_copied ask.outputs)) _
    c.in_ok-write_script.ensures
