use Rattle.std.proofs.Common.{rules, ◌≡◌, Err}
use Rattle.run_steps.specs.Steps.{nothing}
use Rattle.run_steps.proofs.Due.{due_here}
use Rattle.config_files.specs.Configs.{AfterConfigFile}
use Rattle.config_files.proofs.ConfigSteps.{config_file_step}
use Rattle.ib_lint.specs.Verdicts.{IsJudging}
use Rattle.ib_lint.proofs.linting.prepare.Goals as goal

pub returns-in_err-config-clause-stopped : goal.returns-in_err-config-clause-stopped
returns-in_err-config-clause-stopped g c =
    let handed : c.from_residual.result ≡ Err (c.in_err-config.field-0.0) = search rules in
    rw handed
    (due_here (AfterConfigFile (g.F.Files.held c.args.files.now) c.args.file.now nothing) _
    ((config_file_step (g.F.Files.held c.args.files.now) c.args.file.now).stays IsJudging)
    _ _ (c.in_err-config.field-0.0) c.in_err-config.ensures.stopped)
