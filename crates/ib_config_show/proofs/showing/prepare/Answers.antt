use Rattle.std.proofs.Common.{rules, ◌≡◌, [], Err, refl}
use Rattle.run_steps.specs.Steps.{IsWriting, nothing}
use Rattle.run_steps.specs.Endings.{Builds}
use Rattle.run_steps.proofs.Due.{due_here}
use Rattle.config_files.specs.Configs.{AfterConfigFile}
use Rattle.config_files.proofs.ConfigSteps.{config_file_step}
use Rattle.ib_config_show.specs.Shown.{config_lines}
use Rattle.ib_config_show.proofs.showing.prepare.Goals as goal

pub returns-in_err-config-clause-stopped : goal.returns-in_err-config-clause-stopped
returns-in_err-config-clause-stopped g c =
    let handed : c.from_residual.result ≡ Err (c.in_err-config.field-0.0) = search rules in
    rw handed
    (due_here (AfterConfigFile (g.F.Files.held c.args.files.now) c.args.file.now nothing) _
    ((config_file_step (g.F.Files.held c.args.files.now) c.args.file.now).stays (λ settings. IsWriting [] (config_lines settings)))
    _ _ (c.in_err-config.field-0.0) c.in_err-config.ensures.stopped)
