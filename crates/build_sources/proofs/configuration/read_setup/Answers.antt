use Rattle.std.proofs.Common.{rules, ◌≡◌, Err}
use Rattle.std.specs.Option.{option_copied}
use Rattle.run_steps.specs.Steps.{nothing}
use Rattle.tree_files.specs.Trees.{AfterTreeFile}
use Rattle.run_steps.proofs.Due.{due_here, due_later}
use Rattle.build_sources.specs.Configs.{AfterConfig, host_file}
use Rattle.build_sources.proofs.ConfigSteps.{refused_config, refused_tree}
use Rattle.build_sources.proofs.configuration.read_setup.Goals as goal

pub returns-in_err-config-clause-stopped : goal.returns-in_err-config-clause-stopped
returns-in_err-config-clause-stopped g c =
    let told = g.F.Files.held c.args.files.now in
    let folder = option_copied c.args.folder in
    let handed : c.from_residual.result ≡ Err (c.in_err-config.field-0.0) = search rules in
    rw handed
    (due_here (AfterConfig told c.args.name.now nothing) _ (refused_config told c.args.name.now folder) _ _ (c.in_err-config.field-0.0) c.in_err-config.ensures.stopped)

pub returns-in_err-tree-clause-stopped : goal.returns-in_err-tree-clause-stopped
returns-in_err-tree-clause-stopped g c =
    let told = g.F.Files.held c.args.files.now in
    let folder = option_copied c.args.folder in
    let handed : c.from_residual-in_err-tree.result ≡ Err (c.in_err-tree.field-0.0) = search rules in
    rw handed
    (due_later (AfterTreeFile told (host_file folder c.in_ok-config.config) nothing) _ (λ outcome. refused_tree told c.args.name.now folder outcome c.in_ok-config.config c.in_ok-config.ensures.read)
    _ _ _ c.in_ok-config.ensures.only_read.counted (c.in_err-tree.field-0.0) (rw c.in_ok-config.ensures.only_read.held_kept at c.in_err-tree.ensures.stopped))
