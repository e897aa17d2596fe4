use Rattle.std.proofs.Common.{rules, ◌≡◌, ◌∙◌, ap, Err, length}
use Rattle.std.specs.Option.{option_copied}
use Rattle.run_steps.specs.Steps.{nothing}
use Rattle.tree_files.specs.Trees.{flat_tree}
use Rattle.run_steps.proofs.Due.{due_here, due_anyway}
use Rattle.build_sources.specs.Configs.{AfterFileSizes, AfterScript}
use Rattle.build_sources.specs.PrivateMaking.{meant_setup}
use Rattle.build_sources.proofs.ConfigSteps.{as_many_sizes, refused_sizes, refused_script}
use Rattle.build_sources.proofs.configuration.script_setup.Goals as goal

pub returns-in_err-sizes-clause-stopped : goal.returns-in_err-sizes-clause-stopped
returns-in_err-sizes-clause-stopped g c =
    let told = g.F.Files.held c.args.files.now in
    let folder = option_copied c.args.folder in
    let setup = meant_setup c.args.setup.now in
    let handed : c.from_residual.result ≡ Err (c.in_err-sizes.field-0.0) = search rules in
    rw handed
    (due_here (AfterFileSizes told folder setup.settings setup.tree nothing) _ (refused_sizes told folder c.args.kind setup) _ _ (c.in_err-sizes.field-0.0) c.in_err-sizes.ensures.stopped)

pub script_of_sizes-requires : goal.script_of_sizes-requires
script_of_sizes-requires g c =
    let setup = meant_setup c.args.setup.now in
    ap length c.deref.ensures.value
    ∙ as_many_sizes (g.F.Files.held c.args.files.now) (option_copied c.args.folder) setup.settings setup.tree c.in_ok-sizes.sizes.items c.in_ok-sizes.ensures.measured

pub returns-in_err-script-clause-stopped : goal.returns-in_err-script-clause-stopped
returns-in_err-script-clause-stopped g c =
    let told = g.F.Files.held c.args.files.now in
    let folder = option_copied c.args.folder in
    let setup = meant_setup c.args.setup.now in
    let handed : c.from_residual-in_err-script.result ≡ Err (c.in_err-script.field-0.0) = search (rules, c.from_residual-in_err-script.ensures) in
    rw handed
    (due_anyway (AfterScript folder c.args.kind setup.settings setup.tree c.in_ok-sizes.sizes.items nothing) _
    (λ outcome. refused_script told folder c.args.kind setup outcome c.in_ok-sizes.sizes.items c.in_ok-sizes.ensures.measured)
    _ _ (c.in_err-script.field-0.0) (rw c.deref.ensures.value at c.in_err-script.ensures.stopped))
