use Rattle.std.proofs.Common.{rules, ◌≡◌, Err}
use Rattle.std.specs.Option.{option_copied}
use Rattle.run_steps.specs.Steps.{nothing}
use Rattle.run_steps.proofs.Due.{due_here, due_later}
use Rattle.build_sources.specs.PrivateMaking.{AfterSetup, AfterScripted, meant_setup, meant_scripted}
use Rattle.build_sources.proofs.ConfigSteps.{made_of_both, refused_setup, refused_rest}
use Rattle.build_sources.proofs.configuration.make_script.Goals as goal

pub returns-in_err-setup-clause-stopped : goal.returns-in_err-setup-clause-stopped
returns-in_err-setup-clause-stopped g c =
    let told = g.F.Files.held c.args.files.now in
    let folder = option_copied c.args.folder in
    let handed : c.from_residual.result ≡ Err (c.in_err-setup.field-0.0) = search rules in
    rw handed
    (due_here (AfterSetup told c.args.name.now folder nothing) _ (refused_setup told c.args.name.now folder c.args.kind) _ _ (c.in_err-setup.field-0.0) c.in_err-setup.ensures.stopped)

pub returns-in_err-scripted-clause-stopped : goal.returns-in_err-scripted-clause-stopped
returns-in_err-scripted-clause-stopped g c =
    let told = g.F.Files.held c.args.files.now in
    let folder = option_copied c.args.folder in
    let setup = meant_setup c.in_ok-setup.setup in
    let handed : c.from_residual-in_err-scripted.result ≡ Err (c.in_err-scripted.field-0.0) = search (rules, c.from_residual-in_err-scripted.ensures) in
    rw handed
    (due_later (AfterScripted told folder c.args.kind setup nothing) _ (λ outcome. refused_rest told c.args.name.now folder c.args.kind outcome setup c.in_ok-setup.ensures.read)
    _ _ _ c.in_ok-setup.ensures.only_read.counted (c.in_err-scripted.field-0.0) (rw c.in_ok-setup.ensures.only_read.held_kept at c.in_err-scripted.ensures.stopped))

pub returns-clause-made : goal.returns-clause-made
returns-clause-made g c =
    made_of_both (g.F.Files.held c.args.files.now) c.args.name.now (option_copied c.args.folder) c.args.kind (meant_setup c.in_ok-setup.setup) (meant_scripted c.in_ok-scripted.scripted)
    c.in_ok-setup.ensures.read (rw c.in_ok-setup.ensures.only_read.held_kept at c.in_ok-scripted.ensures.made)
