use Rattle.std.proofs.Common.{rules, ◌≡◌, Err}
use Rattle.std.specs.Option.{option_copied}
use Rattle.build_sources.specs.Configs.{AfterMade}
use Rattle.build_sources.specs.Handed.{HandsOn}
use Rattle.build_sources.specs.Meant.{meant_made, meant_stand}
use Rattle.build_sources.specs.PrivateReplays.{AfterMadeRun}
use Rattle.build_sources.proofs.ConfigSteps.{made_step}
use Rattle.build_sources.proofs.Edited.{named, sized, stands_on_edited}
use Rattle.build_sources.proofs.Handing.{ok_as, handed, handed_step, first_stops, then_hands, then_stops_anyway}
use Rattle.build_sources.proofs.source.read_configuration.Goals as goal

pub returns-in_err-made-clause-stopped : goal.returns-in_err-made-clause-stopped
returns-in_err-made-clause-stopped g c =
    let told = g.F.Files.held c.args.files.now in
    let folder = option_copied c.args.folder in
    let stopped : c.from_residual.result ≡ Err (c.in_err-made.field-0.0) = search rules in
    rw stopped
    (first_stops (AfterMade told c.args.config.now folder c.args.kind) (AfterMadeRun (option_copied c.args.outputs)) (handed_step _ _ (made_step told c.args.config.now folder c.args.kind))
    _ _ (c.in_err-made.field-0.0) c.in_err-made.ensures.stopped)

pub returns-clause-stands : goal.returns-clause-stands
returns-clause-stands g c =
    let told = g.F.Files.held c.args.files.now in
    let folder = option_copied c.args.folder in
    then_hands (AfterMade told c.args.config.now folder c.args.kind) (AfterMadeRun (option_copied c.args.outputs)) (handed_step _ _ (made_step told c.args.config.now folder c.args.kind))
    (meant_made c.in_ok-made.made) (handed _ _ (made_step told c.args.config.now folder c.args.kind) (meant_made c.in_ok-made.made) c.in_ok-made.ensures.made) meant_stand c.run_made.result c.run_made.ensures.stands

pub returns-clause-stopped : goal.returns-clause-stopped
returns-clause-stopped g c =
    let told = g.F.Files.held c.args.files.now in
    let folder = option_copied c.args.folder in
    then_stops_anyway (AfterMade told c.args.config.now folder c.args.kind) (AfterMadeRun (option_copied c.args.outputs)) (handed_step _ _ (made_step told c.args.config.now folder c.args.kind))
    (meant_made c.in_ok-made.made) (handed _ _ (made_step told c.args.config.now folder c.args.kind) (meant_made c.in_ok-made.made) c.in_ok-made.ensures.made) _ _ c.run_made.result c.run_made.ensures.stopped

pub run_made-requires : goal.run_made-requires
run_made-requires g c =
    let told = g.F.Files.held c.args.files.now in
    let folder = option_copied c.args.folder in
    let is = c.in_ok-made.ensures.made in
    record {
      named = named told c.args.config.now folder c.args.kind (meant_made c.in_ok-made.made) is (c.in_ok-made.ensures.spoken is.places is.placed);
      sized = sized told c.args.config.now folder c.args.kind (meant_made c.in_ok-made.made) is (c.in_ok-made.ensures.spoken is.places is.placed);
    }

pub returns-clause-edited : goal.returns-clause-edited
returns-clause-edited g c =
    let told = g.F.Files.held c.args.files.now in
    let folder = option_copied c.args.folder in
    let is = c.in_ok-made.ensures.made in
    ok_as (λ stand. HandsOn (AfterMadeRun (option_copied c.args.outputs) (meant_made c.in_ok-made.made)) (meant_stand stand)) _
    (λ stand. stands_on_edited told c.args.config.now folder c.args.kind (meant_made c.in_ok-made.made) is (c.in_ok-made.ensures.spoken is.places is.placed) (option_copied c.args.outputs) (meant_stand stand))
    c.run_made.result c.run_made.ensures.stands
