use Rattle.std.proofs.Common.{rules, ◌≡◌, Err}
use Rattle.std.specs.Option.{option_copied}
use Rattle.tree_files.specs.Trees.{flat_tree}
use Rattle.build_sources.specs.Meant.{meant_stand}
use Rattle.build_sources.specs.PrivateReplays.{AfterSized}
use Rattle.build_sources.specs.Sources.{AfterLoadSizes}
use Rattle.build_sources.proofs.Handing.{first_stops, then_hands, then_stops_anyway}
use Rattle.build_sources.proofs.SourceSteps.{load_sizes_step}
use Rattle.build_sources.proofs.replay.replay_on.Goals as goal

pub returns-in_err-sizes-clause-stopped : goal.returns-in_err-sizes-clause-stopped
returns-in_err-sizes-clause-stopped g c =
    let told = g.F.Files.held c.args.files.now in
    let folder = option_copied c.args.folder in
    let handed : c.from_residual.result ≡ Err (c.in_err-sizes.field-0.0) = search rules in
    rw handed
    (first_stops (AfterLoadSizes told folder c.args.commands.now c.args.file.length) (AfterSized c.args.script.now c.args.commands.now (flat_tree c.args.file)) (load_sizes_step told folder c.args.commands.now c.args.file.length)
    _ _ (c.in_err-sizes.field-0.0) c.in_err-sizes.ensures.stopped)

pub returns-clause-stands : goal.returns-clause-stands
returns-clause-stands g c =
    let told = g.F.Files.held c.args.files.now in
    let folder = option_copied c.args.folder in
    then_hands (AfterLoadSizes told folder c.args.commands.now c.args.file.length) (AfterSized c.args.script.now c.args.commands.now (flat_tree c.args.file)) (load_sizes_step told folder c.args.commands.now c.args.file.length)
    c.in_ok-sizes.sizes.items c.in_ok-sizes.ensures.measured meant_stand c.replay_sized.result (rw c.deref.ensures.value at c.replay_sized.ensures.stands)

pub returns-clause-stopped : goal.returns-clause-stopped
returns-clause-stopped g c =
    let told = g.F.Files.held c.args.files.now in
    let folder = option_copied c.args.folder in
    then_stops_anyway (AfterLoadSizes told folder c.args.commands.now c.args.file.length) (AfterSized c.args.script.now c.args.commands.now (flat_tree c.args.file)) (load_sizes_step told folder c.args.commands.now c.args.file.length)
    c.in_ok-sizes.sizes.items c.in_ok-sizes.ensures.measured _ _ c.replay_sized.result (rw c.deref.ensures.value at c.replay_sized.ensures.stopped)
