use Rattle.std.specs.Option.{option_copied}
use Rattle.build_sources.specs.Meant.{meant_stand}
use Rattle.build_sources.specs.PrivateReplays.{AfterScriptRead}
use Rattle.build_sources.specs.Sources.{AfterScriptFile}
use Rattle.build_sources.proofs.Handing.{then_hands, then_stops}
use Rattle.build_sources.proofs.SourceSteps.{script_file_step}
use Rattle.build_sources.proofs.replay.replay.Goals as goal

pub returns-clause-stands : goal.returns-clause-stands
returns-clause-stands g c =
    let told = g.F.Files.held c.args.files.now in
    let folder = option_copied c.args.folder in
    then_hands (AfterScriptFile told c.args.script.now) (AfterScriptRead told c.args.script.now c.args.tree.now folder) (script_file_step told c.args.script.now)
    c.in_ok-commands.commands c.in_ok-commands.ensures.read meant_stand c.replay_commands.result (rw c.in_ok-commands.ensures.only_read.held_kept at c.replay_commands.ensures.stands)

pub returns-clause-stopped : goal.returns-clause-stopped
returns-clause-stopped g c =
    let told = g.F.Files.held c.args.files.now in
    let folder = option_copied c.args.folder in
    then_stops (AfterScriptFile told c.args.script.now) (AfterScriptRead told c.args.script.now c.args.tree.now folder) (script_file_step told c.args.script.now)
    c.in_ok-commands.commands c.in_ok-commands.ensures.read _ _ _ c.read_script.ensures.only_read.counted c.replay_commands.result (rw c.in_ok-commands.ensures.only_read.held_kept at c.replay_commands.ensures.stopped)
