use Rattle.std.proofs.Common.{◌∙◌}
use Rattle.std.specs.Option.{option_copied}
use Rattle.script_run.specs.Effect.{tree_load_of}
use Rattle.run_steps.specs.Steps.{AfterEach, nothing}
use Rattle.run_steps.proofs.Due.{due_later, grew_twice}
use Rattle.build_sources.specs.Handed.{HandsOn}
use Rattle.build_sources.specs.Sources.{load_named, AfterLoadSize}
use Rattle.build_sources.proofs.LoadSizes.{measured_more, measured_refuses, all_measured, sizes_handed, as_many_loads}
use Rattle.build_sources.proofs.loads.measure_loads.Goals as goal

pub returns-in-Err-clause-stopped : goal.returns-in-Err-clause-stopped
returns-in-Err-clause-stopped g c =
    due_later (AfterEach (AfterLoadSize (g.F.Files.held c.args.files.now) (option_copied c.args.folder) (tree_load_of c.args.commands.now) c.args.bytes) (load_named (c.loop-index.index, c.index-script-index.result)) nothing) _
    (measured_refuses c.args.commands.now c.loop-index.index c.index-script-index.result (rw c.as_slice-script.ensures at c.loop-index-test.true) (rw c.as_slice-script.ensures at c.index-script-index.is)
    (g.F.Files.held c.args.files.now) (option_copied c.args.folder) (tree_load_of c.args.commands.now) c.args.bytes c.loop-index.sizes.items c.loop-index.invariant.measured)
    _ _ _ c.loop-index.invariant.grew c.in-Err.stop (rw (c.loop-index.invariant.kept, c.tree_load-tree.ensures) at c.in-Err.ensures.stopped)

pub loop-index-preserved : goal.loop-index-preserved
loop-index-preserved g c = record {
  measured = rw c.in_ok-push_some-in-Ok.ensures
      (measured_more c.args.commands.now c.loop-index.index c.index-script-index.result (rw c.as_slice-script.ensures at c.loop-index-test.true) (rw c.as_slice-script.ensures at c.index-script-index.is)
      (g.F.Files.held c.args.files.now) (option_copied c.args.folder) (tree_load_of c.args.commands.now) c.args.bytes c.loop-index.sizes.items c.loop-index.invariant.measured
      _ (rw (c.loop-index.invariant.kept, c.tree_load-tree.ensures) at c.in-Ok.ensures.measured));
  kept = c.measure_load.ensures.only_read.held_kept ∙ c.loop-index.invariant.kept;
  grew = grew_twice _ _ _ c.loop-index.invariant.grew c.measure_load.ensures.only_read.counted;
}

pub returns-clause-measured : goal.returns-clause-measured
returns-clause-measured g c =
    sizes_handed (g.F.Files.held c.args.files.now) (option_copied c.args.folder) c.args.commands.now c.args.bytes c.loop-index.sizes.items
    (all_measured _ c.args.commands.now c.loop-index.index c.loop-index.sizes.items (rw c.as_slice-script.ensures at c.loop-index-test.false) c.loop-index.invariant.measured)

pub returns-clause-sized : goal.returns-clause-sized
returns-clause-sized g c =
    as_many_loads (λ load. HandsOn (AfterLoadSize (g.F.Files.held c.args.files.now) (option_copied c.args.folder) (tree_load_of c.args.commands.now) c.args.bytes load)) c.args.commands.now c.loop-index.sizes.items
    (all_measured _ c.args.commands.now c.loop-index.index c.loop-index.sizes.items (rw c.as_slice-script.ensures at c.loop-index-test.false) c.loop-index.invariant.measured)
