use Rattle.std.proofs.Common.{◌≡◌, take}
use Rattle.std.specs.Option.{option_copied}
use Rattle.outside.specs.Reads.{Grew}
use Rattle.script_run.specs.Effect.{tree_load_of}
use Rattle.run_steps.specs.Steps.{GiveEach}
use Rattle.build_sources.specs.Handed.{HandsOn}
use Rattle.build_sources.specs.Sources.{loads_named, AfterLoadSize}
use Rattle.build_sources.proofs.loads.measure_loads.Given as goal

-- the loads so far have these sizes
abbrev pub invariant-loop-index : goal.invariant-loop-index
invariant-loop-index g l = record {
  measured : GiveEach (λ load. HandsOn (AfterLoadSize (g.F.Files.held l.initial.files) (option_copied l.folder) (tree_load_of l.fn.commands) l.bytes load)) (loads_named (take l.index l.fn.commands)) l.sizes.items;
  kept : g.F.Files.held l.files ≡ g.F.Files.held l.initial.files;
  grew : Grew (g.F.Files.counts l.initial.files) (g.F.Files.counts l.files);
}
