use Rattle.std.proofs.Common.{◌≡◌, map, take}
use Rattle.std.specs.Option.{option_copied}
use Rattle.outside.specs.Reads.{Grew}
use Rattle.run_steps.specs.Names.{joined}
use Rattle.run_steps.specs.Steps.{AreSizes}
use Rattle.run_steps.proofs.sizes.measure_all.Given as goal

-- the files so far have these sizes
abbrev pub invariant-loop-name : goal.invariant-loop-name
invariant-loop-name g l =
    AreSizes (g.F.Files.held l.initial.files) (map (joined (option_copied l.folder)) (take l.name-index l.names)) l.sizes.items
    × (g.F.Files.held l.files ≡ g.F.Files.held l.initial.files)
    × Grew (g.F.Files.counts l.initial.files) (g.F.Files.counts l.files)
