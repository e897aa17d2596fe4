use Rattle.std.proofs.Common.{◌≡◌, ◌≤◌, map, take, drop}
use Rattle.run_steps.specs.Endings.{and_files, TakesFiles}
use Rattle.run_steps.specs.Outputs.{file_of}
use Rattle.run_steps.proofs.writing.write_each.Given as goal

-- the outputs so far were taken, and where there was room for all, there is room for those that are left
abbrev pub invariant-loop-output : goal.invariant-loop-output
invariant-loop-output g l =
    (g.O.Outs.written l.outs ≡ and_files (g.O.Outs.written l.initial.outs) (map file_of (take l.output-index l.outputs)))
    × (g.O.Outs.faults l.initial.outs ≤ g.O.Outs.faults l.outs)
    × (TakesFiles (g.O.Outs.room l.initial.outs) (map file_of l.outputs) → TakesFiles (g.O.Outs.room l.outs) (map file_of (drop l.output-index l.outputs)))
