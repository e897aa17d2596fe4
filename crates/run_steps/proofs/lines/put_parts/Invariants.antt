use Rattle.std.proofs.Common.{◌≡◌, ◌≤◌, take}
use Rattle.std.specs.List.{flat_map}
use Rattle.outside.specs.Outside.{and_bytes}
use Rattle.run_steps.proofs.lines.put_parts.Given as goal

-- the parts so far were taken
abbrev pub invariant-loop-part : goal.invariant-loop-part
invariant-loop-part g l =
    (g.E.Sink.taken l.err ≡ and_bytes (g.E.Sink.taken l.initial.err) (flat_map (λ part. part.now) (take l.part-index l.parts)))
    × (g.E.Sink.faults l.initial.err ≤ g.E.Sink.faults l.err)
