use Rattle.std.proofs.Common.{◌≡◌, ◌++◌, map, take}
use Rattle.ib_script.specs.Script.{load_command}
use Rattle.ib_script.proofs.start.put_loads.Given as goal

-- the files so far
abbrev pub invariant-loop-place : goal.invariant-loop-place
invariant-loop-place l = l.out ≡ l.initial.out ++ map (load_command l.kind) (take l.place-index l.places)
