use Rattle.std.proofs.Common.{◌≡◌, take}
use Rattle.build_sources.specs.Scripts.{unused_lines}
use Rattle.build_sources.proofs.messages.make_unused_lines.Given as goal

-- the names so far have their lines
abbrev pub invariant-loop-name : goal.invariant-loop-name
invariant-loop-name l = l.made ≡ unused_lines (take l.name-index l.names)
