use Rattle.std.proofs.Common.{◌≡◌, take, string_bytes}
use Rattle.std.specs.List.{flat_map}
use Rattle.ib_config_lint.specs.Texts.{warning_line}
use Rattle.ib_lint.proofs.judging.make_lines.Given as goal

-- the lines of the warnings so far
abbrev pub invariant-loop-warning : goal.invariant-loop-warning
invariant-loop-warning l = string_bytes l.out ≡ flat_map warning_line (take l.warning-index l.found)
