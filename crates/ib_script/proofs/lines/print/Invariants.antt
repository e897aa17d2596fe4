use Rattle.std.proofs.Common.{◌≡◌, take, string_bytes}
use Rattle.std.specs.List.{flat_map}
use Rattle.ib_script.specs.Text.{line_of_command}
use Rattle.ib_script.proofs.lines.print.Given as goal

-- the lines of the commands so far
abbrev pub invariant-loop-command : goal.invariant-loop-command
invariant-loop-command l = string_bytes l.out ≡ flat_map line_of_command (take l.command-index l.command-items)
