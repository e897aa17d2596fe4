use Rattle.std.proofs.Common.{◌≡◌, ◌++◌, take, string_bytes}
use Rattle.std.specs.List.{flat_map}
use Rattle.ib_config_show.specs.Lines.{unused_line}
use Rattle.ib_config_show.proofs.settings.put_unused_names.Given as goal

-- the names so far are written, each on its line
abbrev pub invariant-loop-name : goal.invariant-loop-name
invariant-loop-name l = string_bytes l.out ≡ string_bytes l.initial.out ++ flat_map unused_line (take l.name-index l.names)
