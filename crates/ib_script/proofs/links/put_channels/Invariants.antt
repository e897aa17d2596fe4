use Rattle.std.proofs.Common.{◌≡◌, ◌++◌}
use Rattle.std.specs.List.{flat_map, enumerate_from}
use Rattle.ib_script.specs.Guests.{port_commands}
use Rattle.ib_script.proofs.Appends.{added_from}
use Rattle.ib_script.proofs.links.put_channels.Given as goal

-- the commands so far, and then those of the other groups
abbrev pub invariant-loop-number : goal.invariant-loop-number
invariant-loop-number l = l.initial.out ++ flat_map (port_commands l.path l.config.guests l.highest l.first) (enumerate_from 0 l.groups)
    ≡ l.out ++ added_from (port_commands l.path l.config.guests l.highest l.first) l.groups l.number
