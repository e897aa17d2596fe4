use Rattle.std.proofs.Common.{◌≡◌, ◌++◌}
use Rattle.std.specs.List.{flat_map, enumerate_from}
use Rattle.ib_script.specs.Guests.{shared_commands}
use Rattle.ib_script.proofs.Appends.{added_from}
use Rattle.ib_script.proofs.links.put_regions.Given as goal

-- the commands so far, and then those of the other regions
abbrev pub invariant-loop-number : goal.invariant-loop-number
invariant-loop-number l = l.initial.out ++ flat_map (shared_commands l.path) (enumerate_from 0 l.groups) ≡ l.out ++ added_from (shared_commands l.path) l.groups l.number
