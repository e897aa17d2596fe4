use Rattle.std.proofs.Common.{◌≡◌, ◌++◌, take, flat_map}
use Rattle.fdt_write.specs.Strings.{ended}
use Rattle.fdt_write.proofs.names.push_each.Given as goal

-- The names so far are written.
abbrev pub invariant-loop-name : goal.invariant-loop-name
invariant-loop-name l =
    l.out.items ≡ l.initial.out.items ++ flat_map (λ name. ended name.now) (take l.name-index l.names)
