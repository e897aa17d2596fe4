use Rattle.std.proofs.Common.{◌≡◌, ◌++◌, map, flat_map}
use Rattle.fdt_write.specs.Blocks.{token_bytes}
use Rattle.fdt_write.specs.Meaning.{meaning}
use Rattle.fdt_write.specs.Strings.{strings}
use Rattle.fdt_write.proofs.blocks.push_structure.Given as goal

-- The tokens so far are written.
abbrev pub invariant-loop-token : goal.invariant-loop-token
invariant-loop-token l =
    l.out.items ≡ l.initial.out.items ++ flat_map (token_bytes (strings l.tree.tree)) (map meaning l.yielded)
