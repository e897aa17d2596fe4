use Rattle.std.proofs.Common.{◌≡◌, length, map, flat_map}
use Rattle.fdt_write.specs.Blocks.{token_bytes}
use Rattle.fdt_write.specs.Meaning.{meaning}
use Rattle.fdt_write.specs.PrivateNames.{saturated}
use Rattle.fdt_write.specs.Strings.{strings}
use Rattle.fdt_write.proofs.sizes.structure_size.Given as goal

-- The bytes of the tokens so far.
abbrev pub invariant-loop-token : goal.invariant-loop-token
invariant-loop-token l =
    l.size ≡ saturated (length (flat_map (token_bytes (strings l.tree.tree)) (map meaning l.yielded)))
