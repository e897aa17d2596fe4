use Rattle.std.proofs.Common.{◌≡◌, [], map}
use Rattle.fdt_write.specs.PrivateHeld.{held}
use Rattle.fdt_write.specs.Meaning.{meaning}
use Rattle.fdt_write.specs.Strings.{firsts}
use Rattle.fdt_write.proofs.UsedLemmas.{used}
use Rattle.fdt_write.proofs.names.Names.of_tree.Given as goal

-- The names that the tokens so far use.
abbrev pub invariant-loop-token : goal.invariant-loop-token
invariant-loop-token l = held l.names ≡ firsts [] (used (map meaning l.yielded))
