use Rattle.std.proofs.Common.{map}
use Rattle.texts.specs.Consecutive.{numbers}
use Rattle.tree_parts.specs.Grown.{Grows}
use Rattle.guest_fdt.specs.Machine.{cpu}
use Rattle.tree_parts.specs.Nodes.{trees_of}
use Rattle.guest_fdt.proofs.parts.add_cpus.Given as goal

-- the vCPUs so far
abbrev pub invariant-loop-number : goal.invariant-loop-number
invariant-loop-number l = Grows l.initial.tree l.tree l.cpus (trees_of (map cpu (numbers 0 l.number)))
