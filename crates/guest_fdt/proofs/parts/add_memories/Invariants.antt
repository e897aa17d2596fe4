use Rattle.std.proofs.Common.{map, take}
use Rattle.tree_parts.specs.Grown.{Grows}
use Rattle.guest_fdt.specs.Machine.{memory}
use Rattle.tree_parts.specs.Nodes.{trees_of}
use Rattle.guest_fdt.proofs.parts.add_memories.Given as goal

-- the memory so far
abbrev pub invariant-loop-page : goal.invariant-loop-page
invariant-loop-page l = Grows l.initial.tree l.tree l.root (trees_of (map memory (take l.page-index l.memories)))
