use Rattle.std.proofs.Common.{map, take}
use Rattle.tree_parts.specs.Grown.{Grows}
use Rattle.guest_fdt.specs.Machine.{region}
use Rattle.tree_parts.specs.Nodes.{trees_of}
use Rattle.guest_fdt.proofs.parts.add_reserved.Given as goal

-- the regions so far
abbrev pub invariant-loop-id : goal.invariant-loop-id
invariant-loop-id l = Grows l.initial.tree l.tree l.parent (trees_of (map region (take l.id-index l.shared)))
