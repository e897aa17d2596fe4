use Rattle.std.proofs.Common.{◌≡◌, ◌<◌, length, IfSome}
use Rattle.fdt_tree.specs.Tree.{property_of}
use Rattle.fdt_tree.specs.PrivateLinks.{from}
use Rattle.fdt_tree.proofs.slots.find_from.Given as goal

-- No property before this one has the name.
abbrev pub invariant-loop-next : goal.invariant-loop-next
invariant-loop-next l = record {
  live : IfSome l.next (λ k. k < length l.slots);
  same : property_of (from l.slots l.next) l.name ≡ property_of (from l.slots l.fn.first) l.name;
}

abbrev pub decreases-loop-next : goal.decreases-loop-next
decreases-loop-next l = length (from l.slots l.next)
