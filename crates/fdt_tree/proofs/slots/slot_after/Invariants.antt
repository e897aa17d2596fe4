use Rattle.std.proofs.Common.{◌≡◌, ◌<◌, length, IfSome, slice_get}
use Rattle.fdt_tree.specs.PrivateLinks.{from}
use Rattle.fdt_tree.proofs.slots.slot_after.Given as goal

-- The property that is wanted is so many links on.
abbrev pub invariant-loop-next : goal.invariant-loop-next
invariant-loop-next l = record {
  live : IfSome l.next (λ k. k < length l.slots);
  within : l.left < length (from l.slots l.next);
  same : slice_get (from l.slots l.next) l.left ≡ slice_get (from l.slots l.fn.first) l.index;
}

abbrev pub decreases-loop-next : goal.decreases-loop-next
decreases-loop-next l = length (from l.slots l.next)
