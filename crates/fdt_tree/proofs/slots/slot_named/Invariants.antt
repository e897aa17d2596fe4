use Rattle.std.proofs.Common.{◌≡◌, length}
use Rattle.fdt_tree.specs.PrivateLinks.{from, first_named_slot}
use Rattle.fdt_tree.proofs.Settings.{named_at, LeadsTo}
use Rattle.fdt_tree.proofs.slots.slot_named.Given as goal

-- No property before the next one has the name.
abbrev pub invariant-loop-next : goal.invariant-loop-next
invariant-loop-next l = record {
  leads : LeadsTo l.fn.owner l.slots l.next;
  same : named_at l.fn.owner l.name l.slots l.next ≡ first_named_slot l.fn.owner l.name 0 l.slots;
}

abbrev pub decreases-loop-next : goal.decreases-loop-next
decreases-loop-next l = length (from l.slots l.next)
