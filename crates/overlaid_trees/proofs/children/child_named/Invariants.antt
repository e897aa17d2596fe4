use Rattle.std.proofs.Common.{◌<◌, ◌-◌, length, IfSome, unwrap_or}
use Rattle.fdt_tree.proofs.Siblings.{Comes}
use Rattle.overlaid_trees.proofs.children.child_named.Given as goal

-- no child before the next one has the name
abbrev pub invariant-loop-next : goal.invariant-loop-next
invariant-loop-next l = record {
  live : IfSome l.next (λ child. child < length l.tree.places);
  comes : Comes l.tree l.fn.node l.name l.next;
}

abbrev pub decreases-loop-next : goal.decreases-loop-next
decreases-loop-next l = length l.tree.places - unwrap_or l.next (length l.tree.places)
