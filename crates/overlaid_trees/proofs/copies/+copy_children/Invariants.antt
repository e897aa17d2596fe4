use Rattle.std.proofs.Common.{◌<◌, ◌≢◌, ◌-◌, [], length}
use Rattle.std.specs.Prelude.{IfSome}
use Rattle.fdt_tree.specs.Document.{place_of}
use Rattle.fdt_nodes.proofs.ChildWalks.{numbers_after}
use Rattle.overlaid_trees.proofs.CopyLemmas.{IsCopied}
use Rattle.overlaid_trees.proofs.copies.+copy_children.Given as goal

-- a copy goes to nodes of greater numbers
abbrev pub decreases-copy_children : goal.decreases-copy_children
decreases-copy_children l = length l.source.now.places - l.node

-- the children before the next one are copied
abbrev pub invariant-loop-next : goal.invariant-loop-next
invariant-loop-next l = record {
  live : IfSome l.next (λ child. child < length l.source.places);
  below : IfSome l.next (λ child. place_of l.source child ≢ []);
  later : IfSome l.next (λ child. l.fn.node < child);
  parent : l.parent < length l.tree.places;
  copied : IsCopied l.by l.source l.fn.node l.next l.initial.tree l.tree l.parent;
}

abbrev pub decreases-loop-next : goal.decreases-loop-next
decreases-loop-next l = numbers_after (length l.source.places) l.next
