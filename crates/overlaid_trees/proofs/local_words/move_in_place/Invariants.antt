use Rattle.std.proofs.Common.{◌≡◌, ◌<◌, length}
use Rattle.fdt_tree.specs.Document.{place_of}
use Rattle.overlaid_trees.specs.Shift.{moved_by_property}
use Rattle.overlaid_trees.proofs.local_words.move_in_place.Given as goal

-- the words that are left, moved in the tree so far, give the whole
abbrev pub invariant-loop-rest : goal.invariant-loop-rest
invariant-loop-rest l = record {
  live : l.node < length l.tree.places;
  places : l.tree.places ≡ l.initial.tree.places;
  whole : moved_by_property l.fn.by (place_of l.initial.tree l.node) l.initial.tree.tree (l.name, l.fn.offsets) ≡ moved_by_property l.fn.by (place_of l.initial.tree l.node) l.tree.tree (l.name, l.rest);
}

abbrev pub decreases-loop-rest : goal.decreases-loop-rest
decreases-loop-rest l = length l.rest
