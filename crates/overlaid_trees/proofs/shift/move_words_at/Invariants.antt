use Rattle.std.proofs.Common.{◌≡◌, ◌<◌, length, drop}
use Rattle.fdt_tree.specs.Document.{place_of, properties_of}
use Rattle.overlaid_trees.specs.Turns.{all}
use Rattle.overlaid_trees.specs.Shift.{moved_by_property}
use Rattle.overlaid_trees.proofs.shift.move_words_at.Given as goal

-- the properties that are left, done to the tree so far, give the whole
abbrev pub invariant-loop-index : goal.invariant-loop-index
invariant-loop-index l = record {
  live : l.node < length l.tree.places;
  places : l.tree.places ≡ l.initial.tree.places;
  whole : all (moved_by_property l.fn.by (place_of l.initial.tree l.node)) l.initial.tree.tree (properties_of l.overlay l.fixups) ≡ all (moved_by_property l.fn.by (place_of l.initial.tree l.node)) l.tree.tree (drop l.index (properties_of l.overlay l.fixups));
}
