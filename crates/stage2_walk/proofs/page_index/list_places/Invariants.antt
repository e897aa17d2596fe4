use Rattle.std.proofs.Common.{◌≡◌, ◌++◌, map}
use Rattle.stage2_walk.specs.PrivatePlaceMaps.{entry_of}
use Rattle.stage2_walk.proofs.page_index.list_places.Given as goal

abbrev pub invariant-loop-frame : goal.invariant-loop-frame
invariant-loop-frame l = l.index.items ++ map entry_of l.frame-iterator ≡ map entry_of l.places.entries
