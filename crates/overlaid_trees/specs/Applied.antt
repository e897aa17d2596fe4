-- An overlay applied to a base.
use Rattle.std.specs.Prelude.{List, Result}
use Rattle.fdt_tree.specs.Tree.{Tree}
use Rattle.overlaid_trees.specs.declared.fault.OverlayFault.{OverlayFault}
use Rattle.overlaid_trees.specs.Turns.{each, and_then}
use Rattle.overlaid_trees.specs.Shift.{shifted}
use Rattle.overlaid_trees.specs.Resolve.{resolved}
use Rattle.overlaid_trees.specs.Merge.{merged}

-- the base with an overlay applied: its phandles are shifted, its labels resolved, its fragments merged; or the first fault
abbrev pub applied : Tree → Tree → Result Tree OverlayFault
applied base overlay = and_then (shifted base overlay) (λ above. and_then (resolved base above) (merged base))

-- the base with overlays applied, one after the other
abbrev pub all_applied : Tree → List Tree → Result Tree OverlayFault
all_applied base overlays = each applied base overlays
