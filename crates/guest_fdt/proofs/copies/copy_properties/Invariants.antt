use Rattle.std.proofs.Common.{◌≡◌, take}
use Rattle.fdt_tree.specs.Document.{properties_of}
use Rattle.guest_fdt.specs.Copies.{kept}
use Rattle.tree_parts.specs.Grown.{with_more}
use Rattle.guest_fdt.proofs.copies.copy_properties.Given as goal

-- the copy has the properties so far
abbrev pub invariant-loop-index : goal.invariant-loop-index
invariant-loop-index l = l.tree ≡ with_more l.initial.tree l.copy (kept (take l.index (properties_of l.source l.node)))
